-- Worked examples: addresses, an access with two helpers byte by byte, and single instructions.
use Rattle.std.specs.Prelude.{◌≡◌, ℕ, true, false, [], ◌∷◌, map, ℤ, pos, negsuc, Some, None, Ok, Err}
use Rattle.refusal.specs.declared.Reason.TheVariants as why
use Rattle.refusal.specs.declared.Layer.TheVariants as layer
use Rattle.form.specs.declared.Form.TheVariants.{RilB, Sil}
use Rattle.form.specs.Instr.{bytes_of, instr}
use Rattle.form.specs.Specimens.{InstructionSpecimens}
use Rattle.address.specs.declared.args.MemArg.{MemArg}
use Rattle.address.specs.declared.args.MemArg.TheVariants.{Label, RegOffset}
use Rattle.address.specs.declared.args.MemInstType.{MemInstType}
use Rattle.address.specs.declared.frame.Frame.{Frame}
use Rattle.address.specs.declared.access.Access.TheVariants.{MemImm16}
use Rattle.address.specs.Convention.{int_reg, standard, lawful_convention}
use Rattle.address.specs.Address.{bxd12, bxd20, lgfi, load_address, no_helper, two_helpers, trusted, finalize, finalize_answer}
use Rattle.address.specs.Access.{permitted, plan, planning_refusal}
use Rattle.address_law.specs.Reaching.{laid_out}

-- an offset from a register
abbrev pub from_register : ℕ → ℤ → MemArg
from_register r off = RegOffset (int_reg r) off trusted

abbrev pub no_frame : Frame
no_frame =
    record { incoming_args_size = 0; clobber_size = 0; fixed_frame_storage_size = 0; stackslots_size = 0; outgoing_args_size = 0; nominal_sp_offset = 0; outgoing_sp_offset = 0 }

abbrev pub all_permitted : MemInstType
all_permitted = record { have_d12 = true; have_d20 = true; have_pcrel = true; have_unaligned_pcrel = true; have_index = true }

pub record AddressSpecimens : Type 0 where
  pub convention : lawful_convention standard ≡ true
  -- SIL 0xE544 with −1, 524,288 from register 2: c01100080000, 41112000, e5441000ffff
  pub sil : map (λ w. bytes_of w.instr) (plan standard (MemImm16 (negsuc 0) 0xE544) false (from_register 2 (pos 524288)) no_frame).items
      ≡ (0xc0 ∷ 0x11 ∷ 0x00 ∷ 0x08 ∷ 0x00 ∷ 0x00 ∷ []) ∷ (0x41 ∷ 0x11 ∷ 0x20 ∷ 0x00 ∷ []) ∷ (0xe5 ∷ 0x44 ∷ 0x10 ∷ 0x00 ∷ 0xff ∷ 0xff ∷ []) ∷ []
  pub sil_accepted : planning_refusal standard (plan standard (MemImm16 (negsuc 0) 0xE544) false (from_register 2 (pos 524288)) no_frame) false ≡ None
  -- the same at a label at place 20, from place 100 on: LARL holds the distance from itself
  pub at_label : laid_out (λ t. Some (pos 20)) 100 (plan standard (MemImm16 (negsuc 0) 0xE544) false (Label 3) no_frame).items
      ≡ record { place = 100; instr = instr RilB 0xC00 (pos 1 ∷ negsuc 79 ∷ []) } ∷ record { place = 106; instr = instr Sil 0xE544 (pos 1 ∷ pos 0 ∷ negsuc 0 ∷ []) } ∷ []
  -- from register 2, everything permitted
  pub short : finalize_answer standard all_permitted no_frame (from_register 2 (pos 4095)) ≡ Ok (no_helper, bxd12 (int_reg 2) (int_reg 0) (pos 4095) trusted)
  pub long : finalize_answer standard all_permitted no_frame (from_register 2 (pos 4096)) ≡ Ok (no_helper, bxd20 (int_reg 2) (int_reg 0) (pos 4096) trusted)
  pub negative : finalize_answer standard all_permitted no_frame (from_register 2 (negsuc 0)) ≡ Ok (no_helper, bxd20 (int_reg 2) (int_reg 0) (negsuc 0) trusted)
  pub far : finalize_answer standard all_permitted no_frame (from_register 2 (pos 2147483648)) ≡ Err (record { reason = why.Far; place = 0; layer = layer.Address })
  pub temporary : finalize_answer standard all_permitted no_frame (from_register 1 (pos 2147483648)) ≡ Err (record { reason = why.Temporary; place = 0; layer = layer.Address })
  -- 524,288 from register 2 for SIL
  pub two : finalize standard (permitted (MemImm16 (negsuc 0) 0xE544) false) no_frame (from_register 2 (pos 524288))
      ≡ (two_helpers (lgfi (int_reg 1) (pos 524288)) (load_address (int_reg 1) (bxd12 (int_reg 2) (int_reg 1) (pos 0) trusted)), bxd12 (int_reg 1) (int_reg 0) (pos 0) trusted)
  -- single instructions, byte by byte
  pub instructions : InstructionSpecimens
