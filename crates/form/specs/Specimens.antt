-- Worked examples of single instructions.
use Rattle.std.specs.Prelude.{◌≡◌, ℕ, [], ◌∷◌, pos, negsuc}
use Rattle.operand.specs.declared.reg.RegClass.TheVariants.{Int, Float}
use Rattle.operand.specs.declared.reg.Reg.{Reg}
use Rattle.form.specs.declared.Form.TheVariants.{RiC, Rre, Rx, Rxy, VrrE, Vrx}
use Rattle.form.specs.Encode.{encode}
use Rattle.form.specs.Encoders.{register, numeral, encoder}

abbrev int_reg : ℕ → Reg
int_reg n = record { class = Int; number = n }

abbrev float_reg : ℕ → Reg
float_reg n = record { class = Float; number = n }

pub record InstructionSpecimens : Type 0 where
  -- b9080023
  pub rre : encode Rre 0xB908 (pos 2 ∷ pos 3 ∷ []) ≡ 0xb9 ∷ 0x08 ∷ 0x00 ∷ 0x23 ∷ []
  -- 58132123
  pub rx : encode Rx 0x58 (pos 1 ∷ pos 2 ∷ pos 3 ∷ pos 0x123 ∷ []) ≡ 0x58 ∷ 0x13 ∷ 0x21 ∷ 0x23 ∷ []
  -- e310ffffff71
  pub rxy : encode Rxy 0xE371 (pos 1 ∷ pos 15 ∷ pos 0 ∷ negsuc 0 ∷ []) ≡ 0xe3 ∷ 0x10 ∷ 0xff ∷ 0xff ∷ 0xff ∷ 0x71 ∷ []
  -- e71020100806
  pub vrx : encode Vrx 0xE706 (pos 17 ∷ pos 2 ∷ pos 0 ∷ pos 16 ∷ pos 0 ∷ []) ≡ 0xe7 ∷ 0x10 ∷ 0x20 ∷ 0x10 ∷ 0x08 ∷ 0x06 ∷ []
  -- e7123000418c
  pub vrr_e : encode VrrE 0xE78C (pos 1 ∷ pos 2 ∷ pos 3 ∷ pos 20 ∷ pos 0 ∷ pos 0 ∷ []) ≡ 0xe7 ∷ 0x12 ∷ 0x30 ∷ 0x00 ∷ 0x41 ∷ 0x8c ∷ []
  -- a784fffe
  pub ri_c : encode RiC 0xA74 (pos 8 ∷ negsuc 3 ∷ []) ≡ 0xa7 ∷ 0x84 ∷ 0xff ∷ 0xfe ∷ []
  -- an encoder's answer, and its refusal of a float register as a base
  pub encoded : encoder Rre 0xB908 (register (int_reg 2) ∷ register (int_reg 3) ∷ []) ≡ (0xb9 ∷ 0x08 ∷ 0x00 ∷ 0x23 ∷ [], 0)
  pub refused : encoder Rx 0x58 (register (int_reg 1) ∷ register (float_reg 2) ∷ register (int_reg 3) ∷ numeral (pos 0x123) ∷ []) ≡ (0 ∷ 0 ∷ 0 ∷ 0 ∷ [], 6)
