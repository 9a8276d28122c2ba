-- Addresses: what an access names, and the instructions that help to reach it.
use Rattle.std.specs.Prelude.{ℕ, ◌+◌, ◌^◌, Bool, true, false, cond, not, ◌&&◌, ◌||◌, List, [], ◌∷◌, ◌++◌, ℤ, pos, ◌+ℤ◌, ◌-ℤ◌, Some, None, Option, Result, ◌==◌, nat_le}
use Rattle.refusal.specs.declared.Reason.{Reason}
use Rattle.refusal.specs.declared.Refusal.{Refusal}
use Rattle.refusal.specs.declared.Reason.TheVariants as why
use Rattle.operand.specs.declared.reg.Reg.{Reg}
use Rattle.address.specs.declared.args.MachMemFlags.{MachMemFlags}
use Rattle.address.specs.declared.args.MemArg.{MemArg}
use Rattle.address.specs.declared.args.MemArg.TheVariants.{BXD12, BXD20, Label, Constant, Symbol, RegOffset, InitialSPOffset, IncomingArgOffset, OutgoingArgOffset, SlotOffset, SpillOffset}
use Rattle.address.specs.declared.frame.Frame.{Frame}
use Rattle.address.specs.declared.args.Offset.{Offset}
use Rattle.address.specs.declared.args.MemInstType.{MemInstType}
use Rattle.refusal.specs.Refusals.{answer, Checks, ◌when◌, first_refusal}
use Rattle.operand.specs.Registers.{gpr}
use Rattle.address.specs.Convention.{zero_reg, int_reg, Convention}
use Rattle.refusal.specs.Numbers.{plain, twos, within}
use Rattle.book.specs.declared.target.Target.{Target}
use Rattle.book.specs.declared.target.Target.TheVariants.{Label as to_label, Symbol as to_symbol}

abbrev pub trusted : MachMemFlags
trusted = record { aligned = true; trap = 0 }

-- An address as an instruction can hold it.
pub data Address : Type 0 where
  bxd12 : Reg → Reg → ℤ → MachMemFlags → Address  -- base, index, unsigned 12-bit displacement
  bxd20 : Reg → Reg → ℤ → MachMemFlags → Address  -- base, index, signed 20-bit displacement
  label : ℕ → Address
  constant : ℕ → Address
  symbol : ℕ → ℤ → MachMemFlags → Address  -- with an offset

-- An offset from a register, of any size: `off` + the sum of frame sizes − `less`.
abbrev pub adjustment : Offset → ℤ
adjustment v = pos v.sizes -ℤ pos v.less

abbrev pub total : Offset → ℤ
total v = v.off +ℤ adjustment v

pub data Mode : Type 0 where
  real : Address → Mode
  virtual : Offset → Mode

abbrev pub on_stack : Convention → ℤ → ℕ → ℕ → Mode
on_stack C off sizes less = virtual (record { base = int_reg C.stack; off = off; sizes = sizes; less = less; flags = trusted })

abbrev pub mode : Convention → Frame → MemArg → Mode
mode C fr (BXD12 base index disp flags) = real (bxd12 base index (pos disp.value) flags)
mode C fr (BXD20 base index disp flags) = real (bxd20 base index disp.value flags)
mode C fr (Label target) = real (label target)
mode C fr (Constant number) = real (constant number)
mode C fr (Symbol name offset flags) = real (symbol name offset flags)
mode C fr (RegOffset reg off flags) = virtual (record { base = reg; off = off; sizes = 0; less = 0; flags = flags })
mode C fr (InitialSPOffset off) =
    on_stack C off (fr.clobber_size + fr.fixed_frame_storage_size + fr.outgoing_args_size + fr.nominal_sp_offset) 0
mode C fr (IncomingArgOffset off) =
    on_stack C off (fr.incoming_args_size + C.save_area + fr.clobber_size + fr.fixed_frame_storage_size + fr.outgoing_args_size + fr.nominal_sp_offset) 0
mode C fr (OutgoingArgOffset off) = on_stack C off C.save_area fr.outgoing_sp_offset
mode C fr (SlotOffset off) = on_stack C off (fr.outgoing_args_size + fr.nominal_sp_offset) 0
mode C fr (SpillOffset off) = on_stack C off (fr.stackslots_size + fr.outgoing_args_size + fr.nominal_sp_offset) 0

-- the label or symbol that it names, if any
abbrev pub target_of : Mode → Option Target
target_of (real (bxd12 b x d _)) = None
target_of (real (bxd20 b x d _)) = None
target_of (real (label l)) = Some (to_label l)
target_of (real (constant c)) = None
target_of (real (symbol n offset _)) = Some (to_symbol n offset)
target_of (virtual v) = None

abbrev pub is_constant : Mode → Bool
is_constant (real (bxd12 b x d _)) = false
is_constant (real (bxd20 b x d _)) = false
is_constant (real (label l)) = false
is_constant (real (constant c)) = true
is_constant (real (symbol n offset _)) = false
is_constant (virtual v) = false

-- Finalizing: the instructions that come first, and the address that is left for the access.

-- each sets its register
pub data Helper : Type 0 where
  lgfi : Reg → ℤ → Helper  -- to this number
  load_address : Reg → Address → Helper  -- to this address

-- at most two come first
pub data Helpers : Type 0 where
  no_helper : Helpers
  one_helper : Helper → Helpers
  two_helpers : Helper → Helper → Helpers

abbrev pub list_of : Helpers → List Helper
list_of no_helper = []
list_of (one_helper h) = h ∷ []
list_of (two_helpers h k) = h ∷ k ∷ []

abbrev pub only : Option Helper → Helpers
only None = no_helper
only (Some h) = one_helper h

abbrev pub also : Option Helper → Helper → Helpers
also None k = one_helper k
also (Some h) k = two_helpers h k

-- the displacement that fits is taken; a larger offset goes into the temporary
abbrev pub resolved : Convention → Mode → Option Helper × Address
resolved C (real a) = (None, a)
resolved C (virtual v) =
    cond (within (plain 12) (total v)) (None, bxd12 v.base (int_reg zero_reg) (total v) v.flags)
    (cond (within (twos 20) (total v)) (None, bxd20 v.base (int_reg zero_reg) (total v) v.flags)
    (Some (lgfi (int_reg C.temporary) (total v)), bxd12 v.base (int_reg C.temporary) (pos 0) v.flags))

abbrev pub indexed : Reg → Bool
indexed index = not (index.number == zero_reg)

-- whether the instruction lacks this addressing, and takes a loaded address instead
abbrev pub must_load : MemInstType → Address → Bool
must_load mi (bxd12 base index disp flags) = not mi.have_index && indexed index
must_load mi (bxd20 base index disp flags) = not mi.have_d20 || not mi.have_index && indexed index
must_load mi (label l) = not mi.have_pcrel
must_load mi (constant c) = not mi.have_pcrel
must_load mi (symbol n offset flags) = not mi.have_pcrel || not mi.have_unaligned_pcrel && not flags.aligned

abbrev pub flags_of : Address → MachMemFlags
flags_of (bxd12 base index disp flags) = flags
flags_of (bxd20 base index disp flags) = flags
flags_of (label l) = trusted
flags_of (constant c) = trusted
flags_of (symbol n offset flags) = flags

abbrev pub flags_in : Mode → MachMemFlags
flags_in (real a) = flags_of a
flags_in (virtual v) = v.flags

abbrev pub loaded : Convention → MemInstType → Option Helper → Address → Helpers × Address
loaded C mi h a =
    cond (must_load mi a)
    (also h (load_address (int_reg C.temporary) a), bxd12 (int_reg C.temporary) (int_reg zero_reg) (pos 0) (flags_of a))
    (only h, a)

-- a short displacement is written long where only that is permitted
abbrev pub widened : MemInstType → Address → Address
widened mi (bxd12 base index disp flags) = cond mi.have_d12 (bxd12 base index disp flags) (bxd20 base index disp flags)
widened mi (bxd20 base index disp flags) = bxd20 base index disp flags
widened mi (label l) = label l
widened mi (constant c) = constant c
widened mi (symbol n offset flags) = symbol n offset flags

abbrev pub finalize : Convention → MemInstType → Frame → MemArg → Helpers × Address
finalize C mi fr m =
    let r = resolved C (mode C fr m) in
    let l = loaded C mi r.0 r.1 in
    (l.0, widened mi l.1)

-- Why an address is refused.

abbrev pub registers_fit : MemArg → Bool
registers_fit (BXD12 base index disp flags) = gpr base && gpr index
registers_fit (BXD20 base index disp flags) = gpr base && gpr index
registers_fit (Label target) = true
registers_fit (Constant number) = true
registers_fit (Symbol name offset flags) = true
registers_fit (RegOffset reg off flags) = gpr reg
registers_fit (InitialSPOffset off) = true
registers_fit (IncomingArgOffset off) = true
registers_fit (OutgoingArgOffset off) = true
registers_fit (SlotOffset off) = true
registers_fit (SpillOffset off) = true

abbrev pub frame_overflows : Mode → Bool
frame_overflows (real a) = false
frame_overflows (virtual v) = nat_le (2 ^ 32) v.sizes || not (within (twos 64) (total v))

-- the offset would have to go into the register that it starts from
abbrev pub needs_its_base : Convention → Mode → Bool
needs_its_base C (real a) = false
needs_its_base C (virtual v) = v.base.number == C.temporary && not (within (twos 20) (total v))

abbrev pub too_far : Mode → Bool
too_far (real a) = false
too_far (virtual v) = not (within (twos 32) (total v))

abbrev pub displaced : Address → Bool
displaced (bxd12 base index disp flags) = true
displaced (bxd20 base index disp flags) = true
displaced (label l) = false
displaced (constant c) = false
displaced (symbol n offset flags) = false

-- the address is displaced, and the instruction has no form for that
abbrev pub lacks_form : MemInstType → Address → Bool
lacks_form mi a = displaced a && not (mi.have_d12 || mi.have_d20)

-- FRAME, TEMPORARY and FAR
abbrev pub mode_checks : Convention → Mode → Checks
mode_checks C md =
    why.Frame when frame_overflows md
    ∷ why.Temporary when needs_its_base C md
    ∷ why.Far when too_far md
    ∷ []

abbrev pub form_checks : MemInstType → Address → Checks
form_checks mi a = why.Form when lacks_form mi a ∷ []

abbrev pub finalize_refusal : Convention → MemInstType → Frame → MemArg → Option Reason
finalize_refusal C mi fr m =
    first_refusal (why.Operand when not (registers_fit m) ∷ (mode_checks C (mode C fr m) ++ form_checks mi (finalize C mi fr m).1))

-- the whole answer of finalizing, at place 0: the helpers and the address that is left
abbrev pub finalize_answer : Convention → MemInstType → Frame → MemArg → Result (Helpers × Address) Refusal
finalize_answer C mi fr m = answer 0 (finalize_refusal C mi fr m) (finalize C mi fr m)
