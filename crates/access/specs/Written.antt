-- What is written for the helpers and the access that the code hands over.
use Rattle.std.specs.Prelude.{Bool, false, not, ◌||◌, List, [], ◌∷◌, pos, Some, None, Option}
use Rattle.address.specs.declared.args.MemInstType.{MemInstType}
use Rattle.address.specs.declared.access.Access.{Access}
use Rattle.address.specs.declared.access.Aimed.{Aimed}
use Rattle.address.specs.Address.{Address, Mode, real, virtual, Helper, must_load, displaced}
use Rattle.address.specs.Aimed.{by}
use Rattle.address.specs.declared.access.Access.TheVariants.{Mem, MemRs, MemImm8, MemImm16, MemVrx}
use Rattle.form.specs.declared.Form.TheVariants.{RilB}
use Rattle.form.specs.Instr.{instr}
use Rattle.book.specs.declared.target.Target.{Target}
use Rattle.address.specs.Access.{access_instr, helper_instr}

-- whether the address stays relative to the instruction
abbrev pub stays_relative : MemInstType → Mode → Bool
stays_relative mi (real a) = not (displaced a || must_load mi a)
stays_relative mi (virtual v) = false

-- by RIL-b, the one row that is aimed
abbrev pub at_target : Access → Target → List Aimed
at_target (Mem rd rx rxy ril) t = by ril (Some t) (λ o. instr RilB o (pos rd.number ∷ []))
at_target (MemRs rd rn rs rsy) t = []
at_target (MemImm8 imm si siy) t = []
at_target (MemImm16 imm sil) t = []
at_target (MemVrx rd opcode m3) t = []

abbrev pub access_at : Access → Option Address → List Aimed
access_at a None = []
access_at a (Some x) = access_instr a x

abbrev pub helper_at : Option Helper → List Aimed
helper_at None = []
helper_at (Some h) = helper_instr h

-- of one helper or none
abbrev pub first_at : Option (Option Helper) → List Aimed
first_at None = []
first_at (Some o) = helper_at o
