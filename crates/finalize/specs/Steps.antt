-- The steps of finalizing, as the code takes them.
use Rattle.std.specs.Prelude.{cond, ◌++◌, ℤ, pos, ◌==◌, Some, None, Ok, Err, Option, Result}
use Rattle.refusal.specs.declared.Reason.TheVariants as why
use Rattle.refusal.specs.Numbers.{plain, twos, within}
use Rattle.operand.specs.declared.reg.Reg.{Reg}
use Rattle.address.specs.declared.args.MachMemFlags.{MachMemFlags}
use Rattle.address.specs.declared.args.Offset.{Offset}
use Rattle.refusal.specs.declared.Reason.{Reason}
use Rattle.refusal.specs.Refusals.{first_refusal, answered, when_some}
use Rattle.address.specs.declared.args.MemArg.{MemArg}
use Rattle.address.specs.declared.args.MemInstType.{MemInstType}
use Rattle.address.specs.declared.args.Helper as args
use Rattle.address.specs.declared.frame.Frame.{Frame}
use Rattle.address.specs.Convention.{zero_reg, int_reg, Convention}
use Rattle.address.specs.Address.{Address, bxd12, bxd20, lgfi, Mode, mode, Helper, Helpers, one_helper, two_helpers, only, resolved, loaded, widened, finalize, mode_checks, form_checks}
use Rattle.address.specs.Held.{held, helper_of, both}

-- one helper or none
abbrev pub first_in : Option args.Helper → Option (Option Helper)
first_in None = Some None
first_in (Some h) = when_some (λ k. Some k) (helper_of h)

-- at most one helper, and an address
abbrev pub part_in : Option args.Helper × MemArg → Option (Option Helper × Address)
part_in p = both (λ h a. (h, a)) (first_in p.0) (held p.1)

-- the helpers of two steps, each with one or none
abbrev pub joined_in : Option args.Helper → Option args.Helper → Option Helpers
joined_in None k = when_some only (first_in k)
joined_in (Some h) None = when_some one_helper (helper_of h)
joined_in (Some h) (Some k) = both two_helpers (helper_of h) (helper_of k)

-- the displacement that fits this sum, if one does
abbrev pub displacement : Reg → MachMemFlags → ℤ → Option (Option Address)
displacement base flags z =
    cond (within (plain 12) z) (Some (Some (bxd12 base (int_reg zero_reg) z flags)))
    (cond (within (twos 20) z) (Some (Some (bxd20 base (int_reg zero_reg) z flags))) None)

-- the sum in the temporary, as an index
abbrev pub temporary_answer : Convention → Offset → ℤ → Result (Option (Option Helper × Address)) Reason
temporary_answer C v z =
    cond (v.base.number == C.temporary) (Err why.Temporary)
    (cond (within (twos 32) z) (Ok (Some (Some (lgfi (int_reg C.temporary) z), bxd12 v.base (int_reg C.temporary) (pos 0) v.flags))) (Err why.Far))

abbrev pub resolve_answer : Convention → Mode → Result (Option (Option Helper × Address)) Reason
resolve_answer C md = answered (first_refusal (mode_checks C md)) (Some (resolved C md))

abbrev pub load_answer : Convention → MemInstType → Option (Option Helper × Address) → Option (Helpers × Address)
load_answer C mi None = None
load_answer C mi (Some p) = Some (loaded C mi p.0 p.1)

abbrev pub widen_answer : MemInstType → Option Address → Result (Option Address) Reason
widen_answer mi None = Ok None
widen_answer mi (Some a) = answered (first_refusal (form_checks mi a)) (Some (widened mi a))

-- FRAME to FORM
abbrev pub steps_refusal : Convention → MemInstType → Frame → MemArg → Option Reason
steps_refusal C mi fr m = first_refusal (mode_checks C (mode C fr m) ++ form_checks mi (finalize C mi fr m).1)

abbrev pub steps_answer : Convention → MemInstType → Frame → MemArg → Result (Option (Helpers × Address)) Reason
steps_answer C mi fr m = answered (steps_refusal C mi fr m) (Some (finalize C mi fr m))
