use Rattle.std.proofs.Common.{◌≡◌, true, false, refl, sym, ◌∙◌}
use Rattle.operand.specs.Registers.{gpr, is_int}
use Rattle.operand.proofs.Classes.{same_int}
use Rattle.operand.proofs.reg.is_gpr.Goals as goal

pub returns-then-eq : goal.returns-then-eq
unfolding gpr
returns-then-eq c =
    let e : is_int c.args.r.class ≡ true = sym (same_int c.args.r.class) ∙ (sym c.eq.ensures ∙ c.if-eq.true) in
    rw e refl

pub returns-else-eq : goal.returns-else-eq
unfolding gpr
returns-else-eq c =
    let e : is_int c.args.r.class ≡ false = sym (same_int c.args.r.class) ∙ (sym c.eq.ensures ∙ c.if-eq.false) in
    rw e c.if-eq.false
