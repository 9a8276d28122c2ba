use Rattle.std.proofs.Common.{◌≡◌, true, false, refl, sym, ◌∙◌}
use Rattle.operand.specs.Registers.{fpr, is_float}
use Rattle.operand.proofs.Classes.{same_float}
use Rattle.operand.proofs.reg.is_fpr.Goals as goal

pub returns-then-eq : goal.returns-then-eq
unfolding fpr
returns-then-eq c =
    let e : is_float c.args.r.class ≡ true = sym (same_float c.args.r.class) ∙ (sym c.eq.ensures ∙ c.if-eq.true) in
    rw e refl

pub returns-else-eq : goal.returns-else-eq
unfolding fpr
returns-else-eq c =
    let e : is_float c.args.r.class ≡ false = sym (same_float c.args.r.class) ∙ (sym c.eq.ensures ∙ c.if-eq.false) in
    rw e c.if-eq.false
