use Rattle.std.proofs.Common.{◌≡◌, ◌/◌, ◌-◌, ◌<◌, ◌≤◌, arith, sym, ap, ◌∙◌, subst}
use Rattle.operand.specs.Imms.{shift_from}
use Rattle.operand.proofs.Shifts.{means, met, unmet}
use Rattle.operand.proofs.imms.Shifted.maybe_from_u64.Goals as goal

pub returns-then-widened-low : goal.returns-then-widened-low
returns-then-widened-low g c =
    let w = g.T.Digit.width in
    let k = c.loop-shift.shift in
    let v = c.args.value in
    let below = subst (λ x. k < 64 / x) c.bits-shift-end.ensures c.loop-shift-test.true in
    let e = sym (met w _ (64 / w) k v _ c.bits.ensures c.ranges.value.fits below c.low-bits.ensures (rw (sym c.widened.ensures) c.if-widened-low.true)) ∙ c.loop-shift.invariant in
    record { is = e; means = means w (64 / w) v _ e }

pub loop-shift-preserved : goal.loop-shift-preserved
loop-shift-preserved g c =
    let w = g.T.Digit.width in
    let k = c.loop-shift.shift in
    let v = c.args.value in
    let below = subst (λ x. k < 64 / x) c.bits-shift-end.ensures c.loop-shift-test.true in
    sym (unmet w _ (64 / w) k v _ c.bits.ensures c.ranges.value.fits below c.low-bits.ensures (λ e. c.if-widened-low.false (rw c.widened.ensures e))) ∙ c.loop-shift.invariant

pub returns : goal.returns
returns g c =
    let w = g.T.Digit.width in
    let k = c.loop-shift.shift in
    let v = c.args.value in
    let past : 64 / w ≤ k = subst (λ x. 64 / x ≤ k) c.bits-shift-end.ensures c.loop-shift-test.false in
    let ended : 64 / w - k ≡ 0 = omega (arith, past) in
    let e = ap (λ i. shift_from w i k v) (sym ended) ∙ c.loop-shift.invariant in
    record { is = e; means = means w (64 / w) v _ e }
