use Rattle.std.proofs.Common.{◌≡◌, ℕ, zero, suc, ◌-◌, ◌<◌, not, sym, subst, arith}
use lib.Bits.{bit_and}
use Rattle.std.proofs.lemmas.Nat.{and_mask}
use Rattle.std.proofs.lemmas.Bool.Decides.{nat_tests}
use Rattle.condition.specs.Masks.{selects}
use Rattle.condition.proofs.cond.Cond.invert.Goals as goal

-- the other mask selects the other codes
others : (m code : ℕ) → m < 16 → code < 4 → selects (15 - m) code ≡ not (selects m code)
others m zero h k = grind (arith, nat_tests)
others m (suc zero) h k = grind (arith, nat_tests)
others m (suc (suc zero)) h k = grind (arith, nat_tests)
others m (suc (suc (suc zero))) h k = grind (arith, nat_tests)
others m (suc (suc (suc (suc n)))) h k = absurd (omega arith)

pub returns : goal.returns
returns c =
    let m = c.args.self.mask in
    let h : m < 16 = c.args.self.small in
    let e : bit_and (255 - m) 15 ≡ 15 - m = omega (arith, and_mask (255 - m) 4) in
    record { is = e; negates = λ code k. subst (λ x. selects x code ≡ not (selects m code)) (sym e) (others m code h k) }
