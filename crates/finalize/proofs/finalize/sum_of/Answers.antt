use Rattle.std.proofs.Common.{◌≡◌, ℕ, ◌<◌, ◌^◌, Some, Ok, Err, Result, ◌∙◌, arith}
use Rattle.std.specs.Result.{OkIff, result_ok}
use Rattle.std.proofs.lemmas.Int.{ints}
use Rattle.finalize.proofs.Finalizing.{sum_is}
use Rattle.finalize.proofs.finalize.sum_of.Goals as goal

narrowed : {E : Type 0} (r : Result ℕ E) (n x : ℕ) → OkIff r (n < 2 ^ 32) n → Some x ≡ result_ok r → (n < 2 ^ 32) × (x ≡ n)
narrowed (Ok y) n x h i = let e : x ≡ y = cc in (h.0, e ∙ h.1)
narrowed (Err e) n x h i = cc

pub returns : goal.returns
returns c =
    let n = narrowed c.try_from.result c.args.v.now.sizes c.in_ok-sizes.sizes c.try_from.ensures c.in_ok-sizes.ensures.value in
    sum_is c.args.v.now _ c.checked_add.result n.0 (omega (arith, ints)) c.checked_add.ensures
