-- What writing answers, from what encoding answered.
use Rattle.std.proofs.Common.{◌≡◌, ℕ, IsErrAnd, Ok, Err, Option, Some, None, Result, MatchResult, sym, ap, subst, ◌∙◌}
use mathlib.Core.Bool.{false≢true}
use Rattle.refusal.specs.declared.Reason.{Reason}
use Rattle.refusal.specs.declared.Refusal.{Refusal}
use Rattle.refusal.specs.Refusals.{answered, answer, refused_at}
use Rattle.std.specs.Result.{is_ok}

-- an answer whose reason was given its place by a closure
pub placed : {X : Type 0} {Q : Reason → Refusal → Type 0} (place : ℕ) (o : Option Reason) (x : X) (e : Result X Reason) (r : Result X Refusal) → e ≡ answered o x
    → is_ok r ≡ is_ok e → MatchResult e (λ v. r ≡ Ok v) (λ y. IsErrAnd r (Q y)) → ((y : Reason) (f : Refusal) → Q y f → f ≡ refused_at place y) → r ≡ answer place o x
placed {X} {Q} place None x e r h v m q = subst (λ e. MatchResult e (λ v. r ≡ Ok v) (λ y. IsErrAnd r (Q y))) h m
placed {X} {Q} place (Some y) x e (Ok z) h v m q = absurd (false≢true (ap is_ok (sym h) ∙ sym v))
placed {X} {Q} place (Some y) x e (Err f) h v m q =
    ap Err (q y f (subst (λ e. MatchResult e (λ v. ◌≡◌ {A = Result X Refusal} (Err f) (Ok v)) (λ y. Q y f)) h m))
