-- Tests over what may be absent, and answers of tests in two lists.
use Rattle.std.proofs.Common.{◌≡◌, ℕ, Bool, true, false, cond, not, ◌&&◌, ◌||◌, List, [], ◌∷◌, ◌++◌, Some, None, Ok, Err, Option, Result, MatchResult, IsErrAnd, sym, refl, ap, ◌∙◌}
use Rattle.refusal.specs.declared.Reason.{Reason}
use Rattle.refusal.specs.declared.Refusal.{Refusal}
use Rattle.std.specs.Result.{is_ok}
use mathlib.Core.Bool.{false≢true}
use Rattle.refusal.specs.declared.Reason.TheVariants as why
use Rattle.refusal.specs.Refusals.{Checks, first_refusal, answered, answer, refused_at}
use Rattle.refusal.specs.Tests.{any, all}
use Rattle.catalogue_law.proofs.Basics.{ok_err, differ}
use Rattle.settle_law.specs.Settle.{first_of}
use Rattle.address.specs.Held.{listed, all_listed, when_ok}
use Rattle.section.proofs.Steps.{first_append}

or_all : (b r t : Bool) → r ≡ t → (b || r) ≡ ((b || false) || t)
or_all true r t e = refl
or_all false r t e = e

and_all : (b r t : Bool) → r ≡ t → (b && r) ≡ ((b && true) && t)
and_all true r t e = e
and_all false r t e = refl

-- a test of those that are there is one of all, where what is absent passes or fails
module _ {X : Type 0} (p : X → Bool) where
  pub any_given : (os : List (Option X)) → any p (all_listed os) ≡ any (λ o. any p (listed o)) os
  any_given [] = refl
  any_given (None ∷ os) = any_given os
  any_given (Some x ∷ os) = or_all (p x) (any p (all_listed os)) (any (λ o. any p (listed o)) os) (any_given os)

  pub all_given : (os : List (Option X)) → all p (all_listed os) ≡ all (λ o. all p (listed o)) os
  all_given [] = refl
  all_given (None ∷ os) = all_given os
  all_given (Some x ∷ os) = and_all (p x) (all p (all_listed os)) (all (λ o. all p (listed o)) os) (all_given os)

pub err_first : {X Y : Type 0} (cs ds : Checks) (x : X) (y : Y) (r : Reason) → Err r ≡ answered (first_refusal cs) x → Err r ≡ answered (first_refusal (cs ++ ds)) y
err_first {X} {Y} cs ds x y r h = go (first_refusal cs) h ∙ ap (λ (o : Option Reason). answered o y) (sym (first_append cs ds))
  where
    go : (o : Option Reason) → Err r ≡ answered o x → Err r ≡ answered (first_of o (first_refusal ds)) y
    go None k = absurd (ok_err refl (sym k))
    go (Some q) k = let e : r ≡ q = cc in ap (λ (z : Reason). Err z) e

some_answer : {X : Type 0} (at : ℕ) (o : Option Reason) (x : X) {u : X} → Ok u ≡ answer at o x → Ok u ≡ answered o x
some_answer at None x {u} h = let e : u ≡ x = cc in ap Ok e
some_answer at (Some q) x h = absurd (ok_err refl h)

pub passed_first : {X : Type 0} (cs ds : Checks) (x : X) {u : X} → Ok u ≡ answered (first_refusal cs) x → first_refusal (cs ++ ds) ≡ first_refusal ds
passed_first {X} cs ds x {u} h = first_append cs ds ∙ go (first_refusal cs) h
  where
    go : (o : Option Reason) → Ok u ≡ answered o x → first_of o (first_refusal ds) ≡ first_refusal ds
    go None k = refl
    go (Some q) k = absurd (ok_err refl k)

pub ok_first : {X : Type 0} (at : ℕ) (cs ds : Checks) (x : X) {u : X} → Ok u ≡ answer at (first_refusal cs) x → first_refusal (cs ++ ds) ≡ first_refusal ds
ok_first at cs ds x h = passed_first cs ds x (some_answer at (first_refusal cs) x h)

-- an answer whose reason was given its place
pub placed_by : {X Y : Type 0} (f : X → Y) (at : ℕ) (o : Option Reason) (y : Y) {Q : Reason → Refusal → Type 0} (r : Result X Reason) (out : Result X Refusal)
    → when_ok f r ≡ answered o y → is_ok out ≡ is_ok r → MatchResult r (λ x. out ≡ Ok x) (λ e. IsErrAnd out (Q e)) → ((e : Reason) (q : Refusal) → Q e q → q ≡ refused_at at e)
    → when_ok f out ≡ answer at o y
placed_by f at None y (Ok x) out h v m k = let e : f x ≡ y = cc in ap (when_ok f) m ∙ ap Ok e
placed_by f at None y (Err e) out h v m k = absurd (ok_err refl (sym h))
placed_by f at (Some p) y (Ok x) out h v m k = absurd (ok_err refl h)
placed_by f at (Some p) y (Err e) (Ok x) h v m k = absurd (false≢true (sym v))
placed_by f at (Some p) y (Err e) (Err q) h v m k = let s : e ≡ p = cc in ap Err (k e q m ∙ ap (refused_at at) s)

abbrev two : Bool → Bool → Result (Unit {0}) Reason
two a b = answered (cond a (Some why.Misfit) (cond (not b) (Some why.Opcode) None)) tt

pub misfitting : (a b : Bool) → a ≡ true → Err why.Misfit ≡ two a b
misfitting true b h = refl
misfitting false b h = absurd (differ h refl)

pub not_held : (a b : Bool) → a ≡ false → b ≡ false → Err why.Opcode ≡ two a b
not_held true b h k = absurd (differ refl h)
not_held false true h k = absurd (differ refl k)
not_held false false h k = refl

pub all_right : (a b : Bool) → a ≡ false → b ≡ true → Ok tt ≡ two a b
all_right true b h k = absurd (differ refl h)
all_right false true h k = refl
all_right false false h k = absurd (differ k refl)
