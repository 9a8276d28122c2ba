-- All uses, one after another.
use Rattle.std.proofs.Common.{◌≡◌, ℕ, zero, suc, ◌+◌, ◌<◌, ◌≤◌, List, [], ◌∷◌, length, get_or, take, ℤ, Some, None, Ok, Err, Option, sym, refl, ap, ◌∙◌, le_of_suc-le-suc, not-suc-le-zero, add-one, arith, take_all}
use Rattle.refusal.specs.declared.Refusal.{Refusal}
use Rattle.refusal.specs.Refusals.{Answer, answered}
use Rattle.field.specs.Family.{Family}
use Rattle.book.specs.declared.target.Target.{Target}
use Rattle.book.specs.declared.target.Target.TheVariants.{Label as to_label}
use Rattle.book.specs.declared.target.Use.{Use}
use Rattle.settle_law.specs.Settle.{family_for, first_of, distance_refused, uses_refusal, patched_to, patched_all}
use Rattle.settle.specs.Plan.{distance_from, planned, filled}
use Rattle.settle.proofs.OneUse.{refused_for, refused_is, filled_is, planned_ok, planned_no}

-- the use at a place in the list, whatever stands past its end
abbrev pub no_use : Use
no_use = record { place = 0; kind = 0; target = to_label 0 }

module _ (L S : Family) (where_is : Target → Option ℤ) where
  -- why this use is refused
  abbrev refusal_of : List ℕ → Use → Option Refusal
  refusal_of code u = distance_refused (family_for L S u.target).fields u code (where_is u.target)

  none_of : (o p : Option Refusal) → first_of o p ≡ None → (o ≡ None) × (p ≡ None)
  none_of None p h = (refl, h)
  none_of (Some e) p h = let z : ◌≡◌ {A = ℕ} 0 1 = cc in absurd (omega arith)

  module _ (code : List ℕ) where
    passed_more : (us : List Use) (i : ℕ) → i < length us → uses_refusal L S where_is code (take i us) ≡ None → refusal_of code (get_or us i no_use) ≡ None → uses_refusal L S where_is code (take (suc i) us) ≡ None
    passed_more [] i h c e = absurd (not-suc-le-zero h)
    passed_more (u ∷ us) zero h c e = ap (λ (o : Option Refusal). first_of o None) e
    passed_more (u ∷ us) (suc i) h c e =
        let t = none_of (refusal_of code u) (uses_refusal L S where_is code (take i us)) c in
        ap (λ (o : Option Refusal). first_of o (uses_refusal L S where_is code (take (suc i) us))) t.0 ∙ passed_more us i (le_of_suc-le-suc h) t.1 e

    stopped : (us : List Use) (i : ℕ) (r : Refusal) → i < length us → uses_refusal L S where_is code (take i us) ≡ None → refusal_of code (get_or us i no_use) ≡ Some r → uses_refusal L S where_is code us ≡ Some r
    stopped [] i r h c e = absurd (not-suc-le-zero h)
    stopped (u ∷ us) zero r h c e = ap (λ (o : Option Refusal). first_of o (uses_refusal L S where_is code us)) e
    stopped (u ∷ us) (suc i) r h c e =
        let t = none_of (refusal_of code u) (uses_refusal L S where_is code (take i us)) c in
        ap (λ (o : Option Refusal). first_of o (uses_refusal L S where_is code us)) t.0 ∙ stopped us i r (le_of_suc-le-suc h) t.1 e

    -- what the loop that checks has shown
    module _ (us : List Use) (i : ℕ) where
      abbrev here : Use
      here = get_or us i no_use

      module _ (within : i < length us) (so_far : uses_refusal L S where_is code (take i us) ≡ None) (w : Option ℤ) (is : w ≡ distance_from here.place (where_is here.target)) where
        said : refused_for (family_for L S here.target).fields here code w ≡ refusal_of code here
        said = ap (refused_for (family_for L S here.target).fields here code) is ∙ refused_is (family_for L S here.target).fields here code (where_is here.target)

        pub checked_more : (d : ℤ) → Ok d ≡ planned (family_for L S here.target).fields here (length code) w → uses_refusal L S where_is code (take (i + 1) us) ≡ None
        checked_more d h = rw add-one (passed_more us i within so_far (sym said ∙ (planned_ok (family_for L S here.target).fields here code w d h).1))

        pub checked_stop : (e : Refusal) → Err e ≡ planned (family_for L S here.target).fields here (length code) w → ◌≡◌ {A = Answer} (Err e) (answered (uses_refusal L S where_is code us) tt)
        checked_stop e h = sym (ap (λ (o : Option Refusal). answered {X = Unit {0}} o tt) (stopped us i e within so_far (sym said ∙ planned_no (family_for L S here.target).fields here code w e h)))

      pub all_checked : length us ≤ i → uses_refusal L S where_is code (take i us) ≡ None → ◌≡◌ {A = Answer} (Ok tt) (answered (uses_refusal L S where_is code us) tt)
      all_checked h inv = sym (ap (λ (o : Option Refusal). answered {X = Unit {0}} o tt) (ap (uses_refusal L S where_is code) (sym (take_all i us h)) ∙ inv))

  patched_more : (code : List ℕ) (us : List Use) (i : ℕ) → i < length us
      → patched_all L S where_is code (take (suc i) us) ≡ patched_to (family_for L S (get_or us i no_use).target) (get_or us i no_use) (patched_all L S where_is code (take i us)) (where_is (get_or us i no_use).target)
  patched_more code [] i h = absurd (not-suc-le-zero h)
  patched_more code (u ∷ us) zero h = refl
  patched_more code (u ∷ us) (suc i) h = patched_more (patched_to (family_for L S u.target) u code (where_is u.target)) us i (le_of_suc-le-suc h)

  -- what the loop that fills has done
  module _ (code now : List ℕ) (us : List Use) (i : ℕ) (so_far : now ≡ patched_all L S where_is code (take i us)) where
    abbrev there : Use
    there = get_or us i no_use

    pub filled_more : (next : List ℕ) (w : Option ℤ) → i < length us → w ≡ distance_from there.place (where_is there.target) → next ≡ filled (family_for L S there.target) there now w → next ≡ patched_all L S where_is code (take (i + 1) us)
    filled_more next w h is e =
        let F : Family = family_for L S there.target in
        rw add-one (e ∙ ap (filled F there now) is ∙ filled_is F there now (where_is there.target) ∙ ap (λ (c : List ℕ). patched_to F there c (where_is there.target)) so_far ∙ sym (patched_more code us i h))

    pub all_filled : length us ≤ i → now ≡ patched_all L S where_is code us
    all_filled h = so_far ∙ ap (patched_all L S where_is code) (take_all i us h)
