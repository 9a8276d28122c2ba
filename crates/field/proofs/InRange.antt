-- The distance that a family can hold.
use Rattle.std.proofs.Common.{◌≡◌, ℕ, Bool, true, false, cond, not, ◌||◌, ltb, [], ◌∷◌, ℤ, Some, None, Ok, Err, Option, Result, refl, ap, arith, sym, ◌∙◌, ◌≤◌}
use lib.Signed.{lt_z}
use Rattle.std.specs.Option.{ok_or}
use Rattle.std.proofs.lemmas.Bool.{le-ltb}
use Rattle.refusal.specs.Refusals.{answered}
use Rattle.field.specs.declared.verdict.FieldRefusal.{FieldRefusal}
use Rattle.field.specs.declared.verdict.FieldRefusal.TheVariants.{Kind, Far, Odd}
use Rattle.field.specs.Family.{◌when◌, first_refused, FieldInfo, refuses_by, multiple}

in_range : (b : Bool) (near d : ℤ) (o : Option ℤ) → o ≡ cond b None (Some d) → ok_or o Far ≡ Ok near → (b ≡ false) × (near ≡ d)
in_range true near d o e h = let k : ◌≡◌ {A = Result ℤ FieldRefusal} (Err Far) (Ok near) = sym (ap (λ x. ok_or x Far) e) ∙ h in let z : ◌≡◌ {A = ℕ} 0 1 = cc in absurd (omega arith)
in_range false near d o e h = let k : ◌≡◌ {A = Result ℤ FieldRefusal} (Ok d) (Ok near) = sym (ap (λ x. ok_or x Far) e) ∙ h in (refl, cc)

passed : (b₁ b₂ b₃ : Bool) (near d : ℤ) → b₁ ≡ false → b₂ ≡ false → b₃ ≡ true → near ≡ d → ◌≡◌ {A = Result ℤ FieldRefusal} (Ok near) (answered (first_refused (Kind when b₁ ∷ Far when b₂ ∷ Odd when not b₃ ∷ [])) d)
passed b₁ b₂ b₃ near d e f g h = rw (e, f, g) (ap Ok h)

odd : (b₁ b₂ b₃ : Bool) (d : ℤ) → b₁ ≡ false → b₂ ≡ false → b₃ ≡ false → ◌≡◌ {A = Result ℤ FieldRefusal} (Err Odd) (answered (first_refused (Kind when b₁ ∷ Far when b₂ ∷ Odd when not b₃ ∷ [])) d)
odd b₁ b₂ b₃ d e f g = rw (e, f, g)

module _ (a n : ℕ) (d near : ℤ) (i : FieldInfo) (o : Option ℤ) (enough : i.size ≤ n) (e : o ≡ cond (lt_z d i.least || lt_z i.greatest d) None (Some d)) (h : ok_or o Far ≡ Ok near) where
  pub reached_ok : true ≡ multiple a near → Ok near ≡ answered (refuses_by a (Some i) n d) d
  reached_ok m =
      let r = in_range (lt_z d i.least || lt_z i.greatest d) near d o e h in
      passed (ltb n i.size) (lt_z d i.least || lt_z i.greatest d) (multiple a d) near d (le-ltb n i.size enough) r.0 (sym (m ∙ ap (multiple a) r.1)) r.1

  pub reached_odd : false ≡ multiple a near → Err Odd ≡ answered (refuses_by a (Some i) n d) d
  reached_odd m =
      let r = in_range (lt_z d i.least || lt_z i.greatest d) near d o e h in
      odd (ltb n i.size) (lt_z d i.least || lt_z i.greatest d) (multiple a d) d (le-ltb n i.size enough) r.0 (sym (m ∙ ap (multiple a) r.1))
