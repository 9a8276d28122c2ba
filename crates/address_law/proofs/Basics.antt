-- Tests, lists and refusals.
use Rattle.std.proofs.Common.{◌≡◌, ℕ, Bool, true, false, cond, T, List, [], ◌∷◌, ◌++◌, Some, None, Option, refl, subst, arith}
use Rattle.std.specs.List.{AllByRecursion}
use Rattle.refusal.specs.declared.Reason.{Reason}
use Rattle.refusal.specs.Refusals.{first_refusal}

pub differ : {b : Bool} → b ≡ true → b ≡ false → ⊥
differ p q = let z : ◌≡◌ {A = Bool} true false = cc in subst (λ (b : Bool). T b) z tt

pub none_some : {X : Type 0} {x : X} {o : Option X} → o ≡ None → o ≡ Some x → ⊥
none_some p q = let z : ◌≡◌ {A = ℕ} 0 1 = cc in omega arith

pub same_some : {X : Type 0} (x y : X) → ◌≡◌ {A = Option X} (Some x) (Some y) → x ≡ y
same_some x y e = cc

-- a list of tests that refuses nothing
pub none_refused : (ts : List (Reason × Bool)) → first_refusal ts ≡ None → AllByRecursion (λ t. t.1 ≡ false) ts
none_refused [] e = tt
none_refused (t ∷ ts) e = go t.1 refl e (none_refused ts)
  where
    go : (b : Bool) → t.1 ≡ b → cond b (Some t.0) (first_refusal ts) ≡ None → (first_refusal ts ≡ None → AllByRecursion (λ t. t.1 ≡ false) ts) → (t.1 ≡ false) × AllByRecursion (λ t. t.1 ≡ false) ts
    go true p e h = absurd (none_some e refl)
    go false p e h = (p, h e)

pub all_append : {X : Type 0} (P : X → Type 0) (xs ys : List X) → AllByRecursion P xs → AllByRecursion P ys → AllByRecursion P (xs ++ ys)
all_append P [] ys h k = k
all_append P (x ∷ xs) ys h k = (h.0, all_append P xs ys h.1 k)
