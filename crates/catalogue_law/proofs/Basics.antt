-- Tests, lists and refusals.
use Rattle.std.proofs.Common.{◌≡◌, ℕ, zero, suc, Bool, true, false, cond, ◌||◌, T, List, [], ◌∷◌, ◌++◌, map, take, drop, Some, None, Ok, Err, Option, Result, sym, refl, subst, arith}
use Rattle.std.specs.List.{AllByRecursion}
use Rattle.refusal.specs.declared.Reason.{Reason}
use Rattle.refusal.specs.declared.Refusal.{Refusal}
use Rattle.refusal.specs.Refusals.{first_refusal, answer}
use Rattle.refusal.specs.Tests.{any}

pub T_true : {b : Bool} → T b → b ≡ true
T_true {b = true} t = refl
T_true {b = false} t = absurd t

pub true_T : {b : Bool} → b ≡ true → T b
true_T e = rw e tt

pub differ : {b : Bool} → b ≡ true → b ≡ false → ⊥
differ p q = let z : ◌≡◌ {A = Bool} true false = cc in subst (λ (b : Bool). T b) z tt

pub none_some : {X : Type 0} {x : X} {o : Option X} → o ≡ None → o ≡ Some x → ⊥
none_some p q = let z : ◌≡◌ {A = ℕ} 0 1 = cc in omega arith

pub ok_err : {X Y : Type 0} {x : X} {y : Y} {o : Result X Y} → o ≡ Ok x → o ≡ Err y → ⊥
ok_err p q = let z : ◌≡◌ {A = ℕ} 0 1 = cc in omega arith

-- a list of tests that refuses nothing
pub none_refused : (ts : List (Reason × Bool)) → first_refusal ts ≡ None → AllByRecursion (λ t. t.1 ≡ false) ts
none_refused [] e = tt
none_refused (t ∷ ts) e = go t.1 refl e (none_refused ts)
  where
    go : (b : Bool) → t.1 ≡ b → cond b (Some t.0) (first_refusal ts) ≡ None → (first_refusal ts ≡ None → AllByRecursion (λ t. t.1 ≡ false) ts) → (t.1 ≡ false) × AllByRecursion (λ t. t.1 ≡ false) ts
    go true p e h = absurd (none_some e refl)
    go false p e h = (p, h e)

-- a call that was answered Ok was not refused
pub not_refused : {X : Type 0} {y : X} (at : ℕ) (x : X) (o : Option Reason) → Ok y ≡ answer at o x → o ≡ None
not_refused at x None e = refl
not_refused at x (Some r) e = absurd (ok_err refl e)

pub refused : {X : Type 0} {e : Refusal} (at : ℕ) (x : X) (o : Option Reason) → Err e ≡ answer at o x → (r : Reason) × (o ≡ Some r)
refused at x None h = absurd (ok_err refl (sym h))
refused at x (Some r) h = (r, refl)

-- any and all over joined lists
pub any_append : {X : Type 0} (p : X → Bool) (xs ys : List X) → T (any p xs) → T (any p (xs ++ ys))
any_append p [] ys t = absurd t
any_append p (x ∷ xs) ys t = go (p x) refl t (any_append p xs ys)
  where
    go : (b : Bool) → p x ≡ b → T (b || any p xs) → (T (any p xs) → T (any p (xs ++ ys))) → T (b || any p (xs ++ ys))
    go true e t h = tt
    go false e t h = h t

pub all_append : {X : Type 0} (P : X → Type 0) (xs ys : List X) → AllByRecursion P xs → AllByRecursion P ys → AllByRecursion P (xs ++ ys)
all_append P [] ys h k = k
all_append P (x ∷ xs) ys h k = (h.0, all_append P xs ys h.1 k)

pub all_map : {X Y : Type 0} (P : X → Type 0) (Q : Y → Type 0) (f : X → Y) → ((x : X) → P x → Q (f x)) → (xs : List X) → AllByRecursion P xs → AllByRecursion Q (map f xs)
all_map P Q f g [] h = tt
all_map P Q f g (x ∷ xs) h = (g x h.0, all_map P Q f g xs h.1)

pub all_weaker : {X : Type 0} (P Q : X → Type 0) → ((x : X) → P x → Q x) → (xs : List X) → AllByRecursion P xs → AllByRecursion Q xs
all_weaker P Q g [] h = tt
all_weaker P Q g (x ∷ xs) h = (g x h.0, all_weaker P Q g xs h.1)

pub all_take : {X : Type 0} (P : X → Type 0) (n : ℕ) (xs : List X) → AllByRecursion P xs → AllByRecursion P (take n xs)
all_take P zero xs h = tt
all_take P (suc n) [] h = tt
all_take P (suc n) (x ∷ xs) h = (h.0, all_take P n xs h.1)

pub all_drop : {X : Type 0} (P : X → Type 0) (n : ℕ) (xs : List X) → AllByRecursion P xs → AllByRecursion P (drop n xs)
all_drop P zero xs h = h
all_drop P (suc n) [] h = tt
all_drop P (suc n) (x ∷ xs) h = all_drop P n xs h.1
