-- Operands are taken, one by one.
use Rattle.std.specs.List.{list_all, enumerate_from}
use Rattle.std.proofs.Common.{add-one, ◌+◌, ◌≡◌, ℕ, suc, ◌≤◌, Bool, true, false, cond, eqb, ltb, List, [], ◌∷◌, length, get_or, ℤ, nat_abs, refl, ap, arith}
use Rattle.std.proofs.lemmas.Bool.Decides.{nat_tests}
use Rattle.form.specs.declared.OperandKind.{OperandKind}
use Rattle.form.specs.declared.OperandKind.TheVariants.{M}
use Rattle.form.specs.Encode.{In, takes}
use Rattle.codec.specs.Digits.{taken_at}

shift : (k : OperandKind) (ks : List OperandKind) (i : ℕ) (z : ℤ) → taken_at (k ∷ ks) (suc i) z ≡ taken_at ks i z
shift k ks i z = ap (λ (b : Bool). cond b (In (get_or ks i M) z) (eqb (nat_abs z) 0)) (same_test i (length ks)) where
  same_test : (a b : ℕ) → ltb (suc a) (suc b) ≡ ltb a b
  same_test a b = grind (arith, nat_tests)

first : (k : OperandKind) (ks : List OperandKind) (z : ℤ) → taken_at (k ∷ ks) 0 z ≡ In k z
first k ks z = ap (λ (b : Bool). cond b (In k z) (eqb (nat_abs z) 0)) (some (length ks)) where
  some : (a : ℕ) → ltb 0 (suc a) ≡ true
  some a = grind (arith, nat_tests)

past : (i : ℕ) (z : ℤ) → taken_at [] i z ≡ eqb (nat_abs z) 0
past i z = ap (λ (b : Bool). cond b (In M z) (eqb (nat_abs z) 0)) (none i) where
  none : (a : ℕ) → ltb a 0 ≡ false
  none a = grind (arith, nat_tests)

-- the same test one place on
moved : (k : OperandKind) (ks : List OperandKind) (i : ℕ) (zs : List ℤ)
    → list_all (λ p. taken_at (k ∷ ks) p.0 p.1) (enumerate_from (i + 1) zs) ≡ list_all (λ p. taken_at ks p.0 p.1) (enumerate_from i zs)
moved k ks i [] = refl
moved k ks i (z ∷ zs) =
    let a : taken_at (k ∷ ks) (i + 1) z ≡ taken_at ks i z = rw add-one (shift k ks i z) in
    rw (a, moved k ks (i + 1) zs) refl

none : (i j : ℕ) (zs : List ℤ) → list_all (λ p. taken_at [] p.0 p.1) (enumerate_from i zs) ≡ list_all (λ p. taken_at [] p.0 p.1) (enumerate_from j zs)
none i j [] = refl
none i j (z ∷ zs) = rw (past i z, past j z, none (i + 1) (j + 1) zs) refl

-- the operands are taken where each of them is, by its number
pub taken_is : (ks : List OperandKind) (zs : List ℤ) → length ks ≤ length zs → list_all (λ p. taken_at ks p.0 p.1) (enumerate_from 0 zs) ≡ takes ks zs
taken_is [] [] n = refl
taken_is (k ∷ ks) [] n = absurd (omega arith)
taken_is [] (z ∷ zs) n = rw (past 0 z, none 1 0 zs, taken_is [] zs (omega arith)) refl
taken_is (k ∷ ks) (z ∷ zs) n = rw (first k ks z, moved k ks 0 zs, taken_is ks zs (omega arith)) refl
