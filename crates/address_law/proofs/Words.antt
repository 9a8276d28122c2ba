-- Numbers modulo 2^64, and a sign-extended number of 32 bits.
use Rattle.std.proofs.Common.{◌≡◌, ℕ, suc, ◌+◌, ◌-◌, ◌*◌, ◌/◌, ◌%◌, ◌^◌, ◌≤◌, true, ℤ, pos, negsuc, ◌+ℤ◌, neg_ℤ, nat_abs, sym, refl, ap, ◌∙◌, arith}
use lib.Signed.{le_z, lt_z}
use Rattle.std.specs.Int.{int_rem_euclid}
use Rattle.std.proofs.lemmas.Int.{ints, int_rem_euclid_is}
use Rattle.std.proofs.lemmas.Bool.{and_parts, ltb-true, leb-true, lt-ltb, le-ltb}
use Rattle.address.specs.Machine.{word}
use Rattle.refusal.specs.Numbers.{wrap, signed, within, twos}

word_is : (z : ℤ) → word z ≡ int_rem_euclid z (pos (2 ^ 64))
word_is (pos n) = refl
word_is (negsuc n) = ap pos (omega arith)

-- a sum that is not negative
raised : (z : ℤ) (n : ℕ) → nat_abs z ≤ n → (m : ℕ) × (z +ℤ pos n ≡ pos m)
raised (pos a) n h = (a + n, refl)
raised (negsuc a) n h = (n - suc a, omega (arith, ints))

pub same_word : (x y : ℤ) (j k : ℕ) → x +ℤ pos (j * 2 ^ 64) ≡ y +ℤ pos (k * 2 ^ 64) → word x ≡ word y
same_word x y j k e =
    let r = raised x ((j + nat_abs x) * 2 ^ 64) (omega arith) in
    let q : y +ℤ pos ((k + nat_abs x) * 2 ^ 64) ≡ pos r.0 = let p = r.1 in omega (arith, ints) in
    word_is x ∙ int_rem_euclid_is x (pos (2 ^ 64)) (2 ^ 64) (j + nat_abs x) r.0 (omega arith) refl r.1
    ∙ sym (word_is y ∙ int_rem_euclid_is y (pos (2 ^ 64)) (2 ^ 64) (k + nat_abs x) r.0 (omega arith) refl q)

word_split : (b : ℤ) → (j : ℕ) × (k : ℕ) × (word b +ℤ pos (j * 2 ^ 64) ≡ b +ℤ pos (k * 2 ^ 64))
word_split (pos n) = (n / 2 ^ 64, 0, omega (arith, ints))
word_split (negsuc n) = (0, suc (n / 2 ^ 64), omega (arith, ints))

-- a part of a sum may be cut to a word
pub word_part : (a b c d : ℤ) → c ≡ a +ℤ word b → d ≡ a +ℤ b → word c ≡ word d
word_part a b c d p q =
    let s = word_split b in
    same_word c d s.0 s.1 (let e = s.2 in omega (arith, ints))

pub signed_again : (z : ℤ) → within (twos 32) z ≡ true → signed 32 (wrap 32 z) ≡ z
signed_again (pos n) h =
    let l = ltb-true n (2 ^ 31) (and_parts (le_z (neg_ℤ (pos (2 ^ 31))) (pos n)) (lt_z (pos n) (pos (2 ^ 31))) h).1 in
    let e : n % 2 ^ 32 ≡ n = omega arith in
    rw (e, lt-ltb n (2 ^ 31) l)
signed_again (negsuc n) h =
    let l = leb-true n (2 ^ 31 - 1) (and_parts (le_z (neg_ℤ (pos (2 ^ 31))) (negsuc n)) true h).0 in
    let e : n % 2 ^ 32 ≡ n = omega arith in
    let b = le-ltb (2 ^ 32 - suc n) (2 ^ 31) (omega arith) in
    rw (e, b) (ap negsuc (omega arith))
