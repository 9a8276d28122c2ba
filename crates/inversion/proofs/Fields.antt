-- A number and its field: each kind's numbers are told by their fields, and each field by its number.
use Rattle.std.proofs.Common.{◌≡◌, ℕ, zero, suc, ◌-◌, ◌*◌, ◌/◌, ◌%◌, ◌^◌, ◌<◌, ◌≤◌, Bool, true, false, ◌&&◌, ltb, leb, ℤ, pos, negsuc, ◌*ℤ◌, neg_ℤ, refl, ap, ◌∙◌, mod-eq_of_lt, arith}
use mathlib.Core.Bool.{false≢true}
use lib.Signed.{mag, le_z, lt_z, shr_z}
use Rattle.std.proofs.lemmas.Nat.{mod_below, pow_pos}
use Rattle.std.proofs.lemmas.Bool.Decides.{nat_tests}
use Rattle.form.specs.declared.OperandKind.{OperandKind}
use Rattle.form.specs.declared.OperandKind.TheVariants.{G, N, V, F, M, U8, U16, U32, S16, D12, D20, H16, H32}
use Rattle.form.specs.Encode.{width, In, operand_bits}
use Rattle.form.proofs.Tests.{left, right, both, ltb_is, eqb_is}
use Rattle.refusal.specs.Numbers.{wrap, signed, even, Width, plain, twos, halves, within, to_bits, from_bits}

abbrev pub bits : Width → ℕ
bits (plain b) = b
bits (twos b) = b
bits (halves b) = b

wrap_small : (b : ℕ) (z : ℤ) → wrap b z < 2 ^ b
wrap_small b (pos n) = mod_below n (2 ^ b) (pow_pos b)
wrap_small b (negsuc n) = let p = pow_pos b in omega arith

pub field_small : (k : OperandKind) (z : ℤ) → operand_bits k z < 2 ^ bits (width k)
field_small k z = small (width k) where
  small : (w : Width) → to_bits w z < 2 ^ bits w
  small (plain b) = wrap_small b z
  small (twos b) = wrap_small b z
  small (halves b) = wrap_small b (shr_z z 2)

-- unsigned
plain_back : (b : ℕ) (z : ℤ) → within (plain b) z ≡ true → from_bits (plain b) (to_bits (plain b) z) ≡ z
plain_back b (pos n) h = ap pos (mod-eq_of_lt (ltb_is n (2 ^ b) (right (leb 0 n) (ltb n (2 ^ b)) h)))
plain_back b (negsuc n) h = absurd (false≢true h)

leb_is : (a b : ℕ) → leb a b ≡ true → a ≤ b
leb_is a b e = grind (arith, nat_tests)

is_ltb : (a b : ℕ) → a < b → ltb a b ≡ true
is_ltb a b h = grind (arith, nat_tests)

is_leb : (a b : ℕ) → a ≤ b → leb a b ≡ true
is_leb a b h = grind (arith, nat_tests)

-- from -H to H - 1
range_is : (H : ℕ) → 0 < H → (z : ℤ) → (le_z (neg_ℤ (pos H)) z && lt_z z (pos H)) ≡ true → mag z < H
range_is zero p z h = absurd (omega arith)
range_is (suc g) p (pos n) h = ltb_is n (suc g) h
range_is (suc g) p (negsuc n) h = let e = leb_is n g (left (leb n g) true h) in omega arith

is_range : (H : ℕ) → 0 < H → (z : ℤ) → mag z < H → (le_z (neg_ℤ (pos H)) z && lt_z z (pos H)) ≡ true
is_range zero p z h = absurd (omega arith)
is_range (suc g) p (pos n) h = is_ltb n (suc g) h
is_range (suc g) p (negsuc n) h = both (leb n g) true (is_leb n g (omega arith)) refl

-- two's complement, in b bits of which the top one counts half
module _ (b : ℕ) (e : 2 ^ b ≡ 2 * 2 ^ (b - 1)) where
  signed_low : (n : ℕ) → n < 2 ^ (b - 1) → signed b n ≡ pos n
  signed_low n h = rw (is_ltb n (2 ^ (b - 1)) h)

  signed_high : (n : ℕ) → 2 ^ (b - 1) ≤ n → signed b n ≡ negsuc (2 ^ b - suc n)
  signed_high n h = let f : ltb n (2 ^ (b - 1)) ≡ false = grind (arith, nat_tests) in rw f

  signed_wrap : (z : ℤ) → mag z < 2 ^ (b - 1) → signed b (wrap b z) ≡ z
  signed_wrap (pos n) h =
      let f : n % 2 ^ b ≡ n = mod-eq_of_lt (omega arith) in
      ap (signed b) f ∙ signed_low n h
  signed_wrap (negsuc n) h =
      let l : n < 2 ^ b = omega arith in
      let f : n % 2 ^ b ≡ n = mod-eq_of_lt l in
      let g : 2 ^ b - suc (2 ^ b - suc n) ≡ n = omega arith in
      ap (λ (m : ℕ). signed b (2 ^ b - suc m)) f ∙ signed_high (2 ^ b - suc n) (omega arith) ∙ ap negsuc g

  wrap_signed : (n : ℕ) → n < 2 ^ b → (wrap b (signed b n) ≡ n) × (mag (signed b n) < 2 ^ (b - 1))
  wrap_signed n h = by_half (ltb n (2 ^ (b - 1))) refl where
    by_half : (t : Bool) → ltb n (2 ^ (b - 1)) ≡ t → (wrap b (signed b n) ≡ n) × (mag (signed b n) < 2 ^ (b - 1))
    by_half true q =
        let l = ltb_is n (2 ^ (b - 1)) q in
        let s = signed_low n l in
        (ap (wrap b) s ∙ mod-eq_of_lt h, rw s l)
    by_half false q =
        let l : 2 ^ (b - 1) ≤ n = grind (arith, nat_tests) in
        let s = signed_high n l in
        let k : 2 ^ b - suc n < 2 ^ b = omega arith in
        let f = mod-eq_of_lt k in
        (ap (wrap b) s ∙ ap (λ (m : ℕ). 2 ^ b - suc m) f ∙ omega arith, rw s (omega arith))

-- even numbers
doubled : (n : ℕ) → pos 2 *ℤ negsuc n ≡ negsuc (suc (2 * n))
doubled n = let e : 2 * suc n ≡ suc (suc (2 * n)) = omega arith in ap (λ (m : ℕ). neg_ℤ (pos m)) e

half_double : (z : ℤ) → shr_z (pos 2 *ℤ z) 2 ≡ z
half_double (pos n) = ap pos (omega arith)
half_double (negsuc n) = ap (λ (y : ℤ). shr_z y 2) (doubled n) ∙ ap negsuc (omega arith)

double_half : (z : ℤ) → even z ≡ true → pos 2 *ℤ shr_z z 2 ≡ z
double_half (pos n) h = let e = eqb_is (n % 2) 0 h in ap pos (omega arith)
double_half (negsuc n) h = let e = eqb_is (suc n % 2) 0 h in doubled (n / 2) ∙ ap negsuc (omega arith)

double_even : (z : ℤ) → even (pos 2 *ℤ z) ≡ true
double_even (pos n) = let e : 2 * n % 2 ≡ 0 = omega arith in rw e
double_even (negsuc n) = let e : suc (suc (2 * n)) % 2 ≡ 0 = omega arith in rw (doubled n) (rw e)

half_mag : (H : ℕ) (z : ℤ) → mag z < 2 * H → mag (shr_z z 2) < H
half_mag H (pos n) h = omega arith
half_mag H (negsuc n) h = omega arith

double_mag : (H : ℕ) (z : ℤ) → mag z < H → mag (pos 2 *ℤ z) < 2 * H
double_mag H (pos n) h = omega arith
double_mag H (negsuc n) h = rw (doubled n) (omega arith)

-- what a width has to be, for its numbers to be told by their bits
abbrev Good : Width → Type 0
Good (plain b) = Unit {0}
Good (twos b) = 2 ^ b ≡ 2 * 2 ^ (b - 1)
Good (halves b) = 2 ^ b ≡ 2 * 2 ^ (b - 1)

round : (w : Width) → Good w → (z : ℤ) → within w z ≡ true → from_bits w (to_bits w z) ≡ z
round (plain b) g z h = plain_back b z h
round (twos b) g z h = signed_wrap b g z (range_is (2 ^ (b - 1)) (pow_pos (b - 1)) z h)
round (halves b) g z h =
    let r = le_z (neg_ℤ (pos (2 ^ b))) z && lt_z z (pos (2 ^ b)) in
    let m = range_is (2 ^ b) (pow_pos b) z (left r (even z) h) in
    ap (λ (y : ℤ). pos 2 *ℤ y) (signed_wrap b g (shr_z z 2) (half_mag (2 ^ (b - 1)) z (omega arith)))
    ∙ double_half z (right r (even z) h)

again : (w : Width) → Good w → (n : ℕ) → n < 2 ^ bits w → (to_bits w (from_bits w n) ≡ n) × (within w (from_bits w n) ≡ true)
again (plain b) g n h = (mod-eq_of_lt h, both (leb 0 n) (ltb n (2 ^ b)) (is_leb 0 n (omega arith)) (is_ltb n (2 ^ b) h))
again (twos b) g n h =
    let s = wrap_signed b g n h in
    (s.0, is_range (2 ^ (b - 1)) (pow_pos (b - 1)) (signed b n) s.1)
again (halves b) g n h =
    let s = wrap_signed b g n h in
    let m = double_mag (2 ^ (b - 1)) (signed b n) s.1 in
    let z = pos 2 *ℤ signed b n in (
      ap (wrap b) (half_double (signed b n)) ∙ s.0,
      both (le_z (neg_ℤ (pos (2 ^ b))) z && lt_z z (pos (2 ^ b))) (even z) (is_range (2 ^ b) (pow_pos b) z (omega arith)) (double_even (signed b n)),
    )

good : (k : OperandKind) → Good (width k)
good G = tt
good N = tt
good V = tt
good F = tt
good M = tt
good U8 = tt
good U16 = tt
good U32 = tt
good S16 = refl
good D12 = tt
good D20 = refl
good H16 = refl
good H32 = refl

-- the number of a number's field
pub number_again : (k : OperandKind) (z : ℤ) → In k z ≡ true → from_bits (width k) (operand_bits k z) ≡ z
number_again k z h = round (width k) (good k) z h

-- the field of a field's number, which is of the kind
pub field_again : (k : OperandKind) (n : ℕ) → n < 2 ^ bits (width k) → (operand_bits k (from_bits (width k) n) ≡ n) × (In k (from_bits (width k) n) ≡ true)
field_again k n h = again (width k) (good k) n h
