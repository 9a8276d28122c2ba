-- A kind's field, read and overwritten.
use Rattle.std.proofs.Common.{◌≡◌, ℕ, zero, suc, ◌+◌, ◌-◌, ◌*◌, ◌/◌, ◌%◌, ◌^◌, ◌<◌, ◌≤◌, true, false, ltb, List, ◌++◌, length, take, drop, ℤ, pos, negsuc, ◌*ℤ◌, ◌<ℤ◌, neg_ℤ, nat_abs, Some, None, Ok, Option, Result, sym, refl, ap, ◌∙◌, subst, arith, w64, SFits, of_z, length-drop, length-take-le, pow-add, pow_pos, mul_comm, suc-mul, mul-le-mul_right, div-add-mod', div-le_self, drop-drop, append_assoc}
use lib.Signed.{mag, quot_z, shr_z}
use lib.Arith.{digits_div}
use native.Mathlib.Decide.{dec_le, dec_lt}
use Rattle.std.proofs.lemmas.Bool.{lt-ltb, le-ltb, eqb-true}
use Rattle.std.proofs.lemmas.Int.{ints}
use Rattle.refusal.specs.Refusals.{answered, unless}
use Rattle.refusal.specs.Numbers.{wrap, signed, big_endian, bytes_of_number}
use Rattle.field.specs.declared.verdict.FieldRefusal.{FieldRefusal}
use Rattle.field.specs.Family.{FieldInfo, FitsWord, multiple, field_bytes, field_value, held_by, refuses_by, overwritten}
use Rattle.field.proofs.Numbers.{below_multiple, doubled}
use Rattle.field.proofs.Laws.{Accepted, accepted, overwritten_held}

pub above_zero : (z : ℤ) → pos 0 <ℤ z → (1 ≤ nat_abs z) × (pos (nat_abs z) ≡ z)
above_zero (pos n) h = ((let l : 1 ≤ n = omega (arith, ints) in l), refl)
above_zero (negsuc n) h = absurd (omega (arith, ints))

-- a field has at most eight bytes
pub few : (a : ℕ) (i : FieldInfo) → 1 ≤ a → FitsWord a i → i.past - i.first ≤ 8
few a i one f =
    let n : ℕ = i.past - i.first in
    elim (dec_le n 8) [
      | yes h ↦ h
      | no h ↦
          let k : ℕ = 8 * n - 1 - 64 in
          let e : 8 * n - 1 ≡ 64 + k = omega arith in
          let p : 2 ^ (8 * n - 1) ≡ 2 ^ 64 * 2 ^ k = ap (λ (m : ℕ). 2 ^ m) e ∙ pow-add 2 64 k in
          let z : 0 < 2 ^ k = pow_pos k in
          absurd (too_much (2 ^ (8 * n - 1)) a one (let x : ℕ = 2 ^ k in omega arith) f.narrow)
    ]
  where
    too_much : (x b : ℕ) → 1 ≤ b → 2 ^ 64 ≤ x → x * b ≤ 2 ^ 63 → ⊥
    too_much x zero h l u = omega arith
    too_much x (suc b) h l u = let e : x * suc b ≡ b * x + x = mul_comm x (suc b) ∙ suc-mul b x in omega arith

pub field_length : (i : FieldInfo) (bytes : List ℕ) → i.first < i.past → i.past ≤ length bytes → length (field_bytes i bytes) ≡ i.past - i.first
field_length i bytes h l =
    length-take-le (i.past - i.first) (drop i.first bytes) (let d : length (drop i.first bytes) ≡ length bytes - i.first = length-drop i.first bytes in omega arith)

-- Reading.

signed_near : (b v : ℕ) → 0 < b → mag (signed b v) < 2 ^ (b - 1)
signed_near b v h =
    elim (dec_lt v (2 ^ (b - 1))) [
      | yes l ↦ rw (lt-ltb v (2 ^ (b - 1)) l) l
      | no l ↦
          let g : 2 ^ (b - 1) ≤ v = omega arith in
          let d : 2 ^ b ≡ 2 ^ (b - 1) + 2 ^ (b - 1) = doubled b h in
          let p : 0 < 2 ^ (b - 1) = pow_pos (b - 1) in
          rw (le-ltb v (2 ^ (b - 1)) g) (omega arith)
    ]

neg_fits : (x : ℕ) → x ≤ 2 ^ 63 → SFits w64 (neg_ℤ (pos x))
neg_fits zero h = record { sfits = omega arith }
neg_fits (suc x) h = record { sfits = omega arith }

product_fits : (a h : ℕ) (z : ℤ) → 1 ≤ a → mag z < h → h * a ≤ 2 ^ 63 → SFits w64 (pos a *ℤ z)
product_fits a h (pos n) one l u =
    let m : suc n * a ≤ h * a = mul-le-mul_right a l in
    let e : a * n ≡ n * a = mul_comm a n in
    let t : suc n * a ≡ n * a + a = suc-mul n a in
    record { sfits = omega arith }
product_fits a h (negsuc n) one l u =
    let m : suc n * a ≤ h * a = mul-le-mul_right a l in
    let e : a * suc n ≡ suc n * a = mul_comm a (suc n) in
    neg_fits (a * suc n) (omega arith)

-- what reading finds
module _ (align : ℤ) (i : FieldInfo) (bytes : List ℕ) (above : pos 0 <ℤ align) (fits : FitsWord (nat_abs align) i) (enough : i.size ≤ length bytes) where
  one : 1 ≤ nat_abs align
  one = (above_zero align above).0

  is : pos (nat_abs align) ≡ align
  is = (above_zero align above).1

  pub part_length : length (field_bytes i bytes) ≡ i.past - i.first
  part_length = field_length i bytes fits.fits.some (let x = fits.fits.shape.inside in omega arith)

  pub part_few : length (field_bytes i bytes) ≤ 8
  part_few = let x = part_length in let y = few (nat_abs align) i one fits in omega arith

  module _ (n : ℤ) (e : n ≡ signed (8 * length (field_bytes i bytes)) (big_endian 0 (field_bytes i bytes))) where
    number : n ≡ field_value i bytes
    number = e ∙ ap (λ (k : ℕ). signed (8 * k) (big_endian 0 (field_bytes i bytes))) part_length

    pub distance_fits : SFits w64 (align *ℤ n)
    distance_fits =
        let m : mag (field_value i bytes) < 2 ^ (8 * (i.past - i.first) - 1) = signed_near (8 * (i.past - i.first)) (big_endian 0 (field_bytes i bytes)) (let x = fits.fits.some in omega arith) in
        subst (λ (a : ℤ). SFits w64 (a *ℤ n)) is
        (subst (λ (z : ℤ). SFits w64 (pos (nat_abs align) *ℤ z)) (sym number)
        (product_fits (nat_abs align) (2 ^ (8 * (i.past - i.first) - 1)) (field_value i bytes) one m fits.narrow))

    pub distance_held : Ok (align *ℤ n) ≡ held_by (nat_abs align) (Some i) bytes
    distance_held =
        let b : ltb (length bytes) i.size ≡ false = le-ltb (length bytes) i.size enough in
        rw b (ap (λ (a : ℤ). Ok (a *ℤ n)) (sym is) ∙ ap (λ (z : ℤ). Ok (pos (nat_abs align) *ℤ z)) number)

-- Overwriting.

quot_pos : (d : ℤ) (a : ℕ) → 1 ≤ a → multiple a d ≡ true → quot_z d (pos a) ≡ shr_z d a
quot_pos (pos n) a h m = refl
quot_pos (negsuc n) a h m =
    let e : suc n % a ≡ 0 = eqb-true (suc n % a) 0 m in
    let s : suc n / a * a + suc n % a ≡ suc n = div-add-mod' (suc n) a in
    let b : a * suc (n / a) ≡ suc n = below_multiple a (suc n / a) n h (omega arith) in
    let w : suc n ≡ suc (n / a) * a + 0 = let c : a * suc (n / a) ≡ suc (n / a) * a = mul_comm a (suc (n / a)) in omega arith in
    let q : suc n / a ≡ suc (n / a) = ap (λ (x : ℕ). x / a) w ∙ digits_div (suc (n / a)) {m = a} {r = 0} h in
    ap (λ (x : ℕ). neg_ℤ (pos x)) q

quot_fits : (d : ℤ) (a : ℕ) → SFits w64 d → SFits w64 (quot_z d (pos a))
quot_fits (pos n) a f = let l : n / a ≤ n = div-le_self n a in record { sfits = omega arith }
quot_fits (negsuc n) a f = let l : suc n / a ≤ suc n = div-le_self (suc n) a in neg_fits (suc n / a) (omega arith)

answered_ok : (o : Option FieldRefusal) (x d : ℤ) → ◌≡◌ {A = Result ℤ FieldRefusal} (Ok x) (answered o d) → (o ≡ None) × (x ≡ d)
answered_ok None x d h = (refl, cc)
answered_ok (Some e) x d h = let z : ◌≡◌ {A = ℕ} 0 1 = cc in absurd (omega arith)

module _ (align : ℤ) (i : FieldInfo) (bytes : List ℕ) (d x : ℤ) (above : pos 0 <ℤ align) (fits : FitsWord (nat_abs align) i)
    (h : ◌≡◌ {A = Result ℤ FieldRefusal} (Ok x) (answered (refuses_by (nat_abs align) (Some i) (length bytes) d) d)) where
  abbrev pub a : ℕ
  a = nat_abs align

  unrefused : refuses_by a (Some i) (length bytes) d ≡ None
  unrefused = (answered_ok (refuses_by a (Some i) (length bytes) d) x d h).0

  same : x ≡ d
  same = (answered_ok (refuses_by a (Some i) (length bytes) d) x d h).1

  ok : Accepted a i (length bytes) d
  ok = accepted a i (length bytes) d unrefused

  pub field_few : length (field_bytes i bytes) ≤ 8
  field_few = part_few align i bytes above fits ok.enough

  pub units_fit : SFits w64 x → (0 < of_z w64 align) × SFits w64 (quot_z x align)
  units_fit f =
      let p = above_zero align above in (
        subst (λ (z : ℤ). 0 < of_z w64 z) p.1 p.0,
        subst (λ (z : ℤ). SFits w64 (quot_z x z)) p.1 (quot_fits x a f),
      )

  pub put : (new : List ℕ) → new ≡ bytes_of_number (length (field_bytes i bytes)) (wrap (8 * length (field_bytes i bytes)) (quot_z x align)) →
      take i.first bytes ++ (new ++ drop (i.past - i.first) (drop i.first bytes)) ≡ overwritten a (Some i) bytes d
  put new e =
      let p = above_zero align above in
      let n : ℕ = i.past - i.first in
      let q : quot_z x align ≡ shr_z d a = ap (quot_z x) (sym p.1) ∙ ap (λ (z : ℤ). quot_z z (pos a)) same ∙ quot_pos d a p.0 ok.even in
      let w : new ≡ bytes_of_number n (wrap (8 * n) (shr_z d a)) =
      e ∙ ap (λ (k : ℕ). bytes_of_number k (wrap (8 * k) (quot_z x align))) (part_length align i bytes above fits ok.enough)
      ∙ ap (λ (z : ℤ). bytes_of_number n (wrap (8 * n) z)) q in
      let f : i.first + n ≡ i.past = let s = fits.fits.some in omega arith in
      ap (λ (ys : List ℕ). take i.first bytes ++ (ys ++ drop n (drop i.first bytes))) w
      ∙ ap (λ (ys : List ℕ). take i.first bytes ++ (bytes_of_number n (wrap (8 * n) (shr_z d a)) ++ ys)) (drop-drop n i.first bytes ∙ ap (λ (k : ℕ). drop k bytes) f)
      ∙ sym (append_assoc (take i.first bytes) (bytes_of_number n (wrap (8 * n) (shr_z d a))) (drop i.past bytes))

  pub leaves : (new : List ℕ) → new ≡ overwritten a (Some i) bytes d → new ≡ unless (refuses_by a (Some i) (length bytes) d) (overwritten a (Some i) bytes d) bytes
  leaves new e = e ∙ sym (ap (λ (o : Option FieldRefusal). unless o (overwritten a (Some i) bytes d) bytes) unrefused)

  pub answers : ◌≡◌ {A = Result (Unit {0}) FieldRefusal} (Ok tt) (answered (refuses_by a (Some i) (length bytes) d) tt)
  answers = sym (ap (λ (o : Option FieldRefusal). answered {X = Unit {0}} o tt) unrefused)

  pub holds : (new : List ℕ) → new ≡ overwritten a (Some i) bytes d → held_by a (Some i) new ≡ Ok d
  holds new e = ap (held_by a (Some i)) e ∙ overwritten_held a i d bytes (above_zero align above).0 fits.fits ok
