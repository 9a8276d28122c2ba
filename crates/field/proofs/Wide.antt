-- One to eight bytes as a number of 64 bits, and back.
use Rattle.std.proofs.Common.{◌≡◌, ℕ, zero, suc, ◌+◌, ◌-◌, ◌*◌, ◌/◌, ◌%◌, ◌^◌, ◌<◌, ◌≤◌, true, false, ltb, List, [], ◌∷◌, length, get_or, take, drop, ℤ, pos, negsuc, sym, refl, ap, ◌∙◌, subst, arith, w64, SFits, to_z, of_z, mod-eq_of_lt, mod-lt, pow_pos, pow-add, take_all, div-lt_iff_lt-mul, div-add-mod', mul_comm, add-mul, suc-mul}
use borrow.Rule.Slice.PartMut.{put_mid}
use lib.Arith.{mod-mul, digits_div, digits_mod}
use native.Mathlib.Nat.{pow-succ'}
use Rattle.std.specs.Int.{to_be_bytes, from_be_bytes}
use Rattle.std.proofs.lemmas.Bool.{lt-ltb, le-ltb}
use Rattle.refusal.specs.Numbers.{wrap, signed, big_endian, bytes_of_number}
use Rattle.field.proofs.Numbers.{number_length, pow_bytes, pow_256}

-- Reading.

read_low : (b v w : ℕ) → w ≡ v → v < 2 ^ (b - 1) → v < 2 ^ 63 → to_z w64 w ≡ signed b v
read_low b v w e l m =
    let t : ltb w (2 ^ 63) ≡ true = lt-ltb w (2 ^ 63) (omega arith) in
    let s : ltb v (2 ^ (b - 1)) ≡ true = lt-ltb v (2 ^ (b - 1)) l in
    rw (t, s) (ap pos e)

read_high : (b v w : ℕ) → w + 2 ^ b ≡ v + 2 ^ 64 → 2 ^ (b - 1) ≤ v → v < 2 ^ b → 2 ^ 63 ≤ w → to_z w64 w ≡ signed b v
read_high b v w e l u m =
    let t : ltb w (2 ^ 63) ≡ false = le-ltb w (2 ^ 63) m in
    let s : ltb v (2 ^ (b - 1)) ≡ false = le-ltb v (2 ^ (b - 1)) l in
    rw (t, s) (ap negsuc (omega arith))

-- eight times x, and other bytes over as many at the end as there are in bs
abbrev pub written : ℕ → List ℕ → List ℕ → List ℕ
written x bs ys = put_mid (8 - length bs) (8 - (8 - length bs)) (x ∷ x ∷ x ∷ x ∷ x ∷ x ∷ x ∷ x ∷ []) ys

abbrev pub filled : ℕ → List ℕ → List ℕ
filled x bs = written x bs bs

pub positive : (bs : List ℕ) → ((k : ℕ) → get_or bs k 0 < 256) → 1 ≤ length bs → length bs ≤ 8 → get_or bs 0 0 < 128 → to_z w64 (from_be_bytes w64 (filled 0 bs)) ≡ signed (8 * length bs) (big_endian 0 bs)
positive [] range s m l = absurd (omega arith)
positive (a ∷ []) range s m l = let x0 = range 0 in read_low 8 _ _ (omega arith) (omega arith) (omega arith)
positive (a ∷ b ∷ []) range s m l = let x0 = range 0 in let x1 = range 1 in read_low 16 _ _ (omega arith) (omega arith) (omega arith)
positive (a ∷ b ∷ c ∷ []) range s m l = let x0 = range 0 in let x1 = range 1 in let x2 = range 2 in read_low 24 _ _ (omega arith) (omega arith) (omega arith)
positive (a ∷ b ∷ c ∷ d ∷ []) range s m l = let x0 = range 0 in let x1 = range 1 in let x2 = range 2 in let x3 = range 3 in read_low 32 _ _ (omega arith) (omega arith) (omega arith)
positive (a ∷ b ∷ c ∷ d ∷ e ∷ []) range s m l = let x0 = range 0 in let x1 = range 1 in let x2 = range 2 in let x3 = range 3 in let x4 = range 4 in read_low 40 _ _ (omega arith) (omega arith) (omega arith)
positive (a ∷ b ∷ c ∷ d ∷ e ∷ f ∷ []) range s m l = let x0 = range 0 in let x1 = range 1 in let x2 = range 2 in let x3 = range 3 in let x4 = range 4 in let x5 = range 5 in read_low 48 _ _ (omega arith) (omega arith) (omega arith)
positive (a ∷ b ∷ c ∷ d ∷ e ∷ f ∷ g ∷ []) range s m l = let x0 = range 0 in let x1 = range 1 in let x2 = range 2 in let x3 = range 3 in let x4 = range 4 in let x5 = range 5 in let x6 = range 6 in read_low 56 _ _ (omega arith) (omega arith) (omega arith)
positive (a ∷ b ∷ c ∷ d ∷ e ∷ f ∷ g ∷ h ∷ []) range s m l = let x0 = range 0 in let x1 = range 1 in let x2 = range 2 in let x3 = range 3 in let x4 = range 4 in let x5 = range 5 in let x6 = range 6 in let x7 = range 7 in read_low 64 _ _ (omega arith) (omega arith) (omega arith)
positive (a ∷ b ∷ c ∷ d ∷ e ∷ g ∷ h ∷ i ∷ j ∷ xs) range s m l = absurd (omega arith)

pub negative : (bs : List ℕ) → ((k : ℕ) → get_or bs k 0 < 256) → 1 ≤ length bs → length bs ≤ 8 → 128 ≤ get_or bs 0 0 → to_z w64 (from_be_bytes w64 (filled 255 bs)) ≡ signed (8 * length bs) (big_endian 0 bs)
negative [] range s m l = absurd (omega arith)
negative (a ∷ []) range s m l = let x0 = range 0 in read_high 8 _ _ (omega arith) (omega arith) (omega arith) (omega arith)
negative (a ∷ b ∷ []) range s m l = let x0 = range 0 in let x1 = range 1 in read_high 16 _ _ (omega arith) (omega arith) (omega arith) (omega arith)
negative (a ∷ b ∷ c ∷ []) range s m l = let x0 = range 0 in let x1 = range 1 in let x2 = range 2 in read_high 24 _ _ (omega arith) (omega arith) (omega arith) (omega arith)
negative (a ∷ b ∷ c ∷ d ∷ []) range s m l = let x0 = range 0 in let x1 = range 1 in let x2 = range 2 in let x3 = range 3 in read_high 32 _ _ (omega arith) (omega arith) (omega arith) (omega arith)
negative (a ∷ b ∷ c ∷ d ∷ e ∷ []) range s m l = let x0 = range 0 in let x1 = range 1 in let x2 = range 2 in let x3 = range 3 in let x4 = range 4 in read_high 40 _ _ (omega arith) (omega arith) (omega arith) (omega arith)
negative (a ∷ b ∷ c ∷ d ∷ e ∷ f ∷ []) range s m l = let x0 = range 0 in let x1 = range 1 in let x2 = range 2 in let x3 = range 3 in let x4 = range 4 in let x5 = range 5 in read_high 48 _ _ (omega arith) (omega arith) (omega arith) (omega arith)
negative (a ∷ b ∷ c ∷ d ∷ e ∷ f ∷ g ∷ []) range s m l = let x0 = range 0 in let x1 = range 1 in let x2 = range 2 in let x3 = range 3 in let x4 = range 4 in let x5 = range 5 in let x6 = range 6 in read_high 56 _ _ (omega arith) (omega arith) (omega arith) (omega arith)
negative (a ∷ b ∷ c ∷ d ∷ e ∷ f ∷ g ∷ h ∷ []) range s m l = let x0 = range 0 in let x1 = range 1 in let x2 = range 2 in let x3 = range 3 in let x4 = range 4 in let x5 = range 5 in let x6 = range 6 in let x7 = range 7 in read_high 64 _ _ (omega arith) (omega arith) (omega arith) (omega arith)
negative (a ∷ b ∷ c ∷ d ∷ e ∷ g ∷ h ∷ i ∷ j ∷ xs) range s m l = absurd (omega arith)

-- Writing.

same_rest : (p a b r s : ℕ) → r < p → s < p → a * p + r ≡ b * p + s → (a ≡ b) × (r ≡ s)
same_rest p a b r s h k e = (
  sym (digits_div a h) ∙ ap (λ (x : ℕ). x / p) e ∙ digits_div b k,
  sym (digits_mod a h) ∙ ap (λ (x : ℕ). x % p) e ∙ digits_mod b k,
)

-- the low n bytes of a number depend on its remainder alone
same_low : (n v w : ℕ) → v % 256 ^ n ≡ w % 256 ^ n → bytes_of_number n v ≡ bytes_of_number n w
same_low zero v w e = refl
same_low (suc n) v w e =
    let p : ℕ = 256 ^ n in
    let z : 0 < p = pow_256 n in
    let t = same_rest p (v / p % 256) (w / p % 256) (v % p) (w % p) (mod-lt v z) (mod-lt w z)
    (sym (mod-mul v {m = 256} {c = p} (omega arith) z) ∙ ap (λ (x : ℕ). v % x) (sym (pow-succ' 256 n)) ∙ e ∙ ap (λ (x : ℕ). w % x) (pow-succ' 256 n) ∙ mod-mul w {m = 256} {c = p} (omega arith) z) in
    ap (λ (x : ℕ). x ∷ bytes_of_number n v) t.0 ∙ ap (λ (xs : List ℕ). (w / p % 256) ∷ xs) (same_low n v w t.1)

-- a multiple of p less a number, and p less that number's remainder
less : (p q m : ℕ) → 0 < p → m < p * q → (p * q - suc m) % p ≡ p - suc (m % p)
less p q m h l =
    let d : m / p < q = (div-lt_iff_lt-mul h).1 (subst (λ (x : ℕ). m < x) (mul_comm p q) l) in
    let r : m % p < p = mod-lt m h in
    let k : ℕ = q - suc (m / p) in
    let e : m / p * p + m % p ≡ m = div-add-mod' m p in
    let g : (k + suc (m / p)) * p ≡ k * p + suc (m / p) * p = add-mul k (suc (m / p)) p in
    let t : suc (m / p) * p ≡ m / p * p + p = suc-mul (m / p) p in
    let w : q ≡ k + suc (m / p) = omega arith in
    let c : p * q ≡ k * p + suc (m / p) * p = mul_comm p q ∙ ap (λ (x : ℕ). x * p) w ∙ g in
    let s : p * q - suc m ≡ k * p + (p - suc (m % p)) = omega arith in
    ap (λ (x : ℕ). x % p) s ∙ digits_mod k (omega arith)

-- a number of 64 bits, cut to fewer
cut_to : (n : ℕ) → n ≤ 8 → (z : ℤ) → SFits w64 z → of_z w64 z % 2 ^ (8 * n) ≡ wrap (8 * n) z % 2 ^ (8 * n)
cut_to n h (pos m) f = sym (mod-eq_of_lt (mod-lt m (pow_pos (8 * n))))
cut_to n h (negsuc m) f =
    let p : ℕ = 2 ^ (8 * n) in
    let z : 0 < p = pow_pos (8 * n) in
    let e : 64 ≡ 8 * n + (64 - 8 * n) = omega arith in
    let w : 2 ^ 64 ≡ p * 2 ^ (64 - 8 * n) = ap (λ (k : ℕ). 2 ^ k) e ∙ pow-add 2 (8 * n) (64 - 8 * n) in
    let s : m < 2 ^ 64 = omega arith in
    ap (λ (x : ℕ). (x - suc m) % p) w
    ∙ less p (2 ^ (64 - 8 * n)) m z (subst (λ (x : ℕ). m < x) w s)
    ∙ sym (mod-eq_of_lt (let r : m % p < p = mod-lt m z in omega arith))

high_first : (v : ℕ) → to_be_bytes w64 v ≡ bytes_of_number 8 v
high_first v =
    ap (λ (y : ℕ). (v / 72057594037927936 % 256) ∷ (v / 281474976710656 % 256) ∷ (v / 1099511627776 % 256) ∷ (v / 4294967296 % 256) ∷ (v / 16777216 % 256) ∷ (v / 65536 % 256) ∷ (v / 256 % 256) ∷ y ∷ []) (omega arith)

drop_high : (n k v : ℕ) → drop n (bytes_of_number (n + k) v) ≡ bytes_of_number k v
drop_high zero k v = let e : 0 + k ≡ k = omega arith in ap (λ (m : ℕ). bytes_of_number m v) e
drop_high (suc n) k v = let e : suc n + k ≡ suc (n + k) = omega arith in ap (λ (m : ℕ). drop (suc n) (bytes_of_number m v)) e ∙ drop_high n k v

pub low_bytes : (n : ℕ) (z : ℤ) → n ≤ 8 → SFits w64 z → take (8 - (8 - n)) (drop (8 - n) (to_be_bytes w64 (of_z w64 z))) ≡ bytes_of_number n (wrap (8 * n) z)
low_bytes n z h f =
    let v : ℕ = of_z w64 z in
    let m : ℕ = 8 - (8 - n) in
    let e : m ≡ n = omega arith in
    let w : 8 ≡ 8 - n + n = omega arith in
    ap (λ (xs : List ℕ). take m (drop (8 - n) xs)) (high_first v ∙ ap (λ (k : ℕ). bytes_of_number k v) w)
    ∙ ap (take m) (drop_high (8 - n) n v)
    ∙ take_all m (bytes_of_number n v) (let l : length (bytes_of_number n v) ≡ n = number_length n v in omega arith)
    ∙ same_low n v (wrap (8 * n) z) (ap (λ (x : ℕ). v % x) (pow_bytes n) ∙ cut_to n h z f ∙ ap (λ (x : ℕ). wrap (8 * n) z % x) (sym (pow_bytes n)))
