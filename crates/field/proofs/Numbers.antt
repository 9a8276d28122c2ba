-- A distance in units, cut to its bytes and read back, for any number of bytes and any unit.
use Rattle.std.proofs.Common.{◌≡◌, ℕ, zero, suc, ◌+◌, ◌-◌, ◌*◌, ◌/◌, ◌%◌, ◌^◌, ◌<◌, ◌≤◌, true, false, ltb, length, ℤ, pos, negsuc, ◌*ℤ◌, neg_ℤ, sym, refl, ap, ◌∙◌, subst, add_assoc, mod-lt, mod-eq_of_lt, mul_assoc, suc-mul, mul_comm, div-lt_iff_lt-mul, add-mul, pow-suc, div-add-mod', arith, pow_pos, pow-add}
use native.Mathlib.Nat.{pow-succ'}
use lib.Arith.{mod-mul, digits_div}
use lib.Signed.{mag, shr_z}
use Rattle.std.proofs.lemmas.Bool.{lt-ltb, le-ltb, eqb-true}
use Rattle.refusal.specs.Numbers.{wrap, signed, big_endian, bytes_of_number}
use Rattle.field.specs.Family.{multiple}

-- Bytes.

eight : (n : ℕ) → 8 * suc n ≡ 8 * n + 8
eight n = omega arith

pub pow_bytes : (n : ℕ) → 256 ^ n ≡ 2 ^ (8 * n)
pow_bytes zero = refl
pow_bytes (suc n) = pow-suc 256 n ∙ ap (λ (x : ℕ). x * 256) (pow_bytes n) ∙ sym (ap (λ (k : ℕ). 2 ^ k) (eight n) ∙ pow-add 2 (8 * n) 8)

pub pow_256 : (n : ℕ) → 0 < 256 ^ n
pow_256 n = subst (λ (x : ℕ). 0 < x) (sym (pow_bytes n)) (pow_pos (8 * n))

pub number_length : (n v : ℕ) → length (bytes_of_number n v) ≡ n
number_length zero v = refl
number_length (suc n) v = ap suc (number_length n v)

read_on : (n acc v : ℕ) → big_endian acc (bytes_of_number n v) ≡ acc * 256 ^ n + v % 256 ^ n
read_on zero acc v = omega arith
read_on (suc n) acc v =
    let p : ℕ = 256 ^ n in
    let b : ℕ = v / p % 256 in
    let m : v % (256 * p) ≡ b * p + v % p = mod-mul v {m = 256} {c = p} (omega arith) (pow_256 n) in
    read_on n (acc * 256 + b) v
    ∙ ap (λ (x : ℕ). x + v % p) (add-mul (acc * 256) b p)
    ∙ add_assoc (acc * 256 * p) (b * p) (v % p)
    ∙ ap (λ (x : ℕ). x + (b * p + v % p)) (mul_assoc acc 256 p)
    ∙ ap (λ (x : ℕ). acc * (256 * p) + x) (sym m)
    ∙ ap (λ (x : ℕ). acc * x + v % x) (sym (pow-succ' 256 n))

pub read_back : (n v : ℕ) → v < 2 ^ (8 * n) → big_endian 0 (bytes_of_number n v) ≡ v
read_back n v h =
    let e : v % 256 ^ n ≡ v = mod-eq_of_lt (subst (λ (x : ℕ). v < x) (sym (pow_bytes n)) h) in
    read_on n 0 v ∙ (let z : 0 * 256 ^ n ≡ 0 = omega arith in omega arith)

-- Two's complement.

pub wrap_below : (b : ℕ) (z : ℤ) → wrap b z < 2 ^ b
wrap_below b (pos n) = mod-lt n (pow_pos b)
wrap_below b (negsuc n) = let h : 0 < 2 ^ b = pow_pos b in omega arith

signed_at : (h : ℕ) (z : ℤ) (b : ℕ) → 2 ^ b ≡ h + h → 2 ^ (b - 1) ≡ h → mag z < h → signed b (wrap b z) ≡ z
signed_at h (pos n) b e f l =
    let w : n % 2 ^ b ≡ n = mod-eq_of_lt (omega arith) in
    let t : ltb n (2 ^ (b - 1)) ≡ true = lt-ltb n (2 ^ (b - 1)) (omega arith) in
    rw (w, t)
signed_at h (negsuc n) b e f l =
    let w : n % 2 ^ b ≡ n = mod-eq_of_lt (omega arith) in
    let t : ltb (2 ^ b - suc n) (2 ^ (b - 1)) ≡ false = le-ltb (2 ^ b - suc n) (2 ^ (b - 1)) (omega arith) in
    rw (w, t) (ap negsuc (omega arith))

pub doubled : (b : ℕ) → 0 < b → 2 ^ b ≡ 2 ^ (b - 1) + 2 ^ (b - 1)
doubled b h =
    let e : b ≡ suc (b - 1) = omega arith in
    ap (λ (k : ℕ). 2 ^ k) e ∙ pow-suc 2 (b - 1) ∙ (let p : ℕ = 2 ^ (b - 1) in let q : p * 2 ≡ p + p = omega arith in q)

pub signed_wrap : (b : ℕ) (z : ℤ) → 0 < b → mag z < 2 ^ (b - 1) → signed b (wrap b z) ≡ z
signed_wrap b z h l = signed_at (2 ^ (b - 1)) z b (doubled b h) refl l

-- Units.

-- the greatest number below a multiple of a
pub below_multiple : (a q n : ℕ) → 1 ≤ a → q * a ≡ suc n → a * suc (n / a) ≡ suc n
below_multiple a zero n h s = let z : 0 * a ≡ 0 = omega arith in absurd (omega arith)
below_multiple a (suc q) n h s =
    let t : suc q * a ≡ q * a + a = suc-mul q a in
    let e : n ≡ q * a + (a - 1) = omega arith in
    let d : n / a ≡ q = ap (λ (x : ℕ). x / a) e ∙ digits_div q {m = a} {r = a - 1} (omega arith) in
    ap (λ (x : ℕ). a * suc x) d ∙ mul_comm a (suc q) ∙ s

pub in_units : (a : ℕ) (d : ℤ) → 1 ≤ a → multiple a d ≡ true → pos a *ℤ shr_z d a ≡ d
in_units a (pos n) h m =
    let e : n % a ≡ 0 = eqb-true (n % a) 0 m in
    let q : n / a * a + n % a ≡ n = div-add-mod' n a in
    let c : a * (n / a) ≡ n / a * a = mul_comm a (n / a) in
    ap pos (omega arith)
in_units a (negsuc n) h m =
    let e : suc n % a ≡ 0 = eqb-true (suc n % a) 0 m in
    let s : suc n / a * a + suc n % a ≡ suc n = div-add-mod' (suc n) a in
    ap (λ (x : ℕ). neg_ℤ (pos x)) (below_multiple a (suc n / a) n h (omega arith))

pub shr_below : (a h : ℕ) (d : ℤ) → 1 ≤ a → mag d < h * a → mag (shr_z d a) < h
shr_below a h (pos n) p l = (div-lt_iff_lt-mul p).1 l
shr_below a h (negsuc n) p l = (div-lt_iff_lt-mul p).1 l

-- a distance in units of a, in n bytes
pub held_back : (a n : ℕ) (d : ℤ) → 1 ≤ a → 0 < n → mag d < 2 ^ (8 * n - 1) * a → multiple a d ≡ true
    → pos a *ℤ signed (8 * n) (big_endian 0 (bytes_of_number n (wrap (8 * n) (shr_z d a)))) ≡ d
held_back a n d h k l m =
    ap (λ (v : ℕ). pos a *ℤ signed (8 * n) v) (read_back n (wrap (8 * n) (shr_z d a)) (wrap_below (8 * n) (shr_z d a)))
    ∙ ap (λ (z : ℤ). pos a *ℤ z) (signed_wrap (8 * n) (shr_z d a) (omega arith) (shr_below a (2 ^ (8 * n - 1)) d h l))
    ∙ in_units a d h m
