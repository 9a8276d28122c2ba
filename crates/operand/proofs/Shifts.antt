-- Digits of a number: what a mask of one digit keeps, and the least shift at which a number is one digit.
use Rattle.std.proofs.Common.{◌≡◌, ℕ, zero, suc, ◌+◌, ◌-◌, ◌*◌, ◌/◌, ◌%◌, ◌^◌, ◌<◌, eqb, Some, Option, sym, ap, ◌∙◌, subst, ⊎_elim, mod-lt, mod-eq_of_lt, arith}
use Rattle.std.proofs.Math.Nat.{mul-le-mul_right, mod-le, div-mul-le_self}
use Rattle.std.proofs.lemmas.Nat.{pow_pos, shl-shr}
use Rattle.std.proofs.lemmas.Bool.{cond_both, eqb-true, eqb-false, eq-eqb, ne_eqb, cases_eq}
use Rattle.operand.specs.Imms.{Digit, LeastShift, shift_from, least_shift}

-- the digit at shift k is the one that v is, if there is one
pub the_digit : (w v b k : ℕ) → Digit w v b k → v / 2 ^ (w * k) % 2 ^ w ≡ b
the_digit w v b k d =
    ap (λ x. x / 2 ^ (w * k) % 2 ^ w) (sym d.is) ∙ (ap (λ x. x % 2 ^ w) (shl-shr b (w * k)) ∙ mod-eq_of_lt d.small)

-- trying the shifts in order finds the least
pub least : (w n k m v : ℕ) → m ≡ n + k → ((b j : ℕ) → j < k → Digit w v b j → ⊥) → LeastShift w m v (shift_from w n k v)
least w zero k m v e below = λ b j h d. below b j (omega arith) d
least w (suc n) k m v e below =
    let g : ℕ = v / 2 ^ (w * k) % 2 ^ w in
    cond_both (eqb (g * 2 ^ (w * k)) v) _ _ (LeastShift w m v)
    (λ t. (omega arith, record { small = mod-lt (v / 2 ^ (w * k)) (pow_pos w); is = eqb-true _ _ t }, below))
    (λ t. least w n (suc k) m v (omega arith) (λ b j h d.
    ⊎_elim
    (λ s. let d' : Digit w v b k = subst (Digit w v b) s d in
    eqb-false _ _ t (ap (λ x. x * 2 ^ (w * k)) (the_digit w v b k d') ∙ d'.is))
    (λ s. below b j (omega arith) d)
    (cases_eq j k)))

pub means : (w n v : ℕ) (o : Option (ℕ × ℕ)) → o ≡ least_shift w n v → LeastShift w n v o
means w n v o e = subst (LeastShift w n v) (sym e) (least w n 0 n v (omega arith) (λ b j h d. omega arith))

-- a number of 64 bits is not cut where it is a digit of v in its place
in_place : (w k v : ℕ) → v < 2 ^ 64 → v / 2 ^ (w * k) % 2 ^ w * 2 ^ (w * k) < 2 ^ 64
in_place w k v f =
    let p = 2 ^ (w * k) in
    let le = mul-le-mul_right p (mod-le (v / p) (2 ^ w)) in
    let back = div-mul-le_self v p in
    omega (arith, le, back)

-- one turn of the search, over digits of b bits: the digit at shift k is v, or the search goes on
pub met : (w b n k v d : ℕ) → b ≡ w → v < 2 ^ 64 → k < n → d ≡ v / 2 ^ (b * k) % 2 ^ w → d * 2 ^ (b * k) % 2 ^ 64 ≡ v → shift_from w (n - k) k v ≡ Some (d, k)
met w b n k v d s f h e t =
    let more : n - k ≡ suc (n - suc k) = omega (arith, h) in
    let at : d ≡ v / 2 ^ (w * k) % 2 ^ w = e ∙ ap (λ x. v / 2 ^ (x * k) % 2 ^ w) s in
    let is : v / 2 ^ (w * k) % 2 ^ w * 2 ^ (w * k) ≡ v =
    sym (mod-eq_of_lt (in_place w k v f)) ∙ (ap (λ x. x * 2 ^ (w * k) % 2 ^ 64) (sym at) ∙ (ap (λ x. d * 2 ^ (x * k) % 2 ^ 64) (sym s) ∙ t)) in
    rw more (rw (eq-eqb _ _ is) (ap (λ x. Some (x, k)) (sym at)))

pub unmet : (w b n k v d : ℕ) → b ≡ w → v < 2 ^ 64 → k < n → d ≡ v / 2 ^ (b * k) % 2 ^ w → (d * 2 ^ (b * k) % 2 ^ 64 ≡ v → ⊥) → shift_from w (n - k) k v ≡ shift_from w (n - (k + 1)) (k + 1) v
unmet w b n k v d s f h e t =
    let more : n - k ≡ suc (n - (k + 1)) = omega (arith, h) in
    let at : d ≡ v / 2 ^ (w * k) % 2 ^ w = e ∙ ap (λ x. v / 2 ^ (x * k) % 2 ^ w) s in
    let not : v / 2 ^ (w * k) % 2 ^ w * 2 ^ (w * k) ≡ v → ⊥ =
    λ is. t (ap (λ x. d * 2 ^ (x * k) % 2 ^ 64) s ∙ (ap (λ x. x * 2 ^ (w * k) % 2 ^ 64) at ∙ (mod-eq_of_lt (in_place w k v f) ∙ is))) in
    let next : suc k ≡ k + 1 = omega arith in
    rw more (rw (ne_eqb _ _ not) (ap (λ i. shift_from w (n - (k + 1)) i v) next))
