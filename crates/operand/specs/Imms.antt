-- Immediates: numbers within a width, and digits of some bits shifted left by whole digits.
use Rattle.std.specs.Prelude.{◌≡◌, ℕ, zero, suc, ◌*◌, ◌/◌, ◌%◌, ◌^◌, ◌<◌, cond, ℤ, pos, Some, None, Option, MatchOption, ◌==◌}
use Rattle.refusal.specs.Numbers.{Width, within}
use Rattle.operand.specs.declared.imms.UImm12.{UImm12}
use Rattle.operand.specs.declared.imms.SImm20.{SImm20}
use Rattle.operand.specs.declared.imms.Shifted.{Shifted}

-- the number that an immediate is
abbrev pub number_12 : UImm12 → ℤ
number_12 u = pos u.value

abbrev pub number_20 : SImm20 → ℤ
number_20 s = s.value

-- z, if it stands in that width
abbrev pub if_within : Width → ℤ → Option ℤ
if_within w z = cond (within w z) (Some z) None

-- the digit b shifted left by k digits
abbrev pub shifted : {T : Type 0} → T → ℕ → Shifted T
shifted b k = record { bits = b; shift = k }

-- its digit as a number, and its shift
abbrev pub parts : {T : Type 0} → (T → ℕ) → Shifted T → ℕ × ℕ
parts number i = (number i.bits, i.shift)

-- the number v is the digit b, of w bits, shifted left by k digits
pub record Digit (w v b k : ℕ) : Type 0 where
  pub small : b < 2 ^ w
  pub is : b * 2 ^ (w * k) ≡ v

-- o is the digit and its shift, below n and the least, of which v consists; none, if there is no such
abbrev pub LeastShift : ℕ → ℕ → ℕ → Option (ℕ × ℕ) → Type 0
LeastShift w n v o =
    MatchOption o
    ((b k : ℕ) → k < n → Digit w v b k → ⊥)
    (λ p. (p.1 < n) × Digit w v p.0 p.1 × ((b k : ℕ) → k < p.1 → Digit w v b k → ⊥))

-- the same by trying each shift, from k on
abbrev pub shift_from : ℕ → ℕ → ℕ → ℕ → Option (ℕ × ℕ)
shift_from w zero k v = None
shift_from w (suc n) k v =
    cond (v / 2 ^ (w * k) % 2 ^ w * 2 ^ (w * k) == v) (Some (v / 2 ^ (w * k) % 2 ^ w, k)) (shift_from w n (suc k) v)

abbrev pub least_shift : ℕ → ℕ → ℕ → Option (ℕ × ℕ)
least_shift w n v = shift_from w n 0 v
