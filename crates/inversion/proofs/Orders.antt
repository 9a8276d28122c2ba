-- In which order an operand's digits stand in a row, and that a number is told by its digits in each of these orders.
use Rattle.std.proofs.Common.{◌≡◌, ℕ, zero, suc, ◌+◌, ◌*◌, ◌/◌, ◌%◌, ◌^◌, ◌<◌, List, [], ◌∷◌, map, length, refl, ap, ◌∙◌, subst, arith}
use lib.Arith.{mod-mul, digits_div}
use Rattle.std.specs.List.{AllByRecursion}
use Rattle.form.specs.Encode.{nibble}

pub data Order : Type 0 where
  one : Order
  two : Order
  three : Order
  four : Order
  twenty : Order  -- twenty bits: the low three digits first
  eight : Order

abbrev pub listed : Order → List ℕ
listed one = 0 ∷ []
listed two = 1 ∷ 0 ∷ []
listed three = 2 ∷ 1 ∷ 0 ∷ []
listed four = 3 ∷ 2 ∷ 1 ∷ 0 ∷ []
listed twenty = 2 ∷ 1 ∷ 0 ∷ 4 ∷ 3 ∷ []
listed eight = 7 ∷ 6 ∷ 5 ∷ 4 ∷ 3 ∷ 2 ∷ 1 ∷ 0 ∷ []

abbrev pub limit : Order → ℕ
limit w = 16 ^ length (listed w)

-- the number with the digits vs at the places ws
abbrev pub sumw : List ℕ → List ℕ → ℕ
sumw [] vs = 0
sumw (w ∷ ws) [] = 0
sumw (w ∷ ws) (v ∷ vs) = v * 16 ^ w + sumw ws vs

step : (x c : ℕ) → 0 < c → x % (16 * c) ≡ x / c % 16 * c + x % c
step x c h = mod-mul x {m = 16} {c = c} (omega arith) h

low_3 : (x : ℕ) → x % 4096 ≡ x / 256 % 16 * 256 + (x / 16 % 16 * 16 + (x / 1 % 16 * 1 + 0))
low_3 x = let a = step x 16 (omega arith) in let b = step x 256 (omega arith) in omega arith

pub whole : (w : Order) (x : ℕ) → x < limit w → sumw (listed w) (map (nibble x) (listed w)) ≡ x
whole one x h = omega arith
whole two x h = omega arith
whole three x h = omega arith
whole four x h = let a = low_3 x in let b = step x 4096 (omega arith) in let e : x % 65536 ≡ x = omega arith in omega arith
whole twenty x h =
    let a = low_3 x in
    let b = step x 4096 (omega arith) in
    let c = step x 65536 (omega arith) in
    let e : x % 1048576 ≡ x = omega arith in
    omega arith
whole eight x h =
    let a = low_3 x in
    let b = step x 4096 (omega arith) in
    let c = step x 65536 (omega arith) in
    let d = step x 1048576 (omega arith) in
    let f = step x 16777216 (omega arith) in
    let g = step x 268435456 (omega arith) in
    let e : x % 4294967296 ≡ x = omega arith in
    omega arith

-- a list, written out
abbrev head : List ℕ → ℕ
head [] = 0
head (v ∷ vs) = v

abbrev tail : List ℕ → List ℕ
tail [] = []
tail (v ∷ vs) = vs

abbrev spelled : ℕ → List ℕ → List ℕ
spelled zero vs = []
spelled (suc n) vs = head vs ∷ spelled n (tail vs)

spell : (n : ℕ) (vs : List ℕ) → length vs ≡ n → spelled n vs ≡ vs
spell zero [] h = refl
spell zero (v ∷ vs) h = absurd (omega arith)
spell (suc n) [] h = absurd (omega arith)
spell (suc n) (v ∷ vs) h = let e = spell n vs (omega arith) in cc

head_small : (vs : List ℕ) → AllByRecursion (λ v. v < 16) vs → head vs < 16
head_small [] h = omega arith
head_small (v ∷ vs) h = h.0

tail_small : (vs : List ℕ) → AllByRecursion (λ v. v < 16) vs → AllByRecursion (λ v. v < 16) (tail vs)
tail_small [] h = h
tail_small (v ∷ vs) h = h.1

-- what the digits are, and that the number is below the limit
abbrev Told : Order → List ℕ → Type 0
Told w vs = (map (nibble (sumw (listed w) vs)) (listed w) ≡ vs) × (sumw (listed w) vs < limit w)

at : (s hi v lo c : ℕ) → 0 < c → s ≡ (hi * 16 + v) * c + lo → lo < c → v < 16 → s / c % 16 ≡ v
at s hi v lo c z e l h = ap (λ (n : ℕ). n / c % 16) e ∙ ap (λ (n : ℕ). n % 16) (digits_div (hi * 16 + v) l) ∙ omega arith

told_one : (a : ℕ) → a < 16 → Told one (a ∷ [])
told_one a pa =
    let ea = at (sumw (listed one) (a ∷ [])) (0) a (0) 1 (omega arith) (omega arith) (omega arith) pa in
    (cc, omega arith)

told_two : (a b : ℕ) → a < 16 → b < 16 → Told two (a ∷ b ∷ [])
told_two a b pa pb =
    let ea = at (sumw (listed two) (a ∷ b ∷ [])) (0) a (b * 1) 16 (omega arith) (omega arith) (omega arith) pa in
    let eb = at (sumw (listed two) (a ∷ b ∷ [])) (a * 1) b (0) 1 (omega arith) (omega arith) (omega arith) pb in
    (cc, omega arith)

told_three : (a b c : ℕ) → a < 16 → b < 16 → c < 16 → Told three (a ∷ b ∷ c ∷ [])
told_three a b c pa pb pc =
    let ea = at (sumw (listed three) (a ∷ b ∷ c ∷ [])) (0) a (b * 16 + c * 1) 256 (omega arith) (omega arith) (omega arith) pa in
    let eb = at (sumw (listed three) (a ∷ b ∷ c ∷ [])) (a * 1) b (c * 1) 16 (omega arith) (omega arith) (omega arith) pb in
    let ec = at (sumw (listed three) (a ∷ b ∷ c ∷ [])) (a * 16 + b * 1) c (0) 1 (omega arith) (omega arith) (omega arith) pc in
    (cc, omega arith)

told_four : (a b c d : ℕ) → a < 16 → b < 16 → c < 16 → d < 16 → Told four (a ∷ b ∷ c ∷ d ∷ [])
told_four a b c d pa pb pc pd =
    let ea = at (sumw (listed four) (a ∷ b ∷ c ∷ d ∷ [])) (0) a (b * 256 + c * 16 + d * 1) 4096 (omega arith) (omega arith) (omega arith) pa in
    let eb = at (sumw (listed four) (a ∷ b ∷ c ∷ d ∷ [])) (a * 1) b (c * 16 + d * 1) 256 (omega arith) (omega arith) (omega arith) pb in
    let ec = at (sumw (listed four) (a ∷ b ∷ c ∷ d ∷ [])) (a * 16 + b * 1) c (d * 1) 16 (omega arith) (omega arith) (omega arith) pc in
    let ed = at (sumw (listed four) (a ∷ b ∷ c ∷ d ∷ [])) (a * 256 + b * 16 + c * 1) d (0) 1 (omega arith) (omega arith) (omega arith) pd in
    (cc, omega arith)

told_twenty : (a b c d e : ℕ) → a < 16 → b < 16 → c < 16 → d < 16 → e < 16 → Told twenty (a ∷ b ∷ c ∷ d ∷ e ∷ [])
told_twenty a b c d e pa pb pc pd pe =
    let ea = at (sumw (listed twenty) (a ∷ b ∷ c ∷ d ∷ e ∷ [])) (d * 16 + e * 1) a (b * 16 + c * 1) 256 (omega arith) (omega arith) (omega arith) pa in
    let eb = at (sumw (listed twenty) (a ∷ b ∷ c ∷ d ∷ e ∷ [])) (a * 1 + d * 256 + e * 16) b (c * 1) 16 (omega arith) (omega arith) (omega arith) pb in
    let ec = at (sumw (listed twenty) (a ∷ b ∷ c ∷ d ∷ e ∷ [])) (a * 16 + b * 1 + d * 4096 + e * 256) c (0) 1 (omega arith) (omega arith) (omega arith) pc in
    let ed = at (sumw (listed twenty) (a ∷ b ∷ c ∷ d ∷ e ∷ [])) (0) d (a * 256 + b * 16 + c * 1 + e * 4096) 65536 (omega arith) (omega arith) (omega arith) pd in
    let ee = at (sumw (listed twenty) (a ∷ b ∷ c ∷ d ∷ e ∷ [])) (d * 1) e (a * 256 + b * 16 + c * 1) 4096 (omega arith) (omega arith) (omega arith) pe in
    (cc, omega arith)

told_eight : (a b c d e f g h : ℕ) → a < 16 → b < 16 → c < 16 → d < 16 → e < 16 → f < 16 → g < 16 → h < 16 → Told eight (a ∷ b ∷ c ∷ d ∷ e ∷ f ∷ g ∷ h ∷ [])
told_eight a b c d e f g h pa pb pc pd pe pf pg ph =
    let ea = at (sumw (listed eight) (a ∷ b ∷ c ∷ d ∷ e ∷ f ∷ g ∷ h ∷ [])) (0) a (b * 16777216 + c * 1048576 + d * 65536 + e * 4096 + f * 256 + g * 16 + h * 1) 268435456 (omega arith) (omega arith) (omega arith) pa in
    let eb = at (sumw (listed eight) (a ∷ b ∷ c ∷ d ∷ e ∷ f ∷ g ∷ h ∷ [])) (a * 1) b (c * 1048576 + d * 65536 + e * 4096 + f * 256 + g * 16 + h * 1) 16777216 (omega arith) (omega arith) (omega arith) pb in
    let ec = at (sumw (listed eight) (a ∷ b ∷ c ∷ d ∷ e ∷ f ∷ g ∷ h ∷ [])) (a * 16 + b * 1) c (d * 65536 + e * 4096 + f * 256 + g * 16 + h * 1) 1048576 (omega arith) (omega arith) (omega arith) pc in
    let ed = at (sumw (listed eight) (a ∷ b ∷ c ∷ d ∷ e ∷ f ∷ g ∷ h ∷ [])) (a * 256 + b * 16 + c * 1) d (e * 4096 + f * 256 + g * 16 + h * 1) 65536 (omega arith) (omega arith) (omega arith) pd in
    let ee = at (sumw (listed eight) (a ∷ b ∷ c ∷ d ∷ e ∷ f ∷ g ∷ h ∷ [])) (a * 4096 + b * 256 + c * 16 + d * 1) e (f * 256 + g * 16 + h * 1) 4096 (omega arith) (omega arith) (omega arith) pe in
    let ef = at (sumw (listed eight) (a ∷ b ∷ c ∷ d ∷ e ∷ f ∷ g ∷ h ∷ [])) (a * 65536 + b * 4096 + c * 256 + d * 16 + e * 1) f (g * 16 + h * 1) 256 (omega arith) (omega arith) (omega arith) pf in
    let eg = at (sumw (listed eight) (a ∷ b ∷ c ∷ d ∷ e ∷ f ∷ g ∷ h ∷ [])) (a * 1048576 + b * 65536 + c * 4096 + d * 256 + e * 16 + f * 1) g (h * 1) 16 (omega arith) (omega arith) (omega arith) pg in
    let eh = at (sumw (listed eight) (a ∷ b ∷ c ∷ d ∷ e ∷ f ∷ g ∷ h ∷ [])) (a * 16777216 + b * 1048576 + c * 65536 + d * 4096 + e * 256 + f * 16 + g * 1) h (0) 1 (omega arith) (omega arith) (omega arith) ph in
    (cc, omega arith)

pub told : (w : Order) (vs : List ℕ) → length vs ≡ length (listed w) → AllByRecursion (λ v. v < 16) vs → Told w vs
told one vs l h =
    subst (λ (us : List ℕ). Told one us) (spell 1 vs l)
    (told_one (head vs)
    (head_small vs h))
told two vs l h =
    subst (λ (us : List ℕ). Told two us) (spell 2 vs l)
    (told_two (head vs) (head (tail vs))
    (head_small vs h) (head_small (tail vs) (tail_small vs h)))
told three vs l h =
    subst (λ (us : List ℕ). Told three us) (spell 3 vs l)
    (told_three (head vs) (head (tail vs)) (head (tail (tail vs)))
    (head_small vs h) (head_small (tail vs) (tail_small vs h)) (head_small (tail (tail vs)) (tail_small (tail vs) (tail_small vs h))))
told four vs l h =
    subst (λ (us : List ℕ). Told four us) (spell 4 vs l)
    (told_four (head vs) (head (tail vs)) (head (tail (tail vs))) (head (tail (tail (tail vs))))
    (head_small vs h) (head_small (tail vs) (tail_small vs h)) (head_small (tail (tail vs)) (tail_small (tail vs) (tail_small vs h))) (head_small (tail (tail (tail vs))) (tail_small (tail (tail vs)) (tail_small (tail vs) (tail_small vs h)))))
told twenty vs l h =
    subst (λ (us : List ℕ). Told twenty us) (spell 5 vs l)
    (told_twenty (head vs) (head (tail vs)) (head (tail (tail vs))) (head (tail (tail (tail vs)))) (head (tail (tail (tail (tail vs)))))
    (head_small vs h) (head_small (tail vs) (tail_small vs h)) (head_small (tail (tail vs)) (tail_small (tail vs) (tail_small vs h))) (head_small (tail (tail (tail vs))) (tail_small (tail (tail vs)) (tail_small (tail vs) (tail_small vs h)))) (head_small (tail (tail (tail (tail vs)))) (tail_small (tail (tail (tail vs))) (tail_small (tail (tail vs)) (tail_small (tail vs) (tail_small vs h))))))
told eight vs l h =
    subst (λ (us : List ℕ). Told eight us) (spell 8 vs l)
    (told_eight (head vs) (head (tail vs)) (head (tail (tail vs))) (head (tail (tail (tail vs)))) (head (tail (tail (tail (tail vs))))) (head (tail (tail (tail (tail (tail vs)))))) (head (tail (tail (tail (tail (tail (tail vs))))))) (head (tail (tail (tail (tail (tail (tail (tail vs))))))))
    (head_small vs h) (head_small (tail vs) (tail_small vs h)) (head_small (tail (tail vs)) (tail_small (tail vs) (tail_small vs h))) (head_small (tail (tail (tail vs))) (tail_small (tail (tail vs)) (tail_small (tail vs) (tail_small vs h)))) (head_small (tail (tail (tail (tail vs)))) (tail_small (tail (tail (tail vs))) (tail_small (tail (tail vs)) (tail_small (tail vs) (tail_small vs h))))) (head_small (tail (tail (tail (tail (tail vs))))) (tail_small (tail (tail (tail (tail vs)))) (tail_small (tail (tail (tail vs))) (tail_small (tail (tail vs)) (tail_small (tail vs) (tail_small vs h)))))) (head_small (tail (tail (tail (tail (tail (tail vs)))))) (tail_small (tail (tail (tail (tail (tail vs))))) (tail_small (tail (tail (tail (tail vs)))) (tail_small (tail (tail (tail vs))) (tail_small (tail (tail vs)) (tail_small (tail vs) (tail_small vs h))))))) (head_small (tail (tail (tail (tail (tail (tail (tail vs))))))) (tail_small (tail (tail (tail (tail (tail (tail vs)))))) (tail_small (tail (tail (tail (tail (tail vs))))) (tail_small (tail (tail (tail (tail vs)))) (tail_small (tail (tail (tail vs))) (tail_small (tail (tail vs)) (tail_small (tail vs) (tail_small vs h)))))))))
