-- Rows of digits, for any row that passes a computed test: writing and reading are inverse.
use Rattle.std.proofs.Common.{◌≡◌, ℕ, zero, suc, ◌+◌, ◌-◌, ◌*◌, ◌/◌, ◌%◌, ◌^◌, ◌<◌, ◌≤◌, Bool, true, false, cond, not, ◌&&◌, ◌||◌, T, eqb, ltb, ◌⊎◌, List, [], ◌∷◌, ◌++◌, map, length, get_or, replicate, ℤ, pos, negsuc, nat_abs, sym, refl, ap, ◌∙◌, subst, inl, inr, add-zero, add-mul, one-mul, zero-add, zero-mul, mul-one, arith, length-append}
use mathlib.Core.Bool.{false≢true}
use lib.Dec.{eqb_refl}
use lib.ListN.{length-replicate}
use Rattle.std.specs.List.{AllByRecursion}
use Rattle.std.proofs.lemmas.Nat.{mod_below, mul-le}
use Rattle.std.proofs.lemmas.Bool.Decides.{nat_tests}
use Rattle.form.specs.declared.OperandKind.{OperandKind}
use Rattle.form.specs.declared.OperandKind.TheVariants.{G, N, V, F, M, U8, U16, U32, S16, D12, D20, H16, H32}
use Rattle.form.specs.declared.Form.{Form}
use Rattle.form.specs.Form.{Digit, op, arg, vec, unused, rxb, row, kinds, opcode_places}
use Rattle.inversion.specs.Inversion.{WrittenIsReadAt, ReadIsWrittenAt}
use Rattle.form.specs.Encode.{width, In, operand_bits, operands_bits, nibble, above, high, rxb_digit, value, pairs, nibbles, gather, opcode_part, operand_part, bit_part, bit_of, field_of, operands_from, six, is_vec, rxb_clean, digit_clean, all_clean, takes}
use Rattle.form.proofs.Tests.{left, right, both, T_true, eqb_is, ltb_is, same, same_is}
use Rattle.inversion.proofs.Orders.{Order, one, two, three, four, twenty, eight, listed, limit, sumw, whole, told}
use Rattle.inversion.proofs.Fields.{bits, field_small, number_again, field_again}
use Rattle.refusal.specs.Numbers.{from_bits}

-- THE TEST of a row.

-- whose digit it is
abbrev of_opcode : Digit → Bool
of_opcode (op k) = true
of_opcode (arg i k) = false
of_opcode (vec i) = false
of_opcode unused = false
of_opcode rxb = false

abbrev of_operand : ℕ → Digit → Bool
of_operand i (op k) = false
of_operand i (arg j k) = eqb i j
of_operand i (vec j) = eqb i j
of_operand i unused = false
of_operand i rxb = false

-- which of its digits it is
abbrev weight : Digit → ℕ
weight (op k) = k
weight (arg i k) = k
weight (vec i) = 0
weight unused = 0
weight rxb = 0

-- the digits that m picks, in the row's order
abbrev weights : (Digit → Bool) → List Digit → List ℕ
weights m [] = []
weights m (d ∷ ds) = cond (m d) (weight d ∷ weights m ds) (weights m ds)

-- what stands at them
abbrev pick : (Digit → Bool) → List Digit → List ℕ → List ℕ
pick m [] xs = []
pick m (d ∷ ds) [] = []
pick m (d ∷ ds) (x ∷ xs) = cond (m d) (x ∷ pick m ds xs) (pick m ds xs)

abbrev even_row : List Digit → Bool
even_row [] = true
even_row (a ∷ []) = false
even_row (a ∷ b ∷ ds) = even_row ds

abbrev order : OperandKind → Order
order G = one
order N = one
order V = one
order F = one
order M = one
order U8 = two
order U16 = four
order U32 = eight
order S16 = four
order D12 = three
order D20 = twenty
order H16 = four
order H32 = eight

abbrev is_V : OperandKind → Bool
is_V G = false
is_V N = false
is_V V = true
is_V F = false
is_V M = false
is_V U8 = false
is_V U16 = false
is_V U32 = false
is_V S16 = false
is_V D12 = false
is_V D20 = false
is_V H16 = false
is_V H32 = false

-- the opcode's digits
abbrev opcode_order : ℕ → Order
opcode_order n = cond (eqb n 2) two (cond (eqb n 3) three four)

abbrev opcode_fits : List Digit → ℕ → Bool
opcode_fits ds n = same (weights of_opcode ds) (listed (opcode_order n)) && eqb (length (listed (opcode_order n))) n

-- how often operand i stands where a vector register has its bit
abbrev marks : ℕ → List Digit → ℕ
marks i ds = bit_part i (get_or ds 2 unused) 1 + bit_part i (get_or ds 3 unused) 1 + bit_part i (get_or ds 4 unused) 1 + bit_part i (get_or ds 8 unused) 1

abbrev is_rxb : Digit → Bool
is_rxb (op k) = false
is_rxb (arg i k) = false
is_rxb (vec i) = false
is_rxb unused = false
is_rxb rxb = true

-- operand i's digits are those of its kind, and a vector register's bit stands once
abbrev fits : ℕ → List Digit → OperandKind → Bool
fits i ds k =
    same (weights (of_operand i) ds) (listed (order k)) && (eqb (marks i ds) (cond (is_V k) 1 0) && (not (is_V k) || is_rxb (get_or ds 9 unused)))

abbrev each : ℕ → List Digit → List OperandKind → Bool
each i ds [] = true
each i ds (k ∷ ks) = fits i ds k && each (suc i) ds ks

-- a digit belongs to one of the operands, a low digit of a vector register to a vector register; and RXB is digit 9
abbrev belongs : List OperandKind → Digit → Bool
belongs ks (op k) = true
belongs ks (arg i k) = ltb i (length ks)
belongs ks (vec i) = ltb i (length ks) && is_V (get_or ks i M)
belongs ks unused = true
belongs ks rxb = true

abbrev placed : List OperandKind → ℕ → List Digit → Bool
placed ks p [] = true
placed ks p (d ∷ ds) = (belongs ks d && (not (is_rxb d) || eqb p 9)) && placed ks (suc p) ds

abbrev pub sound : List Digit → List OperandKind → Bool
sound ds ks = even_row ds && (ltb (length ks) 7 && (opcode_fits ds (length (opcode_places 0 ds)) && (each 0 ds ks && placed ks 0 ds)))

-- What is picked.

sumw_none : (ws : List ℕ) → sumw ws [] ≡ 0
sumw_none [] = refl
sumw_none (w ∷ ws) = refl

module _ (m : Digit → Bool) where
  gather_is : (w : Digit → ℕ → ℕ) → ((d : Digit) (x : ℕ) → w d x ≡ cond (m d) (x * 16 ^ weight d) 0)
      → (ds : List Digit) (xs : List ℕ) → gather w ds xs ≡ sumw (weights m ds) (pick m ds xs)
  gather_is w h [] xs = refl
  gather_is w h (d ∷ ds) [] = sym (sumw_none (weights m (d ∷ ds)))
  gather_is w h (d ∷ ds) (x ∷ xs) = more (m d) (h d x) (gather_is w h ds xs) where
    more : (b : Bool) {p q : ℕ} → p ≡ cond b (x * 16 ^ weight d) 0 → q ≡ sumw (weights m ds) (pick m ds xs)
        → p + q ≡ sumw (cond b (weight d ∷ weights m ds) (weights m ds)) (cond b (x ∷ pick m ds xs) (pick m ds xs))
    more true e f = cc
    more false e f = omega arith

  -- what a row writes at them
  pick_value : (v : Digit → ℕ) (x : ℕ) → ((d : Digit) → m d ≡ true → v d ≡ nibble x (weight d))
      → (ds : List Digit) → pick m ds (map v ds) ≡ map (nibble x) (weights m ds)
  pick_value v x h [] = refl
  pick_value v x h (d ∷ ds) = more (m d) (h d) (pick_value v x h ds) where
    more : (b : Bool) → (b ≡ true → v d ≡ nibble x (weight d)) → pick m ds (map v ds) ≡ map (nibble x) (weights m ds)
        → cond b (v d ∷ pick m ds (map v ds)) (pick m ds (map v ds)) ≡ map (nibble x) (cond b (weight d ∷ weights m ds) (weights m ds))
    more true e f = let g = e refl in cc
    more false e f = f

  pick_length : (ds : List Digit) (xs : List ℕ) → length xs ≡ length ds → length (pick m ds xs) ≡ length (weights m ds)
  pick_length [] xs h = refl
  pick_length (d ∷ ds) [] h = absurd (omega arith)
  pick_length (d ∷ ds) (x ∷ xs) h = more (m d) (pick_length ds xs (omega arith)) where
    more : (b : Bool) → length (pick m ds xs) ≡ length (weights m ds)
        → length (cond b (x ∷ pick m ds xs) (pick m ds xs)) ≡ length (cond b (weight d ∷ weights m ds) (weights m ds))
    more true e = ap suc e
    more false e = e

  pick_small : (ds : List Digit) (xs : List ℕ) → AllByRecursion (λ x. x < 16) xs → AllByRecursion (λ x. x < 16) (pick m ds xs)
  pick_small [] xs h = tt
  pick_small (d ∷ ds) [] h = tt
  pick_small (d ∷ ds) (x ∷ xs) h = more (m d) (pick_small ds xs h.1) where
    more : (b : Bool) → AllByRecursion (λ x. x < 16) (pick m ds xs) → AllByRecursion (λ x. x < 16) (cond b (x ∷ pick m ds xs) (pick m ds xs))
    more true e = (h.0, e)
    more false e = e

  -- where the digits g are those picked: the first, and the rest
  first : (g : ℕ → ℕ) (d : Digit) (ds : List Digit) (x : ℕ) (xs : List ℕ)
      → map g (weights m (d ∷ ds)) ≡ pick m (d ∷ ds) (x ∷ xs) → m d ≡ true → g (weight d) ≡ x
  first g d ds x xs h = is (m d) h where
    is : (b : Bool) → map g (cond b (weight d ∷ weights m ds) (weights m ds)) ≡ cond b (x ∷ pick m ds xs) (pick m ds xs) → b ≡ true → g (weight d) ≡ x
    is true e t = cc
    is false e t = absurd (false≢true t)

  rest : (g : ℕ → ℕ) (d : Digit) (ds : List Digit) (x : ℕ) (xs : List ℕ)
      → map g (weights m (d ∷ ds)) ≡ pick m (d ∷ ds) (x ∷ xs) → map g (weights m ds) ≡ pick m ds xs
  rest g d ds x xs h = is (m d) h where
    is : (b : Bool) → map g (cond b (weight d ∷ weights m ds) (weights m ds)) ≡ cond b (x ∷ pick m ds xs) (pick m ds xs) → map g (weights m ds) ≡ pick m ds xs
    is true e = cc
    is false e = e

  -- the number that they spell, where they stand in an order
  told_by : (o : Order) (ds : List Digit) (xs : List ℕ) → weights m ds ≡ listed o → length xs ≡ length ds → AllByRecursion (λ x. x < 16) xs
      → (map (nibble (sumw (weights m ds) (pick m ds xs))) (weights m ds) ≡ pick m ds xs) × (sumw (weights m ds) (pick m ds xs) < limit o)
  told_by o ds xs e l h =
      subst (λ (ws : List ℕ). (map (nibble (sumw ws (pick m ds xs))) ws ≡ pick m ds xs) × (sumw ws (pick m ds xs) < limit o)) (sym e)
      (told o (pick m ds xs) (pick_length ds xs l ∙ ap length e) (pick_small ds xs h))

  whole_by : (o : Order) (ds : List Digit) (x : ℕ) → weights m ds ≡ listed o → x < limit o → sumw (weights m ds) (map (nibble x) (weights m ds)) ≡ x
  whole_by o ds x e h = subst (λ (ws : List ℕ). sumw ws (map (nibble x) ws) ≡ x) (sym e) (whole o x h)

-- Whose digit is whose.

opcode_part_is : (d : Digit) (x : ℕ) → opcode_part d x ≡ cond (of_opcode d) (x * 16 ^ weight d) 0
opcode_part_is (op k) x = refl
opcode_part_is (arg i k) x = refl
opcode_part_is (vec i) x = refl
opcode_part_is unused x = refl
opcode_part_is rxb x = refl

operand_part_is : (i : ℕ) (d : Digit) (x : ℕ) → operand_part i d x ≡ cond (of_operand i d) (x * 16 ^ weight d) 0
operand_part_is i (op k) x = refl
operand_part_is i (arg j k) x = refl
operand_part_is i (vec j) x = ap (λ (y : ℕ). cond (eqb i j) y 0) (sym (mul-one x))
operand_part_is i unused x = refl
operand_part_is i rxb x = refl

opcode_value : (R : List Digit) (o : ℕ) (fs : List ℕ) (d : Digit) → of_opcode d ≡ true → value R o fs d ≡ nibble o (weight d)
opcode_value R o fs (op k) e = refl
opcode_value R o fs (arg i k) e = absurd (false≢true e)
opcode_value R o fs (vec i) e = absurd (false≢true e)
opcode_value R o fs unused e = absurd (false≢true e)
opcode_value R o fs rxb e = absurd (false≢true e)

operand_value : (R : List Digit) (o : ℕ) (fs : List ℕ) (i : ℕ) (d : Digit) → of_operand i d ≡ true → value R o fs d ≡ nibble (get_or fs i 0) (weight d)
operand_value R o fs i (op k) e = absurd (false≢true e)
operand_value R o fs i (arg j k) e = ap (λ (n : ℕ). nibble (get_or fs n 0) k) (sym (eqb_is i j e))
operand_value R o fs i (vec j) e = ap (λ (n : ℕ). nibble (get_or fs n 0) 0) (sym (eqb_is i j e))
operand_value R o fs i unused e = absurd (false≢true e)
operand_value R o fs i rxb e = absurd (false≢true e)

-- Bytes and digits.

cons2 : (a b c d : ℕ) (xs ys : List ℕ) → a ≡ c → b ≡ d → xs ≡ ys → a ∷ b ∷ xs ≡ c ∷ d ∷ ys
cons2 a b c d xs ys p q r = cc

nibbles_pairs : (f : Digit → ℕ) → ((d : Digit) → f d < 16) → (ds : List Digit) → even_row ds ≡ true → nibbles (pairs (map f ds)) ≡ map f ds
nibbles_pairs f h [] e = refl
nibbles_pairs f h (a ∷ []) e = absurd (false≢true e)
nibbles_pairs f h (a ∷ b ∷ ds) e =
    let k = h b in
    cons2 _ _ _ _ _ _ (omega arith) (omega arith) (nibbles_pairs f h ds e)

pairs_length : (f : Digit → ℕ) (ds : List Digit) → even_row ds ≡ true → length (pairs (map f ds)) ≡ length ds / 2
pairs_length f [] e = refl
pairs_length f (a ∷ []) e = absurd (false≢true e)
pairs_length f (a ∷ b ∷ ds) e = let h = pairs_length f ds e in omega arith

pairs_nibbles : (bs : List ℕ) → pairs (nibbles bs) ≡ bs
pairs_nibbles [] = refl
pairs_nibbles (b ∷ bs) = let e = pairs_nibbles bs in let h : 16 * (b / 16) + b % 16 ≡ b = omega arith in cc

nibbles_small : (bs : List ℕ) → AllByRecursion (λ b. b < 256) bs → AllByRecursion (λ x. x < 16) (nibbles bs)
nibbles_small [] h = tt
nibbles_small (b ∷ bs) h = let p = h.0 in (omega arith, (omega arith, nibbles_small bs h.1))

nibbles_length : (bs : List ℕ) → length (nibbles bs) ≡ 2 * length bs
nibbles_length [] = refl
nibbles_length (b ∷ bs) = let h = nibbles_length bs in omega arith

even_length : (ds : List Digit) → even_row ds ≡ true → 2 * (length ds / 2) ≡ length ds
even_length [] e = refl
even_length (a ∷ []) e = absurd (false≢true e)
even_length (a ∷ b ∷ ds) e = let h = even_length ds e in omega arith

-- RXB.

above_le : (n : ℕ) → above n ≤ 1
above_le n = grind (arith, nat_tests)

high_le : (fs : List ℕ) (d : Digit) → high fs d ≤ 1
high_le fs (op k) = omega arith
high_le fs (arg i k) = omega arith
high_le fs (vec i) = above_le (get_or fs i 0)
high_le fs unused = omega arith
high_le fs rxb = omega arith

value_small : (R : List Digit) (o : ℕ) (fs : List ℕ) (d : Digit) → value R o fs d < 16
value_small R o fs (op k) = mod_below (o / 16 ^ k) 16 (omega arith)
value_small R o fs (arg i k) = mod_below (get_or fs i 0 / 16 ^ k) 16 (omega arith)
value_small R o fs (vec i) = omega arith
value_small R o fs unused = omega arith
value_small R o fs rxb =
    omega (arith, high_le fs (get_or R 2 unused), high_le fs (get_or R 3 unused), high_le fs (get_or R 4 unused), high_le fs (get_or R 8 unused))

-- four bits
fourth : (a b c d : ℕ) → a ≤ 1 → b ≤ 1 → c ≤ 1 → d ≤ 1
    → ((8 * a + 4 * b + 2 * c + d) / 8 % 2 ≡ a)
    × ((8 * a + 4 * b + 2 * c + d) / 4 % 2 ≡ b)
    × ((8 * a + 4 * b + 2 * c + d) / 2 % 2 ≡ c)
    × ((8 * a + 4 * b + 2 * c + d) % 2 ≡ d)
fourth a b c d p q r s = (omega arith, omega arith, omega arith, omega arith)

abbrev Bits : List Digit → List ℕ → Type 0
Bits R fs =
    (rxb_digit R fs / 8 % 2 ≡ high fs (get_or R 2 unused))
    × (rxb_digit R fs / 4 % 2 ≡ high fs (get_or R 3 unused))
    × (rxb_digit R fs / 2 % 2 ≡ high fs (get_or R 4 unused))
    × (rxb_digit R fs % 2 ≡ high fs (get_or R 8 unused))

bits_of : (R : List Digit) (fs : List ℕ) → Bits R fs
bits_of R fs =
    fourth (high fs (get_or R 2 unused)) (high fs (get_or R 3 unused)) (high fs (get_or R 4 unused)) (high fs (get_or R 8 unused))
    (high_le fs (get_or R 2 unused)) (high_le fs (get_or R 3 unused)) (high_le fs (get_or R 4 unused)) (high_le fs (get_or R 8 unused))

-- a row's own digits are clean
vec_or_none : (fs : List ℕ) (d : Digit) (n : ℕ) → n ≡ high fs d → (is_vec d || eqb n 0) ≡ true
vec_or_none fs (op k) n h = rw h refl
vec_or_none fs (arg i k) n h = rw h refl
vec_or_none fs (vec i) n h = refl
vec_or_none fs unused n h = rw h refl
vec_or_none fs rxb n h = rw h refl

rxb_value_clean : (R : List Digit) (fs : List ℕ) → rxb_clean R (rxb_digit R fs) ≡ true
rxb_value_clean R fs =
    let h = bits_of R fs in
    both _ _ (both _ _ (both _ _ (vec_or_none fs (get_or R 2 unused) _ h.0) (vec_or_none fs (get_or R 3 unused) _ h.1)) (vec_or_none fs (get_or R 4 unused) _ h.2))
    (vec_or_none fs (get_or R 8 unused) _ h.3)

value_clean : (R : List Digit) (o : ℕ) (fs : List ℕ) (ds : List Digit) → all_clean R ds (map (value R o fs) ds) ≡ true
value_clean R o fs [] = refl
value_clean R o fs (d ∷ ds) = both (digit_clean R d (value R o fs d)) (all_clean R ds (map (value R o fs) ds)) (one_clean d) (value_clean R o fs ds) where
  one_clean : (d : Digit) → digit_clean R d (value R o fs d) ≡ true
  one_clean (op k) = refl
  one_clean (arg i k) = refl
  one_clean (vec i) = refl
  one_clean unused = refl
  one_clean rxb = rxb_value_clean R fs

-- operand i's bit
bit_times : (i : ℕ) (d : Digit) (b : ℕ) → bit_part i d b ≡ bit_part i d 1 * b
bit_times i (op k) b = sym (zero-mul b)
bit_times i (arg j k) b = sym (zero-mul b)
bit_times i (vec j) b = times (eqb i j) where
  times : (t : Bool) → cond t b 0 ≡ cond t 1 0 * b
  times true = sym (one-mul b)
  times false = sym (zero-mul b)
bit_times i unused b = sym (zero-mul b)
bit_times i rxb b = sym (zero-mul b)

bit_high : (fs : List ℕ) (i : ℕ) (d : Digit) → bit_part i d (high fs d) ≡ bit_part i d 1 * above (get_or fs i 0)
bit_high fs i (op k) = sym (zero-mul _)
bit_high fs i (arg j k) = sym (zero-mul _)
bit_high fs i (vec j) = mark (eqb i j) (eqb_is i j) where
  mark : (b : Bool) → (b ≡ true → i ≡ j) → cond b (above (get_or fs j 0)) 0 ≡ cond b 1 0 * above (get_or fs i 0)
  mark true e = ap (λ (y : ℕ). above (get_or fs y 0)) (sym (e refl)) ∙ sym (one-mul (above (get_or fs i 0)))
  mark false e = sym (zero-mul (above (get_or fs i 0)))
bit_high fs i unused = sym (zero-mul _)
bit_high fs i rxb = sym (zero-mul _)

spread : (a b c d x : ℕ) → a * x + b * x + c * x + d * x ≡ (a + b + c + d) * x
spread a b c d x = simp add-mul

bits_highs : (fs : List ℕ) (i : ℕ) (R : List Digit) → bit_of i R (rxb_digit R fs) ≡ marks i R * above (get_or fs i 0)
bits_highs fs i R =
    let f = bits_of R fs in
    let a = ap (λ (y : ℕ). bit_part i (get_or R 2 unused) y) f.0 ∙ bit_high fs i (get_or R 2 unused) in
    let b = ap (λ (y : ℕ). bit_part i (get_or R 3 unused) y) f.1 ∙ bit_high fs i (get_or R 3 unused) in
    let c = ap (λ (y : ℕ). bit_part i (get_or R 4 unused) y) f.2 ∙ bit_high fs i (get_or R 4 unused) in
    let d = ap (λ (y : ℕ). bit_part i (get_or R 8 unused) y) f.3 ∙ bit_high fs i (get_or R 8 unused) in
    let s = spread (bit_part i (get_or R 2 unused) 1) (bit_part i (get_or R 3 unused) 1) (bit_part i (get_or R 4 unused) 1) (bit_part i (get_or R 8 unused) 1) (above (get_or fs i 0)) in
    cc (a, b, c, d, s)

-- sums of products with the marks p q r s: none of them is set, or one
no_mark : (p q r s a b c d : ℕ) → p + q + r + s ≡ 0 → p * a + q * b + r * c + s * d ≡ 0
no_mark p q r s a b c d h =
    let e : p ≡ 0 = omega arith in
    let f : q ≡ 0 = omega arith in
    let g : r ≡ 0 = omega arith in
    let k : s ≡ 0 = omega arith in
    rw (e, f, g, k) (simp zero-mul)

bit_of_is : (i : ℕ) (R : List Digit) (x : ℕ)
    → bit_of i R x ≡ bit_part i (get_or R 2 unused) 1 * (x / 8 % 2) + bit_part i (get_or R 3 unused) 1 * (x / 4 % 2) + bit_part i (get_or R 4 unused) 1 * (x / 2 % 2) + bit_part i (get_or R 8 unused) 1 * (x % 2)
bit_of_is i R x =
    let a = bit_times i (get_or R 2 unused) (x / 8 % 2) in
    let b = bit_times i (get_or R 3 unused) (x / 4 % 2) in
    let c = bit_times i (get_or R 4 unused) (x / 2 % 2) in
    let d = bit_times i (get_or R 8 unused) (x % 2) in
    cc (a, b, c, d)

no_bit : (i : ℕ) (R : List Digit) (x : ℕ) → marks i R ≡ 0 → bit_of i R x ≡ 0
no_bit i R x h = bit_of_is i R x ∙ no_mark _ _ _ _ _ _ _ _ h

one_mark_0 : (p q r s a b c d : ℕ) → p + q + r + s ≡ 1 → p ≡ 1 → p * a + q * b + r * c + s * d ≡ a
one_mark_0 p q r s a b c d h e =
    let f : q ≡ 0 = omega arith in
    let g : r ≡ 0 = omega arith in
    let k : s ≡ 0 = omega arith in
    rw (e, f, g, k) (simp (zero-mul, one-mul, add-zero))

one_mark_1 : (p q r s a b c d : ℕ) → p + q + r + s ≡ 1 → q ≡ 1 → p * a + q * b + r * c + s * d ≡ b
one_mark_1 p q r s a b c d h e =
    let f : p ≡ 0 = omega arith in
    let g : r ≡ 0 = omega arith in
    let k : s ≡ 0 = omega arith in
    rw (e, f, g, k) (simp (zero-mul, one-mul, add-zero, zero-add))

one_mark_2 : (p q r s a b c d : ℕ) → p + q + r + s ≡ 1 → r ≡ 1 → p * a + q * b + r * c + s * d ≡ c
one_mark_2 p q r s a b c d h e =
    let f : p ≡ 0 = omega arith in
    let g : q ≡ 0 = omega arith in
    let k : s ≡ 0 = omega arith in
    rw (e, f, g, k) (simp (zero-mul, one-mul, add-zero, zero-add))

one_mark_3 : (p q r s a b c d : ℕ) → p + q + r + s ≡ 1 → s ≡ 1 → p * a + q * b + r * c + s * d ≡ d
one_mark_3 p q r s a b c d h e =
    let f : p ≡ 0 = omega arith in
    let g : q ≡ 0 = omega arith in
    let k : r ≡ 0 = omega arith in
    rw (e, f, g, k) (simp (zero-mul, one-mul, add-zero, zero-add))

one_bit : (i : ℕ) (R : List Digit) (x : ℕ) → marks i R ≡ 1 → bit_of i R x ≤ 1
one_bit i R x h =
    let p = bit_part i (get_or R 2 unused) 1 in
    let q = bit_part i (get_or R 3 unused) 1 in
    let r = bit_part i (get_or R 4 unused) 1 in
    let s = bit_part i (get_or R 8 unused) 1 in
    let a = mul-le p (x / 8 % 2) p 1 (omega arith) (omega arith) in
    let b = mul-le q (x / 4 % 2) q 1 (omega arith) (omega arith) in
    let c = mul-le r (x / 2 % 2) r 1 (omega arith) (omega arith) in
    let d = mul-le s (x % 2) s 1 (omega arith) (omega arith) in
    omega (arith, bit_of_is i R x, a, b, c, d)

mark_of : (i : ℕ) (d : Digit) → d ≡ vec i → bit_part i d 1 ≡ 1
mark_of i d e = ap (λ (y : Digit). bit_part i y 1) e ∙ marked (eqb i i) (eqb_refl i) where
  marked : (b : Bool) → T b → ◌≡◌ {A = ℕ} (cond b 1 0) 1
  marked true t = refl
  marked false t = absurd t

-- One operand.

by_kind : (k : OperandKind) → ((is_V k ≡ false) × (limit (order k) ≡ 2 ^ bits (width k))) ⊎ (k ≡ V)
by_kind G = inl (refl, refl)
by_kind N = inl (refl, refl)
by_kind V = inr refl
by_kind F = inl (refl, refl)
by_kind M = inl (refl, refl)
by_kind U8 = inl (refl, refl)
by_kind U16 = inl (refl, refl)
by_kind U32 = inl (refl, refl)
by_kind S16 = inl (refl, refl)
by_kind D12 = inl (refl, refl)
by_kind D20 = inl (refl, refl)
by_kind H16 = inl (refl, refl)
by_kind H32 = inl (refl, refl)

rxb_is : (d : Digit) → is_rxb d ≡ true → d ≡ rxb
rxb_is (op k) e = absurd (false≢true e)
rxb_is (arg j k) e = absurd (false≢true e)
rxb_is (vec j) e = absurd (false≢true e)
rxb_is unused e = absurd (false≢true e)
rxb_is rxb e = refl

record Fits (i : ℕ) (ds : List Digit) (k : OperandKind) : Type 0 where
  orderly : weights (of_operand i) ds ≡ listed (order k)
  counted : marks i ds ≡ cond (is_V k) 1 0
  marked : (not (is_V k) || is_rxb (get_or ds 9 unused)) ≡ true

fits_is : (i : ℕ) (ds : List Digit) (k : OperandKind) → fits i ds k ≡ true → Fits i ds k
fits_is i ds k e =
    let a = same (weights (of_operand i) ds) (listed (order k)) in
    let b = eqb (marks i ds) (cond (is_V k) 1 0) in
    let c = not (is_V k) || is_rxb (get_or ds 9 unused) in
    let f = right a (b && c) e in
    record { orderly = same_is _ _ (left a (b && c) e); counted = eqb_is _ _ (left b c f); marked = right b c f }

vec_whole : (x : ℕ) → x < 32 → x / 1 % 16 * 1 + 0 + 16 * (1 * above x) ≡ x
vec_whole x h = grind (arith, nat_tests)

-- a row's digit past its end is nil, and its value 0
get_or_value : (R : List Digit) (o : ℕ) (fs : List ℕ) (ds : List Digit) (n : ℕ) → get_or (map (value R o fs) ds) n 0 ≡ value R o fs (get_or ds n unused)
get_or_value R o fs [] n = refl
get_or_value R o fs (d ∷ ds) zero = refl
get_or_value R o fs (d ∷ ds) (suc n) = get_or_value R o fs ds n

-- as written
written_field : (ds : List Digit) (o : ℕ) (fs : List ℕ) (i : ℕ) (k : OperandKind) → Fits i ds k → get_or fs i 0 < 2 ^ bits (width k)
    → field_of i ds (map (value ds o fs) ds) ≡ get_or fs i 0
written_field ds o fs i k t h =
    elim (by_kind k) [ inl p ↦ plainly p.0 p.1 | inr e ↦ as_vector (subst (λ (j : OperandKind). Fits i ds j) e t) (subst (λ (j : OperandKind). get_or fs i 0 < 2 ^ bits (width j)) e h) ] where
      gathered : gather (operand_part i) ds (map (value ds o fs) ds) ≡ sumw (weights (of_operand i) ds) (map (nibble (get_or fs i 0)) (weights (of_operand i) ds))
      gathered =
          gather_is (of_operand i) (operand_part i) (operand_part_is i) ds (map (value ds o fs) ds)
          ∙ ap (λ (vs : List ℕ). sumw (weights (of_operand i) ds) vs) (pick_value (of_operand i) (value ds o fs) (get_or fs i 0) (operand_value ds o fs i) ds)

      plainly : is_V k ≡ false → limit (order k) ≡ 2 ^ bits (width k) → field_of i ds (map (value ds o fs) ds) ≡ get_or fs i 0
      plainly v l =
          let m : marks i ds ≡ 0 = t.counted ∙ ap (λ (b : Bool). cond b 1 0) v in
          let w = whole_by (of_operand i) (order k) ds (get_or fs i 0) t.orderly (rw l h) in
          omega (arith, gathered, w, no_bit i ds (get_or (map (value ds o fs) ds) 9 0) m)

      as_vector : Fits i ds V → get_or fs i 0 < 32 → field_of i ds (map (value ds o fs) ds) ≡ get_or fs i 0
      as_vector u l =
          let w : sumw (weights (of_operand i) ds) (map (nibble (get_or fs i 0)) (weights (of_operand i) ds)) ≡ get_or fs i 0 / 1 % 16 * 1 + 0 =
          ap (λ (ws : List ℕ). sumw ws (map (nibble (get_or fs i 0)) ws)) u.orderly in
          let g : get_or (map (value ds o fs) ds) 9 0 ≡ rxb_digit ds fs =
          get_or_value ds o fs ds 9 ∙ ap (λ (d : Digit). value ds o fs d) (rxb_is (get_or ds 9 unused) u.marked) in
          let b : bit_of i ds (get_or (map (value ds o fs) ds) 9 0) ≡ 1 * above (get_or fs i 0) =
          ap (λ (y : ℕ). bit_of i ds y) g ∙ bits_highs fs i ds ∙ ap (λ (c : ℕ). c * above (get_or fs i 0)) u.counted in
          omega (arith, gathered, w, b, vec_whole (get_or fs i 0) l)

-- as read
abbrev Read : ℕ → List Digit → OperandKind → List ℕ → Type 0
Read i ds k xs =
    (map (nibble (field_of i ds xs)) (weights (of_operand i) ds) ≡ pick (of_operand i) ds xs) × (field_of i ds xs < 2 ^ bits (width k))

read_field : (ds : List Digit) (xs : List ℕ) (i : ℕ) (k : OperandKind) → Fits i ds k → length xs ≡ length ds → AllByRecursion (λ x. x < 16) xs → Read i ds k xs
read_field ds xs i k t l h = elim (by_kind k) [ inl p ↦ plainly p.0 p.1 | inr e ↦ subst (λ (j : OperandKind). Read i ds j xs) (sym e) (as_vector (subst (λ (j : OperandKind). Fits i ds j) e t)) ] where
  plainly : is_V k ≡ false → limit (order k) ≡ 2 ^ bits (width k) → Read i ds k xs
  plainly v e =
      let m : marks i ds ≡ 0 = t.counted ∙ ap (λ (b : Bool). cond b 1 0) v in
      let z = no_bit i ds (get_or xs 9 0) m in
      let g = gather_is (of_operand i) (operand_part i) (operand_part_is i) ds xs in
      let f : field_of i ds xs ≡ sumw (weights (of_operand i) ds) (pick (of_operand i) ds xs) = omega (arith, g, z) in
      let w = told_by (of_operand i) (order k) ds xs t.orderly l h in
      (ap (λ (n : ℕ). map (nibble n) (weights (of_operand i) ds)) f ∙ w.0, rw f (subst (λ (n : ℕ). sumw (weights (of_operand i) ds) (pick (of_operand i) ds xs) < n) e w.1))

  as_vector : Fits i ds V → Read i ds V xs
  as_vector u =
      let z = one_bit i ds (get_or xs 9 0) u.counted in
      let g = gather_is (of_operand i) (operand_part i) (operand_part_is i) ds xs in
      let w = told_by (of_operand i) one ds xs u.orderly l h in
      let y = sumw (weights (of_operand i) ds) (pick (of_operand i) ds xs) in
      let a : nibble (field_of i ds xs) 0 ≡ nibble y 0 = omega (arith, g) in
      let b : map (nibble (field_of i ds xs)) (weights (of_operand i) ds) ≡ map (nibble y) (weights (of_operand i) ds) =
      subst (λ (ws : List ℕ). map (nibble (field_of i ds xs)) ws ≡ map (nibble y) ws) (sym u.orderly) (ap (λ (n : ℕ). n ∷ []) a) in
      (b ∙ w.0, omega (arith, g, z, w.1))

-- RXB, as read.

get_or_small : (xs : List ℕ) (n : ℕ) → AllByRecursion (λ x. x < 16) xs → get_or xs n 0 < 16
get_or_small [] n h = omega arith
get_or_small (x ∷ xs) zero h = h.0
get_or_small (x ∷ xs) (suc n) h = get_or_small xs n h.1

high_is : (fs : List ℕ) (d : Digit) (n : ℕ) → ((i : ℕ) → d ≡ vec i → above (get_or fs i 0) ≡ n) → (is_vec d || eqb n 0) ≡ true → high fs d ≡ n
high_is fs (op k) n h c = sym (eqb_is n 0 c)
high_is fs (arg i k) n h c = sym (eqb_is n 0 c)
high_is fs (vec i) n h c = h i refl
high_is fs unused n h c = sym (eqb_is n 0 c)
high_is fs rxb n h c = sym (eqb_is n 0 c)

above_is : (s b : ℕ) → s < 16 → b ≤ 1 → above (s + 16 * b) ≡ b
above_is s b p q = grind (arith, nat_tests)

sixteen : (x : ℕ) → x < 16 → 8 * (x / 8 % 2) + 4 * (x / 4 % 2) + 2 * (x / 2 % 2) + x % 2 ≡ x
sixteen x h =
    let a : x / 2 ≡ 2 * (x / 4) + x / 2 % 2 = omega arith in
    let b : x / 4 ≡ 2 * (x / 8) + x / 4 % 2 = omega arith in
    let c : x / 8 % 2 ≡ x / 8 = omega arith in
    omega arith

-- the registers i that stand where a vector register has its bit
abbrev Marked : List Digit → List ℕ → List ℕ → Type 0
Marked R fs xs = (q i : ℕ) → get_or R q unused ≡ vec i → (marks i R ≡ 1) × (above (get_or fs i 0) ≡ bit_of i R (get_or xs 9 0))

rxb_read : (R : List Digit) (fs xs : List ℕ) → Marked R fs xs → get_or xs 9 0 < 16 → rxb_clean R (get_or xs 9 0) ≡ true → rxb_digit R fs ≡ get_or xs 9 0
rxb_read R fs xs m l c =
    let x = get_or xs 9 0 in
    let c2 = is_vec (get_or R 2 unused) || eqb (get_or xs 9 0 / 8 % 2) 0 in
    let c3 = is_vec (get_or R 3 unused) || eqb (get_or xs 9 0 / 4 % 2) 0 in
    let c4 = is_vec (get_or R 4 unused) || eqb (get_or xs 9 0 / 2 % 2) 0 in
    let c8 = is_vec (get_or R 8 unused) || eqb (get_or xs 9 0 % 2) 0 in
    let l3 = left (c2 && c3 && c4) c8 c in
    let l2 = left (c2 && c3) c4 l3 in
    let p = high_is fs (get_or R 2 unused) (get_or xs 9 0 / 8 % 2) (λ i e. (m 2 i e).1 ∙ bit_of_is i R x ∙ one_mark_0 _ _ _ _ _ _ _ _ (m 2 i e).0 (mark_of i (get_or R 2 unused) e)) (left c2 c3 l2) in
    let q = high_is fs (get_or R 3 unused) (get_or xs 9 0 / 4 % 2) (λ i e. (m 3 i e).1 ∙ bit_of_is i R x ∙ one_mark_1 _ _ _ _ _ _ _ _ (m 3 i e).0 (mark_of i (get_or R 3 unused) e)) (right c2 c3 l2) in
    let r = high_is fs (get_or R 4 unused) (get_or xs 9 0 / 2 % 2) (λ i e. (m 4 i e).1 ∙ bit_of_is i R x ∙ one_mark_2 _ _ _ _ _ _ _ _ (m 4 i e).0 (mark_of i (get_or R 4 unused) e)) (right (c2 && c3) c4 l3) in
    let s = high_is fs (get_or R 8 unused) (get_or xs 9 0 % 2) (λ i e. (m 8 i e).1 ∙ bit_of_is i R x ∙ one_mark_3 _ _ _ _ _ _ _ _ (m 8 i e).0 (mark_of i (get_or R 8 unused) e)) (right (c2 && c3 && c4) c8 c) in
    omega (arith, p, q, r, s, sixteen (get_or xs 9 0) l)

-- All digits, as read.

placed_at : (ks : List OperandKind) (p : ℕ) (ds : List Digit) → placed ks p ds ≡ true → (q : ℕ) → belongs ks (get_or ds q unused) ≡ true
placed_at ks p [] h q = refl
placed_at ks p (d ∷ ds) h zero = left (belongs ks d) (not (is_rxb d) || eqb p 9) (left (belongs ks d && (not (is_rxb d) || eqb p 9)) (placed ks (suc p) ds) h)
placed_at ks p (d ∷ ds) h (suc q) = placed_at ks (suc p) ds (right (belongs ks d && (not (is_rxb d) || eqb p 9)) (placed ks (suc p) ds) h) q

module _ (R : List Digit) (o : ℕ) (fs : List ℕ) (XS : List ℕ) (ks : List OperandKind) (r : rxb_clean R (get_or XS 9 0) ≡ true → rxb_digit R fs ≡ get_or XS 9 0) where
  digit_back : (p : ℕ) (d : Digit) (x : ℕ) → belongs ks d ≡ true → (not (is_rxb d) || eqb p 9) ≡ true → digit_clean R d x ≡ true → x ≡ get_or XS p 0
      → (of_opcode d ≡ true → nibble o (weight d) ≡ x)
      → ((i : ℕ) → i < length ks → of_operand i d ≡ true → nibble (get_or fs i 0) (weight d) ≡ x)
      → value R o fs d ≡ x
  digit_back p (op k) x b q c e f g = f refl
  digit_back p (arg i k) x b q c e f g = g i (ltb_is i (length ks) b) (T_true (eqb i i) (eqb_refl i))
  digit_back p (vec i) x b q c e f g = g i (ltb_is i (length ks) (left (ltb i (length ks)) (is_V (get_or ks i M)) b)) (T_true (eqb i i) (eqb_refl i))
  digit_back p unused x b q c e f g = sym (eqb_is x 0 c)
  digit_back p rxb x b q c e f g =
      let y : x ≡ get_or XS 9 0 = e ∙ ap (λ (n : ℕ). get_or XS n 0) (eqb_is p 9 q) in
      r (subst (λ (n : ℕ). rxb_clean R n ≡ true) y c) ∙ sym y

  digits_back : (p : ℕ) (ds : List Digit) (xs : List ℕ) → placed ks p ds ≡ true → length xs ≡ length ds → all_clean R ds xs ≡ true
      → ((n : ℕ) → get_or xs n 0 ≡ get_or XS (p + n) 0)
      → map (nibble o) (weights of_opcode ds) ≡ pick of_opcode ds xs
      → ((i : ℕ) → i < length ks → map (nibble (get_or fs i 0)) (weights (of_operand i) ds) ≡ pick (of_operand i) ds xs)
      → map (value R o fs) ds ≡ xs
  digits_back p [] [] h l c e f g = refl
  digits_back p [] (x ∷ xs) h l c e f g = absurd (omega arith)
  digits_back p (d ∷ ds) [] h l c e f g = absurd (omega arith)
  digits_back p (d ∷ ds) (x ∷ xs) h l c e f g =
      let b = belongs ks d in
      let n = not (is_rxb d) || eqb p 9 in
      let t = left (b && n) (placed ks (suc p) ds) h in
      let z : x ≡ get_or XS p 0 = e 0 ∙ ap (λ (n : ℕ). get_or XS n 0) (add-zero p) in
      let v = digit_back p d x (left b n t) (right b n t) (left (digit_clean R d x) (all_clean R ds xs) c) z (first of_opcode (nibble o) d ds x xs f) (λ i m. first (of_operand i) (nibble (get_or fs i 0)) d ds x xs (g i m)) in
      let w = digits_back (suc p) ds xs (right (b && n) (placed ks (suc p) ds) h) (omega arith) (right (digit_clean R d x) (all_clean R ds xs) c) (λ n. e (suc n) ∙ ap (λ (m : ℕ). get_or XS m 0) (omega arith)) (rest of_opcode (nibble o) d ds x xs f) (λ i m. rest (of_operand i) (nibble (get_or fs i 0)) d ds x xs (g i m)) in
      cc (v, w)

-- Operands.

nth : (ds : List Digit) (j : ℕ) (ks : List OperandKind) → each j ds ks ≡ true → (i : ℕ) → i < length ks → fits (j + i) ds (get_or ks i M) ≡ true
nth ds j [] e i h = absurd (omega arith)
nth ds j (k ∷ ks) e zero h = rw add-zero (left (fits j ds k) (each (suc j) ds ks) e)
nth ds j (k ∷ ks) e (suc i) h =
    let p : i < length ks = omega arith in
    let q : j + suc i ≡ suc j + i = omega arith in
    ap (λ (n : ℕ). fits n ds (get_or ks i M)) q ∙ nth ds (suc j) ks (right (fits j ds k) (each (suc j) ds ks) e) i p

zero_is : (z : ℤ) → eqb (nat_abs z) 0 ≡ true → pos 0 ≡ z
zero_is (pos n) e = ap pos (sym (eqb_is n 0 e))
zero_is (negsuc n) e = let h = eqb_is (suc n) 0 e in absurd (omega arith)

zeros : (zs : List ℤ) → takes [] zs ≡ true → replicate (length zs) (pos 0) ≡ zs
zeros [] e = refl
zeros (z ∷ zs) e =
    let h = zero_is z (left (eqb (nat_abs z) 0) (takes [] zs) e) in
    let k = zeros zs (right (eqb (nat_abs z) 0) (takes [] zs) e) in
    cc

-- as written, before the fields fs
written_operands : (ds : List Digit) (o : ℕ) (fs : List ℕ) (j : ℕ) (ks : List OperandKind) (zs : List ℤ) → each j ds ks ≡ true → takes ks zs ≡ true
    → ((n : ℕ) → get_or fs (j + n) 0 ≡ get_or (operands_bits ks zs) n 0)
    → operands_from j ks ds (map (value ds o fs) ds) ++ replicate (length zs - length (operands_from j ks ds (map (value ds o fs) ds))) (pos 0) ≡ zs
written_operands ds o fs j [] zs e t h = ap (λ (n : ℕ). replicate n (pos 0)) (omega arith) ∙ zeros zs t
written_operands ds o fs j (k ∷ ks) [] e t h = absurd (false≢true t)
written_operands ds o fs j (k ∷ ks) (z ∷ zs) e t h =
    let f : get_or fs j 0 ≡ operand_bits k z = ap (λ (n : ℕ). get_or fs n 0) (sym (add-zero j)) ∙ h 0 in
    let w = written_field ds o fs j k (fits_is j ds k (left (fits j ds k) (each (suc j) ds ks) e)) (rw f (field_small k z)) in
    let a : from_bits (width k) (field_of j ds (map (value ds o fs) ds)) ≡ z =
    ap (from_bits (width k)) (w ∙ f) ∙ number_again k z (left (In k z) (takes ks zs) t) in
    let r = written_operands ds o fs (suc j) ks zs (right (fits j ds k) (each (suc j) ds ks) e) (right (In k z) (takes ks zs) t) (λ n. ap (λ (m : ℕ). get_or fs m 0) (omega arith) ∙ h (suc n)) in
    let b : suc (length zs) - suc (length (operands_from (suc j) ks ds (map (value ds o fs) ds))) ≡ length zs - length (operands_from (suc j) ks ds (map (value ds o fs) ds)) = omega arith in
    cc (a, r, b)

-- as read, before anything
read_operands : (ds : List Digit) (xs : List ℕ) (j : ℕ) (ks : List OperandKind) (zs : List ℤ) → each j ds ks ≡ true → length xs ≡ length ds → AllByRecursion (λ x. x < 16) xs
    → (n : ℕ) → n < length ks → get_or (operands_bits ks (operands_from j ks ds xs ++ zs)) n 0 ≡ field_of (j + n) ds xs
read_operands ds xs j [] zs e l s n h = absurd (omega arith)
read_operands ds xs j (k ∷ ks) zs e l s zero h =
    let r = read_field ds xs j k (fits_is j ds k (left (fits j ds k) (each (suc j) ds ks) e)) l s in
    (field_again k (field_of j ds xs) r.1).0 ∙ ap (λ (m : ℕ). field_of m ds xs) (sym (add-zero j))
read_operands ds xs j (k ∷ ks) zs e l s (suc n) h =
    read_operands ds xs (suc j) ks zs (right (fits j ds k) (each (suc j) ds ks) e) l s n (omega arith) ∙ ap (λ (m : ℕ). field_of m ds xs) (omega arith)

takes_none : (n : ℕ) → takes [] (replicate n (pos 0)) ≡ true
takes_none zero = refl
takes_none (suc n) = takes_none n

read_takes : (ds : List Digit) (xs : List ℕ) (j : ℕ) (ks : List OperandKind) (n : ℕ) → each j ds ks ≡ true → length xs ≡ length ds → AllByRecursion (λ x. x < 16) xs
    → takes ks (operands_from j ks ds xs ++ replicate n (pos 0)) ≡ true
read_takes ds xs j [] n e l s = takes_none n
read_takes ds xs j (k ∷ ks) n e l s =
    let r = read_field ds xs j k (fits_is j ds k (left (fits j ds k) (each (suc j) ds ks) e)) l s in
    both _ _ (field_again k (field_of j ds xs) r.1).1 (read_takes ds xs (suc j) ks n (right (fits j ds k) (each (suc j) ds ks) e) l s)

read_length : (ds : List Digit) (xs : List ℕ) (j : ℕ) (ks : List OperandKind) → length (operands_from j ks ds xs) ≡ length ks
read_length ds xs j [] = refl
read_length ds xs j (k ∷ ks) = ap suc (read_length ds xs (suc j) ks)

six_length : (zs : List ℤ) → length zs < 7 → length (six zs) ≡ 6
six_length zs h = length-append zs (replicate (6 - length zs) (pos 0)) ∙ ap (λ (n : ℕ). length zs + n) (length-replicate (6 - length zs) (pos 0)) ∙ omega arith

-- Both ways, for a row that passes the test.

record Sound (ds : List Digit) (ks : List OperandKind) : Type 0 where
  evenly : even_row ds ≡ true
  few : length ks < 7
  ordered : weights of_opcode ds ≡ listed (opcode_order (length (opcode_places 0 ds)))
  counted : length (listed (opcode_order (length (opcode_places 0 ds)))) ≡ length (opcode_places 0 ds)
  eached : each 0 ds ks ≡ true
  settled : placed ks 0 ds ≡ true

sound_is : (ds : List Digit) (ks : List OperandKind) → sound ds ks ≡ true → Sound ds ks
sound_is ds ks e =
    let n = length (opcode_places 0 ds) in
    let a = ltb (length ks) 7 in
    let b = same (weights of_opcode ds) (listed (opcode_order n)) in
    let c = eqb (length (listed (opcode_order n))) n in
    let d = each 0 ds ks in
    let f = placed ks 0 ds in
    let p = right (even_row ds) (a && (b && c && (d && f))) e in
    let q = right a (b && c && (d && f)) p in
    let r = left (b && c) (d && f) q in
    let s = right (b && c) (d && f) q in
    record {
      evenly = left (even_row ds) (a && (b && c && (d && f))) e;
      few = ltb_is _ _ (left a (b && c && (d && f)) p);
      ordered = same_is _ _ (left b c r);
      counted = eqb_is _ _ (right b c r);
      eached = left d f s;
      settled = right d f s;
    }

abbrev write : List Digit → List OperandKind → ℕ → List ℤ → List ℕ
write ds ks o zs = pairs (map (value ds o (operands_bits ks zs)) ds)

module _ (ds : List Digit) (ks : List OperandKind) (t : Sound ds ks) where
  written : (o : ℕ) (zs : List ℤ) → o < 16 ^ length (opcode_places 0 ds) → length zs ≡ 6 → takes ks zs ≡ true
      → (six (operands_from 0 ks ds (nibbles (write ds ks o zs))) ≡ zs)
      × (gather opcode_part ds (nibbles (write ds ks o zs)) ≡ o)
      × (all_clean ds ds (nibbles (write ds ks o zs)) ≡ true)
      × (length (write ds ks o zs) ≡ length ds / 2)
  written o zs h l k =
      let fs = operands_bits ks zs in
      let v = value ds o (operands_bits ks zs) in
      let e : nibbles (write ds ks o zs) ≡ map v ds = nibbles_pairs v (value_small ds o fs) ds t.evenly in
      let q = opcode_order (length (opcode_places 0 ds)) in
      let b : o < limit q = subst (λ (n : ℕ). o < 16 ^ n) (sym t.counted) h in
      let g : gather opcode_part ds (map v ds) ≡ o =
      gather_is of_opcode opcode_part opcode_part_is ds (map v ds)
      ∙ ap (sumw (weights of_opcode ds)) (pick_value of_opcode v o (opcode_value ds o fs) ds)
      ∙ whole_by of_opcode q ds o t.ordered b in
      let w = written_operands ds o fs 0 ks zs t.eached k (λ n. ap (λ (m : ℕ). get_or fs m 0) (zero-add n)) in (
        ap (λ (xs : List ℕ). six (operands_from 0 ks ds xs)) e ∙ ap (λ (n : ℕ). operands_from 0 ks ds (map v ds) ++ replicate (n - length (operands_from 0 ks ds (map v ds))) (pos 0)) (sym l) ∙ w,
        ap (gather opcode_part ds) e ∙ g,
        ap (all_clean ds ds) e ∙ value_clean ds o fs ds,
        pairs_length v ds t.evenly,
      )

  fits_at : (i : ℕ) → i < length ks → Fits i ds (get_or ks i M)
  fits_at i h = fits_is i ds (get_or ks i M) (ap (λ (n : ℕ). fits n ds (get_or ks i M)) (sym (zero-add i)) ∙ nth ds 0 ks t.eached i h)

V_is : (k : OperandKind) → is_V k ≡ true → k ≡ V
V_is k e = elim (by_kind k) [ inl p ↦ absurd (false≢true (sym p.0 ∙ e)) | inr h ↦ h ]

-- the opcode and the fields that are read in the digits xs
abbrev code_in : List Digit → List ℕ → ℕ
code_in ds xs = gather opcode_part ds xs

abbrev fields_in : List Digit → List OperandKind → List ℕ → List ℕ
fields_in ds ks xs = operands_bits ks (six (operands_from 0 ks ds xs))

module _ (ds : List Digit) (ks : List OperandKind) (t : Sound ds ks) (xs : List ℕ) (l : length xs ≡ length ds) (s : AllByRecursion (λ x. x < 16) xs) where
  code_is : (map (nibble (code_in ds xs)) (weights of_opcode ds) ≡ pick of_opcode ds xs) × (code_in ds xs < 16 ^ length (opcode_places 0 ds))
  code_is =
      let g = gather_is of_opcode opcode_part opcode_part_is ds xs in
      let w = told_by of_opcode (opcode_order (length (opcode_places 0 ds))) ds xs t.ordered l s in (
        ap (λ (n : ℕ). map (nibble n) (weights of_opcode ds)) g ∙ w.0,
        rw g (subst (λ (n : ℕ). sumw (weights of_opcode ds) (pick of_opcode ds xs) < 16 ^ n) t.counted w.1),
      )

  field_is : (i : ℕ) → i < length ks → get_or (fields_in ds ks xs) i 0 ≡ field_of i ds xs
  field_is i m =
      read_operands ds xs 0 ks (replicate (6 - length (operands_from 0 ks ds xs)) (pos 0)) t.eached l s i m
      ∙ ap (λ (n : ℕ). field_of n ds xs) (zero-add i)

  vector_is : (i : ℕ) → i < length ks → Fits i ds V → (marks i ds ≡ 1) × (above (get_or (fields_in ds ks xs) i 0) ≡ bit_of i ds (get_or xs 9 0))
  vector_is i m u =
      let w = told_by (of_operand i) one ds xs u.orderly l s in
      let g = gather_is (of_operand i) (operand_part i) (operand_part_is i) ds xs in (
        u.counted,
        ap above (field_is i m)
            ∙ above_is (gather (operand_part i) ds xs) (bit_of i ds (get_or xs 9 0)) (rw g w.1) (one_bit i ds (get_or xs 9 0) u.counted),
      )

  marked_is : Marked ds (fields_in ds ks xs) xs
  marked_is q i e =
      let b : belongs ks (vec i) ≡ true = subst (λ (d : Digit). belongs ks d ≡ true) e (placed_at ks 0 ds t.settled q) in
      let m = ltb_is i (length ks) (left (ltb i (length ks)) (is_V (get_or ks i M)) b) in
      let v = V_is (get_or ks i M) (right (ltb i (length ks)) (is_V (get_or ks i M)) b) in
      vector_is i m (subst (λ (k : OperandKind). Fits i ds k) v (fits_at ds ks t i m))

  digits_are : all_clean ds ds xs ≡ true → map (value ds (code_in ds xs) (fields_in ds ks xs)) ds ≡ xs
  digits_are c =
      digits_back ds (code_in ds xs) (fields_in ds ks xs) xs ks (rxb_read ds (fields_in ds ks xs) xs marked_is (get_or_small xs 9 s)) 0 ds xs t.settled l c
      (λ n. ap (λ (m : ℕ). get_or xs m 0) (sym (zero-add n)))
      code_is.0
      (λ i m. ap (λ (n : ℕ). map (nibble n) (weights (of_operand i) ds)) (field_is i m) ∙ (read_field ds xs i (get_or ks i M) (fits_at ds ks t i m) l s).0)

read : (ds : List Digit) (ks : List OperandKind) → Sound ds ks
    → (bytes : List ℕ) → length bytes ≡ length ds / 2 → AllByRecursion (λ b. b < 256) bytes → all_clean ds ds (nibbles bytes) ≡ true
    → (write ds ks (gather opcode_part ds (nibbles bytes)) (six (operands_from 0 ks ds (nibbles bytes))) ≡ bytes)
    × (takes ks (six (operands_from 0 ks ds (nibbles bytes))) ≡ true)
    × (length (six (operands_from 0 ks ds (nibbles bytes))) ≡ 6)
    × (gather opcode_part ds (nibbles bytes) < 16 ^ length (opcode_places 0 ds))
read ds ks t bytes h a c =
    let xs = nibbles bytes in
    let l : length (nibbles bytes) ≡ length ds = omega (arith, nibbles_length bytes, even_length ds t.evenly) in
    let s = nibbles_small bytes a in (
      ap pairs (digits_are ds ks t xs l s c) ∙ pairs_nibbles bytes,
      read_takes ds xs 0 ks (6 - length (operands_from 0 ks ds xs)) t.eached l s,
      six_length (operands_from 0 ks ds xs) (rw (read_length ds xs 0 ks) t.few),
      (code_is ds ks t xs l s).1,
    )

pub written_is_read : (f : Form) → sound (row f) (kinds f) ≡ true → WrittenIsReadAt f
written_is_read f e = written (row f) (kinds f) (sound_is (row f) (kinds f) e)

pub read_is_written : (f : Form) → sound (row f) (kinds f) ≡ true → ReadIsWrittenAt f
read_is_written f e = read (row f) (kinds f) (sound_is (row f) (kinds f) e)
