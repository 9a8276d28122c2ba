-- Digits beside a row: sums, what is clean, and zeros past the end.
use Rattle.std.proofs.Common.{◌≡◌, ℕ, zero, suc, ◌+◌, ◌*◌, ◌/◌, ◌%◌, ◌<◌, ◌≤◌, Bool, ◌&&◌, ltb, List, [], ◌∷◌, map, length, get_or, sym, refl, ap, ◌∙◌, arith, ◌++◌, ◌-◌, replicate, ◌⊎◌, inl, inr}
use Rattle.form.specs.Form as form
use Rattle.form.specs.Form.{unused}
use Rattle.form.specs.Encode.{nibbles, gather, field_of, operand_part, operands_from, operands_of, six, clean, all_clean, digit_clean, opcode_of}
use Rattle.form.proofs.Tests.{ltb_is}
use Rattle.form.proofs.Every.{at_each}
use Rattle.codec.specs.declared.row.Digit.{Digit}
use Rattle.codec.specs.Digits.{digit_of, twelve}
use Rattle.std.specs.List.{list_all, zip}
use Rattle.form.specs.declared.OperandKind.{OperandKind}
use Rattle.form.specs.declared.Form.{Form}
use Rattle.form.specs.declared.table.OpcodeDigits.{OpcodeDigits}
use Rattle.form.specs.declared.table.OpcodeDigits.TheVariants.{Two, Three, FourFront, FourEnds}
use Rattle.form.specs.Table.{places}
use Rattle.codec.proofs.Gathered.{nibbles_len, opc, opcode_is, even_row_size}

pub nib_even : (bs : List ℕ) (j : ℕ) → get_or (nibbles bs) (2 * j) 0 ≡ get_or bs j 0 / 16
nib_even [] j = refl
nib_even (b ∷ bs) zero = refl
nib_even (b ∷ bs) (suc j) = let e : 2 * suc j ≡ suc (suc (2 * j)) = omega arith in rw e (nib_even bs j)

pub nib_odd : (bs : List ℕ) (j : ℕ) → get_or (nibbles bs) (2 * j + 1) 0 ≡ get_or bs j 0 % 16
nib_odd [] j = refl
nib_odd (b ∷ bs) zero = refl
nib_odd (b ∷ bs) (suc j) = let e : 2 * suc j + 1 ≡ suc (suc (2 * j + 1)) = omega arith in rw e (nib_odd bs j)

pub nib_at_even : (bs : List ℕ) (i : ℕ) → i % 2 ≡ 0 → get_or (nibbles bs) i 0 ≡ get_or bs (i / 2) 0 / 16
nib_at_even bs i h = let e : i ≡ 2 * (i / 2) = omega arith in ap (λ (n : ℕ). get_or (nibbles bs) n 0) e ∙ nib_even bs (i / 2)

pub nib_at_odd : (bs : List ℕ) (i : ℕ) → (i % 2 ≡ 0 → ⊥) → get_or (nibbles bs) i 0 ≡ get_or bs (i / 2) 0 % 16
nib_at_odd bs i h = let e : i ≡ 2 * (i / 2) + 1 = omega arith in ap (λ (n : ℕ). get_or (nibbles bs) n 0) e ∙ nib_odd bs (i / 2)

abbrev pub opb : OpcodeDigits → List ℕ → ℕ
opb Two bs = get_or bs 0 0
opb Three bs = get_or bs 0 0 * 16 + get_or bs 1 0 % 16
opb FourFront bs = get_or bs 0 0 * 256 + get_or bs 1 0
opb FourEnds bs = get_or bs 0 0 * 256 + get_or bs 5 0

opc_bytes : (d : OpcodeDigits) (bs : List ℕ) → opc (places d) (nibbles bs) ≡ opb d bs
opc_bytes Two bs = omega (arith, nib_even bs 0, nib_odd bs 0)
opc_bytes Three bs = omega (arith, nib_even bs 0, nib_odd bs 0, nib_odd bs 1)
opc_bytes FourFront bs = omega (arith, nib_even bs 0, nib_odd bs 0, nib_even bs 1, nib_odd bs 1)
opc_bytes FourEnds bs = omega (arith, nib_even bs 0, nib_odd bs 0, nib_even bs 5, nib_odd bs 5)

pub opcode_by : (f : Form) (d : OpcodeDigits) (bs : List ℕ) → length bs ≡ form.size f → places d ≡ form.opcode_digits f → opb d bs ≡ opcode_of f bs
opcode_by f d bs s e = sym (opc_bytes d bs) ∙ ap (λ (ps : List ℕ). opc ps (nibbles bs)) e ∙ sym (opcode_is f bs s)

pub few_kinds : (f : Form) → length (form.kinds f) ≤ 6
few_kinds f = let h = ltb_is (length (form.kinds f)) 7 (at_each (λ f. ltb (length (form.kinds f)) 7) refl f) in omega arith

pub few_bytes : (f : Form) → form.size f ≤ 6
few_bytes f = let h = ltb_is (form.size f) 7 (at_each (λ f. ltb (form.size f) 7) refl f) in omega arith

-- a row and digits that stand side by side
pub clean_is : (R : List form.Digit) (row : List Digit) (xs : List ℕ) → all_clean R (map digit_of row) xs ≡ list_all (λ p. digit_clean R (digit_of p.0) p.1) (zip row xs)
clean_is R [] xs = refl
clean_is R (d ∷ ds) [] = refl
clean_is R (d ∷ ds) (x ∷ xs) = ap (λ (b : Bool). digit_clean R (digit_of d) x && b) (clean_is R ds xs)

pub gather_none : (w : form.Digit → ℕ → ℕ) (row : List Digit) (xs : List ℕ) → (row ≡ []) ⊎ (xs ≡ []) → gather w (map digit_of row) xs ≡ 0
gather_none w row xs (inl e) = ap (λ (l : List Digit). gather w (map digit_of l) xs) e
gather_none w [] xs (inr e) = refl
gather_none w (d ∷ ds) xs (inr e) = ap (gather w (map digit_of (d ∷ ds))) e

next : {x y : ℕ} {xs ys : List ℕ} → x ≡ y → xs ≡ ys → (x ∷ xs) ≡ (y ∷ ys)
next {x} {y} {xs} {ys} e h = ap (λ (n : ℕ). n ∷ xs) e ∙ ap (λ (l : List ℕ). y ∷ l) h

-- twelve digits, told apart by their places
padded : (xs : List ℕ) (m : ℕ) (ds : List ℕ) → length ds ≡ length xs + m → ((i : ℕ) → i < length ds → get_or ds i 0 ≡ get_or xs i 0) → ds ≡ xs ++ replicate m 0
padded [] zero [] l e = refl
padded [] (suc m) [] l e = absurd (omega arith)
padded [] zero (d ∷ ds) l e = absurd (omega arith)
padded [] (suc m) (d ∷ ds) l e = next (e 0 (omega arith)) (padded [] m ds (omega arith) (λ i h. e (suc i) (omega arith)))
padded (x ∷ xs) m [] l e = absurd (omega arith)
padded (x ∷ xs) m (d ∷ ds) l e = next (e 0 (omega arith)) (padded xs m ds (omega arith) (λ i h. e (suc i) (omega arith)))

pub twelve_is : (ds xs : List ℕ) → length ds ≡ 12 → length xs ≤ 12 → ((i : ℕ) → i < 12 → get_or ds i 0 ≡ get_or xs i 0) → ds ≡ twelve xs
twelve_is ds xs l m e = padded xs (12 - length xs) ds (omega arith) (λ i h. e i (omega arith))

-- zeros past the row say nothing

gather_more : (w : form.Digit → ℕ → ℕ) (ds : List form.Digit) (xs ys : List ℕ) → length ds ≤ length xs → gather w ds (xs ++ ys) ≡ gather w ds xs
gather_more w [] xs ys h = refl
gather_more w (d ∷ ds) [] ys h = absurd (omega arith)
gather_more w (d ∷ ds) (x ∷ xs) ys h = ap (λ (n : ℕ). w d x + n) (gather_more w ds xs ys (omega arith))

clean_more : (R ds : List form.Digit) (xs ys : List ℕ) → length ds ≤ length xs → all_clean R ds (xs ++ ys) ≡ all_clean R ds xs
clean_more R [] xs ys h = refl
clean_more R (d ∷ ds) [] ys h = absurd (omega arith)
clean_more R (d ∷ ds) (x ∷ xs) ys h = ap (λ (b : Bool). digit_clean R d x && b) (clean_more R ds xs ys (omega arith))

zeros : (xs : List ℕ) (n i : ℕ) → get_or (xs ++ replicate n 0) i 0 ≡ get_or xs i 0
zeros [] zero i = refl
zeros [] (suc n) zero = refl
zeros [] (suc n) (suc i) = zeros [] n i
zeros (x ∷ xs) n zero = refl
zeros (x ∷ xs) n (suc i) = zeros xs n i

field_more : (i : ℕ) (ds : List form.Digit) (xs : List ℕ) (n : ℕ) → length ds ≤ length xs → field_of i ds (xs ++ replicate n 0) ≡ field_of i ds xs
field_more i ds xs n h = rw (gather_more (operand_part i) ds xs (replicate n 0) h, zeros xs n 9) refl

operands_more : (i : ℕ) (ks : List OperandKind) (ds : List form.Digit) (xs : List ℕ) (n : ℕ) → length ds ≤ length xs → operands_from i ks ds (xs ++ replicate n 0) ≡ operands_from i ks ds xs
operands_more i [] ds xs n h = refl
operands_more i (k ∷ ks) ds xs n h = rw (field_more i ds xs n h, operands_more (suc i) ks ds xs n h) refl

row_within : (f : Form) (bs : List ℕ) → length bs ≡ form.size f → length (form.row f) ≤ length (nibbles bs)
row_within f bs e = let a = even_row_size f in let b = nibbles_len bs in omega (arith, a, b, e)

-- what a row of form g and digits ds say, laid for the form f and the bytes bs

pub clean_of : (g f : Form) (ds bs : List ℕ) → g ≡ f → ds ≡ twelve (nibbles bs) → length bs ≡ form.size f → all_clean (form.row g) (form.row g) ds ≡ clean f bs
clean_of g f ds bs e h s = rw (e, h) (clean_more (form.row f) (form.row f) (nibbles bs) _ (row_within f bs s))

pub operands_in : (g f : Form) (ds bs : List ℕ) → g ≡ f → ds ≡ twelve (nibbles bs) → length bs ≡ form.size f → six (operands_from 0 (form.kinds g) (form.row g) ds) ≡ operands_of f bs
operands_in g f ds bs e h s = rw (e, h) (ap six (operands_more 0 (form.kinds f) (form.row f) (nibbles bs) _ (row_within f bs s)))
