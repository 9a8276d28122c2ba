-- Sums over a row's digits, and the opcode's digits in each form.
use Rattle.std.proofs.Common.{◌≡◌, ℕ, suc, ◌+◌, ◌*◌, ◌^◌, eqb, List, [], ◌∷◌, length, get_or, sym, refl, ap, ◌∙◌, zero-add, arith}
use Rattle.form.specs.declared.Form.{Form}
use Rattle.form.specs.declared.Form.TheVariants.{E, RiA, RiB, RiC, RieA, RieD, RieF, RieG, RilA, RilB, RilC, Rr, Rrd, Rre, RrfAb, RrfCde, Rs, Rsy, Rx, Rxy, Si, Sil, Siy, VriA, VriB, VriC, VriK, VrrA, VrrB, VrrC, VrrD, VrrE, VrrF, VrsA, VrsB, VrsC, Vrx}
use Rattle.form.specs.Form.{Digit, row, size, opcode_digits}
use Rattle.form.specs.Encode.{gather, opcode_part, opcode_of, nibbles}
use Rattle.form.proofs.Tests.{eqb_is}
use Rattle.form.proofs.Every.{at_each}

-- sums over a row, with the digits by their places
abbrev pub gather_at : (Digit → ℕ → ℕ) → List Digit → List ℕ → ℕ → ℕ
gather_at w [] xs i = 0
gather_at w (d ∷ ds) xs i = w d (get_or xs i 0) + gather_at w ds xs (suc i)

shift : (w : Digit → ℕ → ℕ) (ds : List Digit) (x : ℕ) (xs : List ℕ) (i : ℕ) → gather_at w ds (x ∷ xs) (suc i) ≡ gather_at w ds xs i
shift w [] x xs i = refl
shift w (d ∷ ds) x xs i = ap (λ (n : ℕ). w d (get_or xs i 0) + n) (shift w ds x xs (suc i))

pub gather_is : (w : Digit → ℕ → ℕ) (ds : List Digit) (xs : List ℕ) → length xs ≡ length ds → gather w ds xs ≡ gather_at w ds xs 0
gather_is w [] xs e = refl
gather_is w (d ∷ ds) [] e = absurd (omega arith)
gather_is w (d ∷ ds) (x ∷ xs) e = ap (λ (n : ℕ). w d x + n) (gather_is w ds xs (omega arith) ∙ sym (shift w ds x xs 0))

-- the opcode, by the places of its digits
abbrev pub opc : List ℕ → List ℕ → ℕ
opc [] xs = 0
opc (p ∷ ps) xs = get_or xs p 0 * 16 ^ length ps + opc ps xs

opcode_sum : (f : Form) (xs : List ℕ) → gather_at opcode_part (row f) xs 0 ≡ opc (opcode_digits f) xs
opcode_sum E xs = refl
opcode_sum RiA xs = simp zero-add
opcode_sum RiB xs = simp zero-add
opcode_sum RiC xs = simp zero-add
opcode_sum RieA xs = simp zero-add
opcode_sum RieD xs = simp zero-add
opcode_sum RieF xs = simp zero-add
opcode_sum RieG xs = simp zero-add
opcode_sum RilA xs = simp zero-add
opcode_sum RilB xs = simp zero-add
opcode_sum RilC xs = simp zero-add
opcode_sum Rr xs = simp zero-add
opcode_sum Rrd xs = simp zero-add
opcode_sum Rre xs = simp zero-add
opcode_sum RrfAb xs = simp zero-add
opcode_sum RrfCde xs = simp zero-add
opcode_sum Rs xs = simp zero-add
opcode_sum Rsy xs = simp zero-add
opcode_sum Rx xs = simp zero-add
opcode_sum Rxy xs = simp zero-add
opcode_sum Si xs = simp zero-add
opcode_sum Sil xs = simp zero-add
opcode_sum Siy xs = simp zero-add
opcode_sum VriA xs = simp zero-add
opcode_sum VriB xs = simp zero-add
opcode_sum VriC xs = simp zero-add
opcode_sum VriK xs = simp zero-add
opcode_sum VrrA xs = simp zero-add
opcode_sum VrrB xs = simp zero-add
opcode_sum VrrC xs = simp zero-add
opcode_sum VrrD xs = simp zero-add
opcode_sum VrrE xs = simp zero-add
opcode_sum VrrF xs = simp zero-add
opcode_sum VrsA xs = simp zero-add
opcode_sum VrsB xs = simp zero-add
opcode_sum VrsC xs = simp zero-add
opcode_sum Vrx xs = simp zero-add

pub even_row_size : (f : Form) → length (row f) ≡ 2 * size f
even_row_size f = eqb_is (length (row f)) (2 * size f) (at_each (λ f. eqb (length (row f)) (2 * size f)) refl f)

pub nibbles_len : (bs : List ℕ) → length (nibbles bs) ≡ 2 * length bs
nibbles_len [] = refl
nibbles_len (b ∷ bs) = let e = nibbles_len bs in omega arith

pub opcode_is : (f : Form) (bs : List ℕ) → length bs ≡ size f → opcode_of f bs ≡ opc (opcode_digits f) (nibbles bs)
opcode_is f bs e =
    let n = nibbles_len bs in
    let r = even_row_size f in
    gather_is opcode_part (row f) (nibbles bs) (n ∙ ap (λ (k : ℕ). 2 * k) e ∙ sym r) ∙ opcode_sum f (nibbles bs)
