-- The encoders, given the operands that a form takes, form the instruction's bytes.
use Rattle.std.proofs.Common.{◌≡◌, ℕ, ◌%◌, ◌≤◌, Bool, true, not, ◌&&◌, ltb, leb, List, [], ◌∷◌, map, length, get_or, ℤ, pos, negsuc, sym, refl, ap, ◌∙◌, mod-eq_of_lt, arith, ◌⊎◌, ⊎_elim, w64, to_z, of_z}
use mathlib.Core.Bool.{false≢true}
use lib.Signed.{shr_z}
use Rattle.refusal.specs.Numbers.{wrap}
use Rattle.refusal.specs.declared.Reason.TheVariants as why
use Rattle.refusal.specs.Refusals.{◌when◌, first_refusal}
use Rattle.operand.specs.declared.reg.Reg.{Reg}
use Rattle.operand.specs.Registers.{gpr, gpr_or_fpr, vr, fpr}
use Rattle.form.specs.declared.Form.{Form}
use Rattle.form.specs.declared.Form.TheVariants.{RilA, RilB, RilC}
use Rattle.form.specs.declared.OperandKind.{OperandKind}
use Rattle.form.specs.declared.OperandKind.TheVariants.{G, N, V, F, M, U8, U16, U32, S16, D12, D20, H16, H32}
use Rattle.form.specs.Form.{row, kinds}
use Rattle.form.specs.Encode.{In, takes, operand_bits, operands_bits, pairs, value, encode}
use Rattle.form.specs.Encoders.{Operand, register, numeral, value_of, of_kind, of_kinds, encoder, encoder_answer}
use Rattle.form.proofs.Tests.{left, right, both, ltb_is}
use Rattle.codec.specs.Given.{given, given_from, general_reg}
use Rattle.codec.proofs.Sums.{few_kinds}

-- One operand.

below : (n m : ℕ) → m ≤ 256 → (leb 0 n && ltb n m) ≡ true → ltb (n % 256) m ≡ true
below n m l h =
    let t = right (leb 0 n) (ltb n m) h in
    let k = ltb_is n m t in
    ap (λ (x : ℕ). ltb x m) (mod-eq_of_lt (omega arith)) ∙ t

each_fits : (k : OperandKind) (z : ℤ) → In k z ≡ true → of_kind k (given k z) ≡ true
unfolding gpr gpr_or_fpr vr fpr
each_fits G (pos n) h = below n 16 (omega arith) h
each_fits G (negsuc n) h = absurd (false≢true h)
each_fits N (pos n) h = below n 16 (omega arith) h
each_fits N (negsuc n) h = absurd (false≢true h)
each_fits V (pos n) h = below n 32 (omega arith) h
each_fits V (negsuc n) h = absurd (false≢true h)
each_fits F (pos n) h = below n 16 (omega arith) h
each_fits F (negsuc n) h = absurd (false≢true h)
each_fits M z h = refl
each_fits U8 z h = refl
each_fits U16 z h = refl
each_fits U32 z h = refl
each_fits S16 z h = refl
each_fits D12 z h = refl
each_fits D20 z h = refl
each_fits H16 z h = refl
each_fits H32 z h = refl

each_bits : (k : OperandKind) (z : ℤ) → In k z ≡ true → operand_bits k (value_of (given k z)) ≡ operand_bits k z
each_bits G (pos n) h = omega arith
each_bits G (negsuc n) h = absurd (false≢true h)
each_bits N (pos n) h = omega arith
each_bits N (negsuc n) h = absurd (false≢true h)
each_bits V (pos n) h = omega arith
each_bits V (negsuc n) h = absurd (false≢true h)
each_bits F (pos n) h = omega arith
each_bits F (negsuc n) h = absurd (false≢true h)
each_bits M (pos n) h = omega arith
each_bits M (negsuc n) h = absurd (false≢true h)
each_bits U8 (pos n) h = omega arith
each_bits U8 (negsuc n) h = absurd (false≢true h)
each_bits U16 (pos n) h = omega arith
each_bits U16 (negsuc n) h = absurd (false≢true h)
each_bits U32 (pos n) h = omega arith
each_bits U32 (negsuc n) h = absurd (false≢true h)
each_bits D12 (pos n) h = omega arith
each_bits D12 (negsuc n) h = absurd (false≢true h)
each_bits D20 (pos n) h = omega arith
each_bits D20 (negsuc n) h = omega arith
each_bits S16 z h = refl
each_bits H16 z h = refl
each_bits H32 z h = refl

-- All of them.

abbrev given_all : List OperandKind → List ℤ → List Operand
given_all [] zs = []
given_all (k ∷ ks) [] = []
given_all (k ∷ ks) (z ∷ zs) = given k z ∷ given_all ks zs

all_fit : (ks : List OperandKind) (zs : List ℤ) → takes ks zs ≡ true → of_kinds ks (given_all ks zs) ≡ true
all_fit [] zs h = refl
all_fit (k ∷ ks) [] h = refl
all_fit (k ∷ ks) (z ∷ zs) h =
    both (of_kind k (given k z)) (of_kinds ks (given_all ks zs)) (each_fits k z (left (In k z) (takes ks zs) h)) (all_fit ks zs (right (In k z) (takes ks zs) h))

all_bits : (ks : List OperandKind) (zs : List ℤ) → takes ks zs ≡ true → operands_bits ks (map value_of (given_all ks zs)) ≡ operands_bits ks zs
all_bits [] zs h = refl
all_bits (k ∷ ks) [] h = absurd (false≢true h)
all_bits (k ∷ ks) (z ∷ zs) h =
    let p = each_bits k z (left (In k z) (takes ks zs) h) in
    let q = all_bits ks zs (right (In k z) (takes ks zs) h) in
    cc

formed_all : (f : Form) (o : ℕ) (zs : List ℤ) → takes (kinds f) zs ≡ true → encoder f o (given_all (kinds f) zs) ≡ (encode f o zs, 0)
formed_all f o zs h =
    ap (λ (b : Bool). encoder_answer (first_refusal (why.Operand when not b ∷ [])) (encode f o (map value_of (given_all (kinds f) zs)))) (all_fit (kinds f) zs h)
    ∙ ap (λ (bs : List ℕ). (pairs (map (value (row f) o bs) (row f)), 0)) (all_bits (kinds f) zs h)

-- six operands, by their numbers
by_number : (ks : List OperandKind) → length ks ≤ 6 → (a b c d e f : ℤ) → given_from 0 ks (a ∷ b ∷ c ∷ d ∷ e ∷ f ∷ []) ≡ given_all ks (a ∷ b ∷ c ∷ d ∷ e ∷ f ∷ [])
by_number [] h a b c d e f = refl
by_number (u ∷ []) h a b c d e f = refl
by_number (u ∷ v ∷ []) h a b c d e f = refl
by_number (u ∷ v ∷ w ∷ []) h a b c d e f = refl
by_number (u ∷ v ∷ w ∷ x ∷ []) h a b c d e f = refl
by_number (u ∷ v ∷ w ∷ x ∷ y ∷ []) h a b c d e f = refl
by_number (u ∷ v ∷ w ∷ x ∷ y ∷ z ∷ []) h a b c d e f = refl
by_number (u ∷ v ∷ w ∷ x ∷ y ∷ z ∷ k ∷ ks) h a b c d e f = absurd (omega arith)

-- the operands as the code reads them, one by one
abbrev told : List ℤ → ℕ → ℤ
told zs i = to_z w64 (of_z w64 (get_or zs i (pos 0)))

abbrev pub told_six : List ℤ → List ℤ
told_six zs = told zs 0 ∷ told zs 1 ∷ told zs 2 ∷ told zs 3 ∷ told zs 4 ∷ told zs 5 ∷ []

pub record Read (zs : List ℤ) : Type 0 where
  pub six : length zs ≡ 6
  pub a : told zs 0 ≡ get_or zs 0 (pos 0)
  pub b : told zs 1 ≡ get_or zs 1 (pos 0)
  pub c : told zs 2 ≡ get_or zs 2 (pos 0)
  pub d : told zs 3 ≡ get_or zs 3 (pos 0)
  pub e : told zs 4 ≡ get_or zs 4 (pos 0)
  pub f : told zs 5 ≡ get_or zs 5 (pos 0)

read_is : (zs : List ℤ) → Read zs → told_six zs ≡ zs
read_is [] r = let n = r.six in absurd (omega arith)
read_is (a ∷ []) r = let n = r.six in absurd (omega arith)
read_is (a ∷ b ∷ []) r = let n = r.six in absurd (omega arith)
read_is (a ∷ b ∷ c ∷ []) r = let n = r.six in absurd (omega arith)
read_is (a ∷ b ∷ c ∷ d ∷ []) r = let n = r.six in absurd (omega arith)
read_is (a ∷ b ∷ c ∷ d ∷ e ∷ []) r = let n = r.six in absurd (omega arith)
read_is (a ∷ b ∷ c ∷ d ∷ e ∷ g ∷ []) r = rw (r.a, r.b, r.c, r.d, r.e, r.f) refl
read_is (a ∷ b ∷ c ∷ d ∷ e ∷ g ∷ k ∷ zs) r = let n = r.six in absurd (omega arith)

formed : (f : Form) (o : ℕ) (zs : List ℤ) → Read zs → takes (kinds f) zs ≡ true → encoder f o (given_from 0 (kinds f) (told_six zs)) ≡ (encode f o zs, 0)
formed f o zs r h =
    ap (encoder f o) (by_number (kinds f) (few_kinds f) (told zs 0) (told zs 1) (told zs 2) (told zs 3) (told zs 4) (told zs 5) ∙ ap (given_all (kinds f)) (read_is zs r))
    ∙ formed_all f o zs h

-- an encoder's answer, of the operands as they are given
pub by_encoder : (form f : Form) (o : ℕ) (zs : List ℤ) → form ≡ f → Read zs → takes (kinds form) zs ≡ true
    → (r : List ℕ × ℕ) (xs : List Operand) → r ≡ encoder f o xs → xs ≡ given_from 0 (kinds f) (told_six zs) → r.0 ≡ encode form o zs
by_encoder form f o zs i n h r xs e g =
    let t : takes (kinds f) zs ≡ true = ap (λ (k : Form). takes (kinds k) zs) (sym i) ∙ h in
    ap (λ (p : List ℕ × ℕ). p.0) (e ∙ ap (encoder f o) g ∙ formed f o zs n t) ∙ ap (λ (k : Form). encode k o zs) (sym i)

-- RIL-b and RIL-c have the row of RIL-a, with half of the distance for its number

cut_again : (z : ℤ) → wrap 32 z % 4294967296 ≡ wrap 32 z
cut_again (pos n) = omega arith
cut_again (negsuc n) = omega arith

abbrev halves : List ℤ → List Operand
halves zs = register (general_reg (get_or zs 0 (pos 0))) ∷ numeral (pos (wrap 32 (shr_z (get_or zs 1 (pos 0)) 2))) ∷ []

relative_all : (o : ℕ) (x y : ℤ) → In G x ≡ true
    → encoder RilA o (register (general_reg x) ∷ numeral (pos (wrap 32 (shr_z y 2))) ∷ []) ≡ (pairs (map (value (row RilA) o (operand_bits G x ∷ operand_bits H32 y ∷ [])) (row RilA)), 0)
relative_all o x y h =
    let g : of_kinds (kinds RilA) (register (general_reg x) ∷ numeral (pos (wrap 32 (shr_z y 2))) ∷ []) ≡ true = both (of_kind G (given G x)) true (each_fits G x h) refl in
    let p = each_bits G x h in
    let q = cut_again (shr_z y 2) in
    let bits : operand_bits G (value_of (given G x)) ∷ wrap 32 (shr_z y 2) % 4294967296 ∷ [] ≡ operand_bits G x ∷ operand_bits H32 y ∷ [] = cc in
    ap (λ (b : Bool). encoder_answer (first_refusal (why.Operand when not b ∷ [])) (encode RilA o (map value_of (register (general_reg x) ∷ numeral (pos (wrap 32 (shr_z y 2))) ∷ [])))) g
    ∙ ap (λ (bs : List ℕ). (pairs (map (value (row RilA) o bs) (row RilA)), 0)) bits

relative_b : (o : ℕ) (zs : List ℤ) → length zs ≡ 6 → takes (kinds RilB) zs ≡ true → encoder RilA o (halves zs) ≡ (encode RilB o zs, 0)
relative_b o [] n h = absurd (omega arith)
relative_b o (a ∷ []) n h = absurd (omega arith)
relative_b o (a ∷ b ∷ zs) n h = relative_all o a b (left (In G a) (takes (H32 ∷ []) (b ∷ zs)) h)

relative_c : (o : ℕ) (zs : List ℤ) → length zs ≡ 6 → takes (kinds RilC) zs ≡ true → encoder RilA o (halves zs) ≡ (encode RilC o zs, 0)
relative_c o [] n h = absurd (omega arith)
relative_c o (a ∷ []) n h = absurd (omega arith)
relative_c o (a ∷ b ∷ zs) n h = relative_all o a b (left (In M a) (takes (H32 ∷ []) (b ∷ zs)) h)

pub by_halves : (form : Form) (o : ℕ) (zs : List ℤ) → (form ≡ RilB) ⊎ (form ≡ RilC) → Read zs → takes (kinds form) zs ≡ true
    → (r : List ℕ × ℕ) (xs : List Operand) → r ≡ encoder RilA o xs → xs ≡ halves (told_six zs) → r.0 ≡ encode form o zs
by_halves form o zs i n h r xs e g =
    ap (λ (p : List ℕ × ℕ). p.0) (e ∙ ap (encoder RilA o) (g ∙ ap halves (read_is zs n))) ∙ ⊎_elim (from RilB (relative_b o zs n.six)) (from RilC (relative_c o zs n.six)) i where
      from : (f : Form) → (takes (kinds f) zs ≡ true → encoder RilA o (halves zs) ≡ (encode f o zs, 0)) → form ≡ f → (encoder RilA o (halves zs)).0 ≡ encode form o zs
      from f k i = ap (λ (p : List ℕ × ℕ). p.0) (k (ap (λ (k : Form). takes (kinds k) zs) (sym i) ∙ h)) ∙ ap (λ (k : Form). encode k o zs) (sym i)

-- lists of operands, element by element

pub next : {x y : Operand} {xs ys : List Operand} → x ≡ y → xs ≡ ys → (x ∷ xs) ≡ (y ∷ ys)
next p q = cc

pub reg : {r s : Reg} → r ≡ s → register r ≡ register s
reg p = ap register p

pub nat : {m n : ℕ} → m ≡ n → numeral (pos m) ≡ numeral (pos n)
nat p = ap (λ (n : ℕ). numeral (pos n)) p

pub int : {y z : ℤ} → y ≡ z → numeral y ≡ numeral z
int p = ap numeral p
