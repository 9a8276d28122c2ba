-- What holds of each form that is listed holds of every form: a rule of all forms is one computed test.
use Rattle.std.proofs.Common.{◌≡◌, ℕ, zero, suc, ◌<◌, Bool, true, ◌&&◌, eqb, List, [], ◌∷◌, length, get_or, refl, arith, lit<}
use Rattle.form.specs.declared.Form.{Form}
use Rattle.form.specs.declared.Form.TheVariants.{E, RiA, RiB, RiC, RieA, RieD, RieF, RieG, RilA, RilB, RilC, Rr, Rrd, Rre, RrfAb, RrfCde, Rs, Rsy, Rx, Rxy, Si, Sil, Siy, VriA, VriB, VriC, VriK, VrrA, VrrB, VrrC, VrrD, VrrE, VrrF, VrsA, VrsB, VrsC, Vrx}
use Rattle.form.specs.declared.table.OpcodeDigits.{OpcodeDigits}
use Rattle.form.specs.Form.{size, opcode_digits, form_number}
use Rattle.form.specs.Table.{places}
use Rattle.form.proofs.Tests.{left, right, eqb_is, same, same_is}

abbrev forms : List Form
forms = E ∷ RiA ∷ RiB ∷ RiC ∷ RieA ∷ RieD ∷ RieF ∷ RieG ∷ RilA ∷ RilB ∷ RilC ∷ Rr ∷ Rrd ∷ Rre ∷ RrfAb ∷ RrfCde ∷ Rs ∷ Rsy ∷ Rx ∷ Rxy ∷ Si ∷ Sil ∷ Siy ∷ VriA ∷ VriB ∷ VriC ∷ VriK ∷ VrrA ∷ VrrB ∷ VrrC ∷ VrrD ∷ VrrE ∷ VrrF ∷ VrsA ∷ VrsB ∷ VrsC ∷ Vrx ∷ []

abbrev all_of : (Form → Bool) → List Form → Bool
all_of p [] = true
all_of p (f ∷ fs) = p f && all_of p fs

listed : (f : Form) → get_or forms (form_number f) E ≡ f
listed E = refl
listed RiA = refl
listed RiB = refl
listed RiC = refl
listed RieA = refl
listed RieD = refl
listed RieF = refl
listed RieG = refl
listed RilA = refl
listed RilB = refl
listed RilC = refl
listed Rr = refl
listed Rrd = refl
listed Rre = refl
listed RrfAb = refl
listed RrfCde = refl
listed Rs = refl
listed Rsy = refl
listed Rx = refl
listed Rxy = refl
listed Si = refl
listed Sil = refl
listed Siy = refl
listed VriA = refl
listed VriB = refl
listed VriC = refl
listed VriK = refl
listed VrrA = refl
listed VrrB = refl
listed VrrC = refl
listed VrrD = refl
listed VrrE = refl
listed VrrF = refl
listed VrsA = refl
listed VrsB = refl
listed VrsC = refl
listed Vrx = refl

below : (f : Form) → form_number f < length forms
below E = lit< tt
below RiA = lit< tt
below RiB = lit< tt
below RiC = lit< tt
below RieA = lit< tt
below RieD = lit< tt
below RieF = lit< tt
below RieG = lit< tt
below RilA = lit< tt
below RilB = lit< tt
below RilC = lit< tt
below Rr = lit< tt
below Rrd = lit< tt
below Rre = lit< tt
below RrfAb = lit< tt
below RrfCde = lit< tt
below Rs = lit< tt
below Rsy = lit< tt
below Rx = lit< tt
below Rxy = lit< tt
below Si = lit< tt
below Sil = lit< tt
below Siy = lit< tt
below VriA = lit< tt
below VriB = lit< tt
below VriC = lit< tt
below VriK = lit< tt
below VrrA = lit< tt
below VrrB = lit< tt
below VrrC = lit< tt
below VrrD = lit< tt
below VrrE = lit< tt
below VrrF = lit< tt
below VrsA = lit< tt
below VrsB = lit< tt
below VrsC = lit< tt
below Vrx = lit< tt

at : (p : Form → Bool) (fs : List Form) → all_of p fs ≡ true → (i : ℕ) → i < length fs → p (get_or fs i E) ≡ true
at p [] e i h = absurd (omega arith)
at p (f ∷ fs) e zero h = left (p f) (all_of p fs) e
at p (f ∷ fs) e (suc i) h = at p fs (right (p f) (all_of p fs) e) i (omega arith)

-- the test of every form
abbrev pub every : (Form → Bool) → Bool
every p = all_of p forms

pub at_each : (p : Form → Bool) → every p ≡ true → (f : Form) → p f ≡ true
at_each p e f = rw (listed f) at (at p forms e (form_number f) (below f))

-- tables by the form's number

pub sizes : (xs : List ℕ) → every (λ f. eqb (get_or xs (form_number f) 0) (size f)) ≡ true → (f : Form) → get_or xs (form_number f) 0 ≡ size f
sizes xs e f = eqb_is (get_or xs (form_number f) 0) (size f) (at_each (λ f. eqb (get_or xs (form_number f) 0) (size f)) e f)

pub digit_places : (xs : List OpcodeDigits) (d : OpcodeDigits) → every (λ f. same (places (get_or xs (form_number f) d)) (opcode_digits f)) ≡ true → (f : Form) → places (get_or xs (form_number f) d) ≡ opcode_digits f
digit_places xs d e f =
    same_is (places (get_or xs (form_number f) d)) (opcode_digits f) (at_each (λ f. same (places (get_or xs (form_number f) d)) (opcode_digits f)) e f)
