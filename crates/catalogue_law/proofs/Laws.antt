-- The laws of a catalogue.
use Rattle.std.proofs.Common.{◌≡◌, ℕ, ◌<◌, Bool, true, false, cond, ◌||◌, eqb, ltb, ◌⊎◌, List, [], ◌∷◌, ◌++◌, length, take, Some, None, Ok, Err, Option, Result, sym, refl, ap, ◌∙◌, subst, inl, inr, length-take-le}
use Rattle.std.proofs.lemmas.Bool.{and_parts, and_from, eqb-true, eq-eqb, ltb-false}
use Rattle.refusal.specs.declared.Reason.TheVariants.{Cut, Unused}
use Rattle.refusal.specs.declared.Refusal.{Refusal}
use Rattle.refusal.specs.Refusals.{refused_at}
use Rattle.form.specs.declared.instr.Entry.{Entry}
use Rattle.form.specs.declared.instr.Placed.{Placed}
use Rattle.form.specs.Form.{size, form_number}
use Rattle.form.specs.Encode.{opcode_of, operands_of, clean, nibbles}
use Rattle.form.specs.Instr.{bytes_of}
use Rattle.inversion.proofs.Inversion.{inversion}
use Rattle.catalogue_law.specs.Catalogue.{length_by_first_byte, first_byte, catalogued, is_entry, Catalogued, matches, find, read_as}
use Rattle.catalogue_law.specs.Laws.{OneEntry, WrittenIsReadBack, ReadIsWrittenAgain}
use Rattle.catalogue_law.proofs.Basics.{T_true, true_T, any_append, none_some, ok_err, all_take}
use Rattle.catalogue_law.proofs.Encoding.{spelled, opcode_spelled, first_of_opcode}
use Rattle.catalogue_law.proofs.Reading.{Apart, Entries, sound_entries, catalogued_among, read_one}

pub one_entry : OneEntry
one_entry es bytes d e s small cd ce md me = go (told.apart d e (catalogued_among es d.form d.opcode (T_true cd)) (catalogued_among es e.form e.opcode (T_true ce)))
  where
    told : Entries es
    told = sound_entries es s

    len : (x : Entry) → matches bytes x ≡ true → length bytes ≡ size x.form
    len x m = sym (eqb-true (size x.form) (length bytes) (and_parts (eqb (size x.form) (length bytes)) (eqb (opcode_of x.form bytes) x.opcode) m).0)

    opc : (x : Entry) → matches bytes x ≡ true → opcode_of x.form bytes ≡ x.opcode
    opc x m = eqb-true (opcode_of x.form bytes) x.opcode (and_parts (eqb (size x.form) (length bytes)) (eqb (opcode_of x.form bytes) x.opcode) m).1

    first : (x : Entry) → matches bytes x ≡ true → first_byte x.form x.opcode ≡ first_byte x.form (opcode_of x.form bytes)
    first x m = ap (first_byte x.form) (sym (opc x m))

    go : (d ≡ e) ⊎ Apart d e → d ≡ e
    go (inl p) = p
    go (inr p) =
        let fd = first d md ∙ first_of_opcode d.form bytes (len d md) small in
        let fe = first e me ∙ first_of_opcode e.form bytes (len e me) small in
        let r = p (fd ∙ sym fe) in
        absurd (r.1 (sym (opc d md) ∙ opcode_spelled d.form bytes (len d md) ∙ ap (λ (ps : List ℕ). spelled ps (nibbles bytes)) r.0 ∙ sym (opcode_spelled e.form bytes (len e me)) ∙ opc e me))

pub written_is_read_back : WrittenIsReadBack
written_is_read_back es more i at rest s c =
    read_one inversion.0 (es ++ more) (sound_entries (es ++ more) s) i
    (record { entry = any_append (is_entry i.form i.opcode) es more c.entry; six_operands = c.six_operands; in_kind = c.in_kind }) at rest

-- The other way.

not_cut : {X E : Type 0} (b : Bool) (r : E) (x : Result X E) (y : X) → cond b (Err r) x ≡ Ok y → (b ≡ false) × (x ≡ Ok y)
not_cut true r x y h = absurd (ok_err h refl)
not_cut false r x y h = (refl, h)

was_clean : (b : Bool) (x p : Placed) (r : Refusal) → cond b (Ok (Some x)) (Err r) ≡ Ok (Some p) → (b ≡ true) × (x ≡ p)
was_clean true x p r h = (refl, cc)
was_clean false x p r h = absurd (ok_err h refl)

abbrev at_place : ℕ → Entry → List ℕ → Placed
at_place at e l = record { place = at; instr = record { form = e.form; opcode = e.opcode; operands = operands_of e.form l } }

entry_read : (at : ℕ) (l : List ℕ) (q : Option Entry) (p : Placed) → read_as at l q ≡ Ok (Some p)
    → (e : Entry) × ((q ≡ Some e) × (clean e.form l ≡ true) × (at_place at e l ≡ p))
entry_read at l None p h = absurd (ok_err h refl)
entry_read at l (Some e) p h =
    let w = was_clean (clean e.form l) (at_place at e l) p (refused_at at Unused) h in
    (e, (refl, w.0, w.1))

found : (q : Entry → Bool) (es : List Entry) (e : Entry) → find q es ≡ Some e → (q e ≡ true) × (catalogued es e.form e.opcode ≡ true)
found q [] e h = absurd (none_some refl h)
found q (x ∷ es) e h = step (q x) refl h (found q es e)
  where
    same : is_entry x.form x.opcode x ≡ true
    same = and_from (eqb (form_number x.form) (form_number x.form)) (eqb x.opcode x.opcode) (eq-eqb (form_number x.form) (form_number x.form) refl) (eq-eqb x.opcode x.opcode refl)

    or_true : (b : Bool) → (b || true) ≡ true
    or_true true = refl
    or_true false = refl

    step : (b : Bool) → q x ≡ b → cond b (Some x) (find q es) ≡ Some e
        → (find q es ≡ Some e → (q e ≡ true) × (catalogued es e.form e.opcode ≡ true))
        → (q e ≡ true) × (catalogued (x ∷ es) e.form e.opcode ≡ true)
    step true u k g =
        let xe : x ≡ e = cc in (
          ap q (sym xe) ∙ u,
          ap (λ (y : Entry). is_entry y.form y.opcode x || catalogued es y.form y.opcode) (sym xe) ∙ ap (λ (b : Bool). b || catalogued es x.form x.opcode) same,
        )
    step false u k g = let r = g k in (r.0, ap (λ (b : Bool). is_entry e.form e.opcode x || b) r.1 ∙ or_true (is_entry e.form e.opcode x))

pub read_is_written_again : ReadIsWrittenAgain
read_is_written_again es at [] p small h = absurd (none_some refl (ok_same h))
  where
    ok_same : {x y : Option Placed} → ◌≡◌ {A = Result (Option Placed) Refusal} (Ok x) (Ok y) → x ≡ y
    ok_same e = cc
read_is_written_again es at (b ∷ bs) p small h =
    let l : List ℕ = take (length_by_first_byte b) (b ∷ bs) in
    let u = not_cut (ltb (length (b ∷ bs)) (length_by_first_byte b)) (refused_at at Cut) (read_as at l (find (matches l) es)) (Some p) h in
    let v = entry_read at l (find (matches l) es) p u.1 in
    let e : Entry = v.0 in
    let w = found (matches l) es e v.1.0 in
    let m = and_parts (eqb (size e.form) (length l)) (eqb (opcode_of e.form l) e.opcode) w.0 in
    let n : size e.form ≡ length l = eqb-true (size e.form) (length l) m.0 in
    let o : opcode_of e.form l ≡ e.opcode = eqb-true (opcode_of e.form l) e.opcode m.1 in
    let i = inversion.1 e.form l (sym n) (all_take (λ b. b < 256) (length_by_first_byte b) (b ∷ bs) small) v.1.1 in
    let long = ltb-false (length (b ∷ bs)) (length_by_first_byte b) u.0 in
    let ln : length l ≡ length_by_first_byte b = length-take-le (length_by_first_byte b) (b ∷ bs) long in
    let P : Placed → Type 0 = λ y. (y.place ≡ at) × Catalogued es y.instr × (bytes_of y.instr ≡ take (size y.instr.form) (b ∷ bs)) in
    subst P v.1.2 (
      refl,
      record { entry = true_T w.1; six_operands = i.2; in_kind = true_T i.1 },
      ap (λ (y : ℕ). bytes_of (record { form = e.form; opcode = y; operands = operands_of e.form l })) (sym o) ∙ i.0 ∙ ap (λ (k : ℕ). take k (b ∷ bs)) (sym (n ∙ ln)),
    )
