-- What reading answers, from what was found.
use Rattle.std.proofs.Common.{◌≡◌, ℕ, ◌+◌, ◌≤◌, Bool, true, false, cond, ◌&&◌, eqb, ltb, List, [], ◌∷◌, length, get_or, take, ℤ, Some, None, Ok, Err, sym, refl, ap, ◌∙◌, arith, length-take-le, le-ltb}
use Rattle.refusal.specs.declared.Reason.TheVariants.{Cut, Unused}
use Rattle.refusal.specs.Refusals.{refused_at}
use Rattle.form.specs.declared.Form.{Form}
use Rattle.form.specs.declared.instr.Entry.{Entry}
use Rattle.form.specs.declared.instr.Instr.{Instr}
use Rattle.form.specs.Form.{size}
use Rattle.form.specs.Encode.{operands_of, clean}
use Rattle.form.proofs.Tests.{right}
use Rattle.catalogue_law.specs.Catalogue.{length_by_first_byte, matches, find, read_as, read_rest}
use Rattle.catalogue_law.proofs.Basics.{none_some}

-- operands that were decoded are those of clean bytes
pub decoded : (b : Bool) (xs zs : List ℤ) → Some zs ≡ cond b (Some xs) None → (b ≡ true) × (zs ≡ xs)
decoded true xs zs e = (refl, cc)
decoded false xs zs e = absurd (none_some refl (sym e))

pub within : (n : ℕ) (bytes : List ℕ) (f : ℕ) → n ≤ length bytes → length (take n bytes) ≡ f → 0 + f ≤ length bytes
within n bytes f l e = let k = length-take-le n bytes l in omega arith

same_instr : (i j : Instr) → i.form ≡ j.form → i.opcode ≡ j.opcode → i.operands ≡ j.operands → i ≡ j
same_instr i j f o zs =
    let made : Form → ℕ → List ℤ → Instr = λ f o zs. record { form = f; opcode = o; operands = zs } in
    ap (λ (x : Form). made x i.opcode i.operands) f ∙ ap (λ (x : ℕ). made j.form x i.operands) o ∙ ap (made j.form j.opcode) zs

read_as_entry : (es : List Entry) (at : ℕ) (bytes : List ℕ) (n : ℕ) (e : Entry) (zs : List ℤ)
    → n ≡ length_by_first_byte (get_or bytes 0 0) → 1 ≤ length bytes → n ≤ length bytes
    → find (matches (take n bytes)) es ≡ Some e
    → Some zs ≡ cond (eqb (length (take n bytes)) (size e.form) && clean e.form (take n bytes)) (Some (operands_of e.form (take n bytes))) None
    → Ok (Some (record { place = at; instr = record { form = e.form; opcode = e.opcode; operands = zs } })) ≡ read_rest es at bytes
read_as_entry es at [] n e zs m h l f d = absurd (omega arith)
read_as_entry es at (b ∷ bs) n e zs m h l f d =
    let cut : ltb (length (b ∷ bs)) n ≡ false = le-ltb (length (b ∷ bs)) n l in
    let k = decoded (eqb (length (take n (b ∷ bs))) (size e.form) && clean e.form (take n (b ∷ bs))) (operands_of e.form (take n (b ∷ bs))) zs d in
    let c = right (eqb (length (take n (b ∷ bs))) (size e.form)) (clean e.form (take n (b ∷ bs))) k.0 in
    ap (λ (y : List ℤ). Ok (Some (record { place = at; instr = record { form = e.form; opcode = e.opcode; operands = y } }))) k.1
    ∙ sym (ap (λ (t : Bool). cond t (Ok (Some (record { place = at; instr = record { form = e.form; opcode = e.opcode; operands = operands_of e.form (take n (b ∷ bs)) } }))) (Err (refused_at at Unused))) c)
    ∙ ap (read_as at (take n (b ∷ bs))) (sym f)
    ∙ sym (ap (λ (t : Bool). cond t (Err (refused_at at Cut)) (read_as at (take n (b ∷ bs)) (find (matches (take n (b ∷ bs))) es))) cut)
    ∙ ap (λ (k : ℕ). cond (ltb (length (b ∷ bs)) k) (Err (refused_at at Cut)) (read_as at (take k (b ∷ bs)) (find (matches (take k (b ∷ bs))) es))) m

pub read_ok : (es : List Entry) (at : ℕ) (bytes : List ℕ) (n : ℕ) (e : Entry) (i : Instr)
    → n ≡ length_by_first_byte (get_or bytes 0 0) → 1 ≤ length bytes → n ≤ length bytes
    → find (matches (take n bytes)) es ≡ Some e
    → Some i.operands ≡ cond (eqb (length (take n bytes)) (size e.form) && clean e.form (take n bytes)) (Some (operands_of e.form (take n bytes))) None
    → i.form ≡ e.form → i.opcode ≡ e.opcode → Ok (Some (record { place = at; instr = i })) ≡ read_rest es at bytes
read_ok es at bytes n e i m h l f d p q =
    ap (λ (i : Instr). Ok (Some (record { place = at; instr = i }))) (same_instr i (record { form = e.form; opcode = e.opcode; operands = i.operands }) p q refl)
    ∙ read_as_entry es at bytes n e i.operands m h l f d
