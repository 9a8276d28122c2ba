-- What fits, after some of it was written.
use Rattle.std.proofs.Common.{◌≡◌, ℕ, ◌+◌, ◌≤◌, true, false, ◌&&◌, leb, List, [], ◌∷◌, ◌++◌, length, Some, None, Ok, Option, sym, refl, ap, ◌∙◌, subst, arith, length-append}
use lib.Seq.{length-paste}
use Rattle.std.specs.List.{AllByRecursion}
use Rattle.std.proofs.lemmas.Bool.{lt-leb}
use Rattle.form.specs.declared.Form.{Form}
use Rattle.form.specs.Form.{kinds}
use Rattle.form.specs.Encode.{takes}
use Rattle.form.specs.Instr.{bytes_of}
use Rattle.refusal.specs.declared.Reason.{Reason}
use Rattle.refusal.specs.Refusals.{answered}
use Rattle.catalogue_law.proofs.Basics.{ok_err}
use Rattle.book.specs.declared.target.Use.{Use}
use Rattle.book.specs.Books.{leaves_use}
use Rattle.book.specs.declared.target.Target.{Target}
use Rattle.catalogue_law.proofs.Encoding.{encode_length}
use Rattle.address.specs.declared.access.Aimed.{Aimed}
use Rattle.address.specs.Aimed.{size_of_all}
use Rattle.law.specs.Section.{State, written_one, written, use_at}
use Rattle.section.specs.Fits.{Fits, one_aim, aims}

pub size_append : (xs ys : List Aimed) → size_of_all (xs ++ ys) ≡ size_of_all xs + size_of_all ys
size_append [] ys = omega arith
size_append (x ∷ xs) ys = let h = size_append xs ys in omega arith

pub aims_append : (xs ys : List Aimed) → aims (xs ++ ys) ≡ aims xs + aims ys
aims_append [] ys = omega arith
aims_append (x ∷ xs) ys = let h = aims_append xs ys in omega arith

all_left : (P : Aimed → Type 0) (xs ys : List Aimed) → AllByRecursion P (xs ++ ys) → AllByRecursion P xs
all_left P [] ys h = tt
all_left P (x ∷ xs) ys h = (h.0, all_left P xs ys h.1)

pub fits_left : (s : State) (xs ys : List Aimed) → Fits s (xs ++ ys) → Fits s xs
fits_left s xs ys f =
    let a = size_append xs ys in
    let b = aims_append xs ys in
    let p = f.room in
    let q = f.uses in
    record { ours = f.ours; room = omega arith; in_kind = all_left (λ w. takes (kinds w.instr.form) w.instr.operands ≡ true) xs ys f.in_kind; uses = omega arith }

use_length : (at : ℕ) (f : Form) (o : Option Target) → length (use_at at f o) ≡ one_aim o
use_length at f None = refl
use_length at f (Some t) = refl

fits_next : (s : State) (w : Aimed) (ws : List Aimed) → Fits s (w ∷ ws) → Fits (written_one s w) ws
fits_next s w ws f =
    let n = encode_length w.instr.form w.instr.opcode w.instr.operands in
    let b = bytes_of w.instr in
    let p = f.room in
    let q = f.uses in
    let o = f.ours in
    let u = length-append s.books.uses (use_at s.books.len w.instr.form w.aim) in
    let v = use_length s.books.len w.instr.form w.aim in
    record {
      ours = length-paste s.code s.books.len b (length b) (omega arith) (omega arith) ∙ f.ours;
      room = omega arith;
      in_kind = f.in_kind.1;
      uses = omega arith;
    }

pub fits_right : (s : State) (xs ys : List Aimed) → Fits s (xs ++ ys) → Fits (written s xs) ys
fits_right s [] ys f = f
fits_right s (x ∷ xs) ys f = fits_right (written_one s x) xs ys (fits_next s x (xs ++ ys) f)

pub written_append : (s : State) (xs ys : List Aimed) → written s (xs ++ ys) ≡ written (written s xs) ys
written_append s [] ys = refl
written_append s (x ∷ xs) ys = written_append (written_one s x) xs ys

pub three_written : (s a b c : State) (xs ys zs : List Aimed) → a ≡ written s xs → b ≡ written a ys → c ≡ written b zs → c ≡ written s (xs ++ ys ++ zs)
three_written s a b c xs ys zs e f h =
    h ∙ ap (λ (t : State). written t zs) (f ∙ ap (λ (t : State). written t ys) e ∙ sym (written_append s xs ys)) ∙ sym (written_append s (xs ++ ys) zs)

pub second_fits : (s a : State) (xs ys zs : List Aimed) → a ≡ written s xs → Fits s (xs ++ ys ++ zs) → Fits a ys
second_fits s a xs ys zs e f = subst (λ (t : State). Fits t ys) (sym e) (fits_right s xs ys (fits_left s (xs ++ ys) zs f))

pub third_fits : (s a b : State) (xs ys zs : List Aimed) → a ≡ written s xs → b ≡ written a ys → Fits s (xs ++ ys ++ zs) → Fits b zs
third_fits s a b xs ys zs e f h =
    subst (λ (t : State). Fits t zs) (sym (f ∙ ap (λ (t : State). written t ys) e ∙ sym (written_append s xs ys))) (fits_right s (xs ++ ys) zs h)

pub free : (us : List Use) (aim : Option Target) → length us + (one_aim aim + 0) ≤ 1024 → (leaves_use aim && leb 1024 (length us)) ≡ false
free us None h = refl
free us (Some t) h = lt-leb 1024 (length us) (omega arith)

pub gave : {X : Type 0} (o : Option Reason) (x : X) {y : X} → Ok y ≡ answered o x → y ≡ x
gave None x h = cc
gave (Some r) x h = absurd (ok_err refl h)
