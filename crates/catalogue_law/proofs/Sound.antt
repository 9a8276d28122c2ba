-- A sound catalogue's parts, and that admitting keeps it sound.
use Rattle.std.proofs.Common.{◌≡◌, ℕ, Bool, true, false, not, ◌&&◌, ◌||◌, leb, List, [], ◌∷◌, ◌++◌, length, None, refl, arith, length-append}
use Rattle.std.proofs.lemmas.Bool.{and_parts, and_from, or_parts, not-true, leb-false, le-leb}
use Rattle.refusal.specs.declared.Reason.TheVariants.{Misfit, Clash, Full}
use Rattle.form.specs.declared.Form.{Form}
use Rattle.form.specs.declared.instr.Entry.{Entry}
use Rattle.refusal.specs.Refusals.{◌when◌}
use Rattle.refusal.specs.Tests.{any, all}
use Rattle.catalogue_law.specs.Catalogue.{misfit, clashes, is_entry, initial, most_entries, admit_refusal, admitted, begins, clashes_with, apart, fits, sound}
use Rattle.catalogue_law.proofs.Basics.{none_refused, differ}

pub record Parts (es : List Entry) : Type 0 where
  pub begins : begins initial es ≡ true
  pub few : leb (length es) most_entries ≡ true
  pub all_fit : all fits es ≡ true
  pub apart : apart es ≡ true

pub sound_parts : (es : List Entry) → sound es ≡ true → Parts es
sound_parts es h =
    let a = and_parts (begins initial es && leb (length es) most_entries && all fits es) (apart es) h in
    let b = and_parts (begins initial es && leb (length es) most_entries) (all fits es) a.0 in
    let c = and_parts (begins initial es) (leb (length es) most_entries) b.0 in
    record { begins = c.0; few = c.1; all_fit = b.1; apart = a.1 }

from_parts : (es : List Entry) → Parts es → sound es ≡ true
from_parts es p =
    and_from (begins initial es && leb (length es) most_entries && all fits es) (apart es)
    (and_from (begins initial es && leb (length es) most_entries) (all fits es) (and_from (begins initial es) (leb (length es) most_entries) p.begins p.few) p.all_fit) p.apart

begins_more : (ds es : List Entry) (e : Entry) → begins ds es ≡ true → begins ds (es ++ e ∷ []) ≡ true
begins_more [] es e h = refl
begins_more (d ∷ ds) [] e h = absurd (differ h refl)
begins_more (d ∷ ds) (x ∷ es) e h =
    let p = and_parts (is_entry d.form d.opcode x) (begins ds es) h in
    and_from (is_entry d.form d.opcode x) (begins ds (es ++ e ∷ [])) p.0 (begins_more ds es e p.1)

all_more : {X : Type 0} (p : X → Bool) (xs : List X) (x : X) → all p xs ≡ true → p x ≡ true → all p (xs ++ x ∷ []) ≡ true
all_more p [] x h k = and_from (p x) true k refl
all_more p (y ∷ xs) x h k = let q = and_parts (p y) (all p xs) h in and_from (p y) (all p (xs ++ x ∷ [])) q.0 (all_more p xs x q.1 k)

neither : (a b : Bool) → a ≡ false → b ≡ false → (a || b) ≡ false
neither a b h k = rw (h, k) refl

any_more : {X : Type 0} (p : X → Bool) (xs : List X) (x : X) → any p xs ≡ false → p x ≡ false → any p (xs ++ x ∷ []) ≡ false
any_more p [] x h k = neither (p x) false k refl
any_more p (y ∷ xs) x h k = let q = or_parts (p y) (any p xs) h in neither (p y) (any p (xs ++ x ∷ [])) q.0 (any_more p xs x q.1 k)

negated : (b : Bool) → b ≡ false → not b ≡ true
negated b h = rw h refl

apart_more : (es : List Entry) (d : Entry) → apart es ≡ true → any (clashes d.form d.opcode) es ≡ false → apart (es ++ d ∷ []) ≡ true
apart_more [] d h k = refl
apart_more (e ∷ es) d h k =
    let p = and_parts (not (any (clashes_with e) es)) (apart es) h in
    let q = or_parts (clashes d.form d.opcode e) (any (clashes d.form d.opcode) es) k in
    and_from (not (any (clashes_with e) (es ++ d ∷ []))) (apart (es ++ d ∷ []))
    (negated (any (clashes_with e) (es ++ d ∷ [])) (any_more (clashes_with e) es d (not-true (any (clashes_with e) es) p.0) q.0))
    (apart_more es d p.1 q.1)

pub sound_admitted : (es : List Entry) (f : Form) (o : ℕ) → sound es ≡ true → admit_refusal es f o ≡ None → sound (admitted es f o) ≡ true
sound_admitted es f o h r =
    let t = none_refused (Misfit when misfit f o ∷ Clash when any (clashes f o) es ∷ Full when leb most_entries (length es) ∷ []) r in
    let p = sound_parts es h in
    let d : Entry = record { form = f; opcode = o } in
    let few = leb-false most_entries (length es) t.1.1.0 in
    from_parts (admitted es f o)
    (record {
      begins = begins_more initial es d p.begins;
      few = le-leb (length (admitted es f o)) most_entries (let e = length-append es (d ∷ []) in omega arith);
      all_fit = all_more fits es d p.all_fit (negated (misfit f o) t.0);
      apart = apart_more es d p.apart t.1.0;
    })
