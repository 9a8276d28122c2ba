-- One use: where the family's bytes lie, what is planned, and what is filled.
use Rattle.std.proofs.Common.{◌≡◌, ℕ, zero, suc, ◌+◌, ◌-◌, ◌≤◌, min, List, [], ◌∷◌, ◌++◌, length, take, drop, ℤ, Some, None, Ok, Err, Option, sym, refl, ap, ◌∙◌, arith, length-drop, take_all, drop-drop}
use native.Mathlib.Decide.{dec_le}
use borrow.Rule.Slice.PartMut.{put_mid}
use Rattle.std.specs.List.{between}
use lib.Seq.{paste}
use Rattle.std.proofs.lemmas.List.{append_assoc, append-nil, take-append-drop, drop_all}
use Rattle.std.proofs.lemmas.List.Edits.{length-between}
use Rattle.std.proofs.lemmas.Slice.{put_mid-paste}
use Rattle.refusal.specs.declared.Reason.TheVariants.{Unbound}
use Rattle.refusal.specs.declared.Refusal.{Refusal}
use Rattle.refusal.specs.Refusals.{when_some, answered, unless, refused_at}
use Rattle.field.specs.declared.verdict.FieldRefusal.{FieldRefusal}
use Rattle.field.specs.Family.{FieldInfo, Fields, Family, field_refused_at, refuses, after_patch}
use Rattle.book.specs.declared.target.Use.{Use}
use Rattle.settle_law.specs.Settle.{window_of, window_start, write_at, distance_refused, patched_to}
use Rattle.settle.specs.Plan.{distance_from, window_from, window_size, window_past, planned, filled}

-- Windows.

take_nil : (n : ℕ) → take {A = ℕ} n [] ≡ []
take_nil zero = refl
take_nil (suc n) = refl

take_min : (k : ℕ) (xs : List ℕ) → take (min k (length xs)) xs ≡ take k xs
take_min k xs =
    elim (dec_le k (length xs)) [
      | yes h ↦ let e : min k (length xs) ≡ k = omega arith in ap (λ (n : ℕ). take n xs) e
      | no h ↦
          let q : length xs ≤ k = omega arith in
          take_all (min k (length xs)) xs (omega arith) ∙ sym (take_all k xs q)
    ]

clamped : (code : List ℕ) (s k : ℕ) → take (min (s + k) (length code) - min s (length code)) (drop (min s (length code)) code) ≡ take k (drop s code)
clamped code s k =
    elim (dec_le s (length code)) [
      | yes h ↦
          let e : min s (length code) ≡ s = omega arith in
          let l : length (drop s code) ≡ length code - s = length-drop s code in
          let f : min (s + k) (length code) - s ≡ min k (length (drop s code)) = omega arith in
          ap (λ (m : ℕ). take (min (s + k) (length code) - m) (drop m code)) e ∙ ap (λ (m : ℕ). take m (drop s code)) f ∙ take_min k (drop s code)
      | no h ↦
          let e : min s (length code) ≡ length code = omega arith in
          let p : drop (min s (length code)) code ≡ [] = drop_all (min s (length code)) code (omega arith) in
          let q : drop s code ≡ [] = drop_all s code (omega arith) in
          ap (take (min (s + k) (length code) - min s (length code))) p ∙ take_nil (min (s + k) (length code) - min s (length code)) ∙ sym (ap (take k) q ∙ take_nil k)
    ]

pub window_is : (o : Option FieldInfo) (at : ℕ) (code : List ℕ) → between (window_from o at (length code)) (window_past o at (length code)) code ≡ window_of o at code
window_is None at code = clamped code at 0
window_is (Some i) at code =
    let s : ℕ = at + i.lead in
    let e : i.size ≡ s + i.size - s = omega arith in
    clamped code s i.size ∙ ap (λ (n : ℕ). take n (drop s code)) e

pub window_length : (o : Option FieldInfo) (at : ℕ) (code : List ℕ) → length (window_of o at code) ≡ window_past o at (length code) - window_from o at (length code)
window_length o at code =
    ap length (sym (window_is o at code)) ∙ length-between code (window_from o at (length code)) (window_past o at (length code)) (omega arith)

back : (k : ℕ) (xs : List ℕ) → take k xs ++ drop (length (take k xs)) xs ≡ xs
back zero xs = refl
back (suc k) [] = refl
back (suc k) (x ∷ xs) = ap (λ (r : List ℕ). x ∷ r) (back k xs)

paste_back : (code : List ℕ) (s k : ℕ) → paste code s (take k (drop s code)) (length (take k (drop s code))) ≡ code
paste_back code s k =
    let xs : List ℕ = drop s code in
    let ys : List ℕ = take k xs in
    let a : take (length ys) ys ≡ ys = take_all (length ys) ys (omega arith) in
    let b : drop (s + length ys) code ≡ drop (length ys) xs = sym (drop-drop (length ys) s code) in
    ap (λ (z : List ℕ). take s code ++ z ++ drop (s + length ys) code) a
    ∙ ap (λ (z : List ℕ). take s code ++ ys ++ z) b
    ∙ append_assoc (take s code) ys (drop (length ys) xs)
    ∙ ap (λ (z : List ℕ). take s code ++ z) (back k xs)
    ∙ take-append-drop s code

written_back : (o : Option FieldInfo) (at : ℕ) (code : List ℕ) → write_at (window_start o at) (window_of o at code) code ≡ code
written_back None at code = paste_back code at 0
written_back (Some i) at code = paste_back code (at + i.lead) (at + i.lead + i.size - (at + i.lead))

paste_none : (code ys : List ℕ) (m : ℕ) → paste code m ys 0 ≡ code
paste_none code ys m =
    let e : m + 0 ≡ m = omega arith in
    ap (λ (n : ℕ). take m code ++ take 0 ys ++ drop n code) e ∙ ap (λ (z : List ℕ). z ++ drop m code) (append-nil (take m code)) ∙ take-append-drop m code

pasted_at : (code ys : List ℕ) (s k : ℕ) → length ys ≡ min (s + k) (length code) - min s (length code) → paste code (min s (length code)) ys (length ys) ≡ paste code s ys (length ys)
pasted_at code ys s k h =
    elim (dec_le s (length code)) [
      | yes q ↦ let e : min s (length code) ≡ s = omega arith in ap (λ (m : ℕ). paste code m ys (length ys)) e
      | no q ↦
          let e : length ys ≡ 0 = omega arith in
          ap (λ (n : ℕ). paste code (min s (length code)) ys n) e ∙ paste_none code ys (min s (length code))
          ∙ sym (ap (λ (n : ℕ). paste code s ys n) e ∙ paste_none code ys s)
    ]

-- What is planned.

-- why the distance that is wanted is not given
abbrev pub refused_for : Fields → Use → List ℕ → Option ℤ → Option Refusal
refused_for F u code None = Some (refused_at u.place Unbound)
refused_for F u code (Some d) = when_some (field_refused_at u.place) (refuses F u.kind (length (window_of (F.table u.kind) u.place code)) d)

pub refused_is : (F : Fields) (u : Use) (code : List ℕ) (w : Option ℤ) → refused_for F u code (distance_from u.place w) ≡ distance_refused F u code w
refused_is F u code None = refl
refused_is F u code (Some p) = refl

pub filled_is : (F : Family) (u : Use) (code : List ℕ) (w : Option ℤ) → filled F u code (distance_from u.place w) ≡ patched_to F u code w
filled_is F u code None = refl
filled_is F u code (Some p) = refl

ok_some : (o : Option FieldRefusal) (say : FieldRefusal → Refusal) (x d : ℤ) → answered (when_some say o) x ≡ Ok d → (o ≡ None) × (x ≡ d)
ok_some None say x d h = (refl, cc)
ok_some (Some r) say x d h = let z : ◌≡◌ {A = ℕ} 0 1 = cc in absurd (omega arith)

err_some : (o : Option FieldRefusal) (say : FieldRefusal → Refusal) (x : ℤ) (e : Refusal) → answered (when_some say o) x ≡ Err e → (r : FieldRefusal) × (o ≡ Some r) × (say r ≡ e)
err_some None say x e h = let z : ◌≡◌ {A = ℕ} 0 1 = cc in absurd (omega arith)
err_some (Some r) say x e h = (r, refl, cc)

pub planned_ok : (F : Fields) (u : Use) (code : List ℕ) (w : Option ℤ) (d : ℤ) → Ok d ≡ planned F u (length code) w →
    (w ≡ Some d) × (refused_for F u code w ≡ None)
planned_ok F u code None d h = let z : ◌≡◌ {A = ℕ} 0 1 = cc in absurd (omega arith)
planned_ok F u code (Some x) d h =
    let o = F.table u.kind in
    let t = ok_some (refuses F u.kind (window_past o u.place (length code) - window_from o u.place (length code)) x) (field_refused_at u.place) x d (sym h) in
    let r : refuses F u.kind (length (window_of o u.place code)) x ≡ None = ap (λ (n : ℕ). refuses F u.kind n x) (window_length o u.place code) ∙ t.0 in
    (ap Some t.1, ap (when_some (field_refused_at u.place)) r)

pub planned_no : (F : Fields) (u : Use) (code : List ℕ) (w : Option ℤ) (e : Refusal) → Err e ≡ planned F u (length code) w → refused_for F u code w ≡ Some e
planned_no F u code None e h = let k : e ≡ refused_at u.place Unbound = cc in ap Some (sym k)
planned_no F u code (Some x) e h =
    let o = F.table u.kind in
    let t = err_some (refuses F u.kind (window_past o u.place (length code) - window_from o u.place (length code)) x) (field_refused_at u.place) x e (sym h) in
    let r : refuses F u.kind (length (window_of o u.place code)) x ≡ Some t.0 = ap (λ (n : ℕ). refuses F u.kind n x) (window_length o u.place code) ∙ t.1 in
    ap (when_some (field_refused_at u.place)) r ∙ ap Some t.2

-- Filling one.

pub unfilled : (F : Family) (u : Use) (code : List ℕ) (w : Option ℤ) (e : Refusal) → Err e ≡ planned F.fields u (length code) w → code ≡ filled F u code w
unfilled F u code None e h = refl
unfilled F u code (Some x) e h =
    let o = F.fields.table u.kind in
    let t = err_some (refuses F.fields u.kind (window_past o u.place (length code) - window_from o u.place (length code)) x) (field_refused_at u.place) x e (sym h) in
    let r : refuses F.fields u.kind (length (window_of o u.place code)) x ≡ Some t.0 = ap (λ (n : ℕ). refuses F.fields u.kind n x) (window_length o u.place code) ∙ t.1 in
    sym (ap (λ (q : Option FieldRefusal). write_at (window_start o u.place) (unless q (F.patched u.kind (window_of o u.place code) x) (window_of o u.place code)) code) r
    ∙ written_back o u.place code)

placed : (o : Option FieldInfo) (at : ℕ) (code new : List ℕ) → length new ≡ window_past o at (length code) - window_from o at (length code) →
    put_mid (window_from o at (length code)) (window_past o at (length code) - window_from o at (length code)) code new ≡ write_at (window_start o at) new code
placed o at code new h =
    put_mid-paste (window_from o at (length code)) (window_past o at (length code) - window_from o at (length code)) code new new (length new) refl h refl
    ∙ pasted_at code new (window_start o at) (window_size o) h

pub fills_window : (F : Family) (u : Use) (code : List ℕ) (w : Option ℤ) (d d' : ℤ) (from past : ℕ) (new : List ℕ) → Ok d ≡ planned F.fields u (length code) w → d' ≡ d →
    from ≡ window_from (F.fields.table u.kind) u.place (length code) → past ≡ window_past (F.fields.table u.kind) u.place (length code) →
    length new ≡ length (between from past code) → new ≡ after_patch F u.kind (between from past code) d' → put_mid from (past - from) code new ≡ filled F u code w
fills_window F u code w d d' from past new hp hd hf hq hl hn =
    let o = F.fields.table u.kind in
    let at = u.place in
    let n : ℕ = length code in
    let t = planned_ok F.fields u code w d hp in
    let b : between from past code ≡ window_of o at code =
    ap (λ (x : ℕ). between x past code) hf ∙ ap (λ (x : ℕ). between (window_from o at n) x code) hq ∙ window_is o at code in
    let l : length new ≡ window_past o at n - window_from o at n = hl ∙ ap length b ∙ window_length o at code in
    let v : new ≡ after_patch F u.kind (window_of o at code) d =
    hn ∙ ap (λ (x : ℤ). after_patch F u.kind (between from past code) x) hd ∙ ap (λ (x : List ℕ). after_patch F u.kind x d) b in
    ap (λ (x : ℕ). put_mid x (past - x) code new) hf ∙ ap (λ (x : ℕ). put_mid (window_from o at n) (x - window_from o at n) code new) hq
    ∙ placed o at code new l
    ∙ ap (λ (x : List ℕ). write_at (window_start o at) x code) v
    ∙ sym (ap (filled F u code) t.0)
