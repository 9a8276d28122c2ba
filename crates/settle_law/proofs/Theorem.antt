-- Settling, by the families' laws.
use Rattle.std.proofs.Common.{◌≡◌, ℕ, ◌+◌, ◌-◌, ◌*◌, ◌<◌, ◌≤◌, min, false, cond, ltb, ◌⊎◌, List, [], ◌∷◌, ◌++◌, length, get_or, take, drop, ℤ, pos, ◌-ℤ◌, ◌*ℤ◌, Some, None, Ok, Err, Option, sym, refl, ap, ◌∙◌, subst, inl, inr, ⊎_elim, arith}
use Rattle.std.specs.List.{AllByRecursion}
use Rattle.std.proofs.ByRecursion.{All-append, All-take, All-drop}
use Rattle.std.proofs.lemmas.Bool.{le-ltb}
use Rattle.refusal.specs.declared.Refusal.{Refusal}
use Rattle.refusal.specs.Refusals.{Answer, answered, when_some, unless}
use Rattle.refusal.specs.Numbers.{big_endian, signed}
use Rattle.field.specs.declared.verdict.FieldRefusal.{FieldRefusal}
use Rattle.field.specs.declared.verdict.FieldRefusal.TheVariants.{Kind}
use Rattle.field.specs.Family.{FieldInfo, Fields, Family, Lawful, Patches, field_refused_at, held_by, field_bytes, field_value, refuses, refuses_by}
use Rattle.field.proofs.Laws.{accepted, never_none, same_some}
use Rattle.book.specs.declared.target.Target.{Target}
use Rattle.book.specs.declared.target.Target.TheVariants.{Label as to_label, Symbol as to_symbol}
use Rattle.book.specs.declared.target.Slot.{Slot}
use Rattle.book.specs.declared.target.Use.{Use}
use Rattle.book.specs.Labels.{place_of}
use Rattle.settle_law.specs.Settle.{family_for, held_at, window_of, window_start, write_at, first_of, distance_refused, uses_refusal, patched_to, patched_all}
use Rattle.settle_law.specs.Settled.{Bytes, info_of, field_from, field_past, Outside, Apart, Zero, Holds, Settled, Settles}
use Rattle.settle_law.proofs.Splices.{Spliced, spliced, kept, same_field, between_length}

-- Refusals.

unsaid : (say : FieldRefusal → Refusal) (o : Option FieldRefusal) → when_some say o ≡ None → o ≡ None
unsaid say None h = refl
unsaid say (Some r) h = never_none (say r) h

none_of : (o p : Option Refusal) → first_of o p ≡ None → (o ≡ None) × (p ≡ None)
none_of None p h = (refl, h)
none_of (Some e) p h = never_none e h

has_place : (F : Fields) (u : Use) (code : List ℕ) (w : Option ℤ) → distance_refused F u code w ≡ None → (p : ℤ) × (w ≡ Some p)
has_place F u code (Some p) h = (p, refl)
has_place F u code None h = never_none _ h

has_info : (a n : ℕ) (d : ℤ) (o : Option FieldInfo) → refuses_by a o n d ≡ None → (i : FieldInfo) × (o ≡ Some i)
has_info a n d (Some i) h = (i, refl)
has_info a n d None h = never_none Kind h

-- a check looks at the code's length alone

pub same_window : (o : Option FieldInfo) (at : ℕ) (xs ys : List ℕ) → length xs ≡ length ys → length (window_of o at xs) ≡ length (window_of o at ys)
same_window None at xs ys h = refl
same_window (Some i) at xs ys h =
    let s : ℕ = at + i.lead in
    between_length s i.size xs ∙ ap (λ (n : ℕ). min i.size (n - s)) h ∙ sym (between_length s i.size ys)

same_refused : (F : Fields) (u : Use) (xs ys : List ℕ) (w : Option ℤ) → length xs ≡ length ys → distance_refused F u xs w ≡ distance_refused F u ys w
same_refused F u xs ys None h = refl
same_refused F u xs ys (Some p) h =
    ap (λ (n : ℕ). when_some (field_refused_at u.place) (refuses F u.kind n (p -ℤ pos u.place))) (same_window (F.table u.kind) u.place xs ys h)

pub same_refusals : (L S : Family) (where_is : Target → Option ℤ) (us : List Use) (xs ys : List ℕ) → length xs ≡ length ys → uses_refusal L S where_is xs us ≡ uses_refusal L S where_is ys us
same_refusals L S where_is [] xs ys h = refl
same_refusals L S where_is (u ∷ us) xs ys h =
    ap (λ (o : Option Refusal). first_of o (uses_refusal L S where_is xs us)) (same_refused (family_for L S u.target).fields u xs ys (where_is u.target) h)
    ∙ ap (first_of (distance_refused (family_for L S u.target).fields u ys (where_is u.target))) (same_refusals L S where_is us xs ys h)

-- One patch.

record One (F : Family) (u : Use) (i : FieldInfo) (d : ℤ) (old new : List ℕ) : Type 0 where
  same : length new ≡ length old
  bytes : Bytes new
  outside : (k : ℕ) → (k < field_from i u) ⊎ (field_past i u ≤ k) → get_or new k 0 ≡ get_or old k 0
  holds : big_endian 0 (field_bytes i (window_of (Some i) u.place old)) ≡ 0 → pos F.fields.align *ℤ field_value i (window_of (Some i) u.place new) ≡ d
  enough : i.size ≤ length (window_of (Some i) u.place old)

one : (F : Family) → Lawful F → (u : Use) (i : FieldInfo) (p : ℤ) (code : List ℕ) → Bytes code → F.fields.table u.kind ≡ Some i
    → refuses F.fields u.kind (length (window_of (F.fields.table u.kind) u.place code)) (p -ℤ pos u.place) ≡ None → One F u i (p -ℤ pos u.place) code (patched_to F u code (Some p))
one F law u i p code b t r₀ =
    let k = u.kind in
    let at = u.place in
    let d : ℤ = p -ℤ pos at in
    let s : ℕ = at + i.lead in
    let win : List ℕ = window_of (Some i) at code in
    let r : refuses F.fields k (length win) d ≡ None = subst (λ (q : Option FieldInfo). refuses F.fields k (length (window_of q at code)) d ≡ None) t r₀ in
    let r' : refuses_by F.fields.align (Some i) (length win) d ≡ None = subst (λ (q : Option FieldInfo). refuses_by F.fields.align q (length win) d ≡ None) t r in
    let bw : Bytes win = All-take (λ b. b < 256) (s + i.size - s) (drop s code) (All-drop (λ b. b < 256) s code b) in
    let part : List ℕ = F.patched k win d in
    let P : Patches F.fields.align i d win part = law.patches k i win d bw t r in
    let enough : i.size ≤ length win = (accepted F.fields.align i (length win) d r').enough in
    let e : patched_to F u code (Some p) ≡ write_at s part code =
    ap (λ (q : Option FieldInfo). write_at (window_start q at) (unless (refuses F.fields k (length (window_of q at code)) d) (F.patched k (window_of q at code) d) (window_of q at code)) code) t
    ∙ ap (λ (z : Option FieldRefusal). write_at s (unless z part win) code) r in
    let sp : Spliced s i.size code (write_at s part code) part = spliced s i.size code part enough P.same_length in
    subst (λ (z : List ℕ). One F u i d code z) (sym e)
    (record {
      same = sp.same;
      bytes =
          All-append (λ b. b < 256) (take s code ++ take (length part) part) (drop (s + length part) code)
          (All-append (λ b. b < 256) (take s code) (take (length part) part) (All-take (λ b. b < 256) s code b) (All-take (λ b. b < 256) (length part) part P.bytes))
          (All-drop (λ b. b < 256) (s + length part) code b);
      outside = kept s i.size code (write_at s part code) part sp i.first i.past P.before P.after;
      holds = λ z. ap (λ (w : List ℕ). pos F.fields.align *ℤ field_value i w) sp.inside ∙ P.holds z;
      enough = enough;
    })

not_short : {X : Type 0} (n m : ℕ) (x y : X) → m ≤ n → cond (ltb n m) x y ≡ y
not_short n m x y h = let b : ltb n m ≡ false = le-ltb n m h in rw b

-- All of them.

head_is : {X : Type 0} {x y : X} {xs ys : List X} → x ∷ xs ≡ y ∷ ys → x ≡ y
head_is h = cc

tail_is : {X : Type 0} {x y : X} {xs ys : List X} → x ∷ xs ≡ y ∷ ys → xs ≡ ys
tail_is h = cc

module _ (L S : Family) (l : Lawful L) (m : Lawful S) (where_is : Target → Option ℤ) where
  lawful_for : (t : Target) → Lawful (family_for L S t)
  lawful_for (to_label n) = l
  lawful_for (to_symbol n offset) = m

  in_window : (u : Use) (i : FieldInfo) → info_of L S u ≡ Some i → i.past ≤ i.size
  in_window u i t = ((lawful_for u.target).reads.shaped u.kind i t).inside

  -- codes that agree on a use's field
  agreeing : (u : Use) (i : FieldInfo) (new old : List ℕ) → info_of L S u ≡ Some i → length new ≡ length old
      → ((k : ℕ) → field_from i u ≤ k → k < field_past i u → get_or new k 0 ≡ get_or old k 0) → field_bytes i (window_of (Some i) u.place new) ≡ field_bytes i (window_of (Some i) u.place old)
  agreeing u i new old t h agree = same_field (u.place + i.lead) i.size i.first i.past new old h (in_window u i t) agree

  outsides : (u : Use) (i : FieldInfo) → info_of L S u ≡ Some i → (k : ℕ) → field_from i u ≤ k → k < field_past i u → (vs : List Use) → AllByRecursion (Apart L S u) vs → AllByRecursion (Outside L S k) vs
  outsides u i t k lo hi [] a = tt
  outsides u i t k lo hi (v ∷ vs) a = (
    (λ j tj. ⊎_elim (λ (p : field_past i u ≤ field_from j v). inl (omega arith)) (λ (p : field_past j v ≤ field_from i u). inr (omega arith)) (a.0 i j t tj)),
    outsides u i t k lo hi vs a.1,
  )

  held_here : (u : Use) (i : FieldInfo) (d : ℤ) (code new : List ℕ) → info_of L S u ≡ Some i → i.size ≤ length (window_of (Some i) u.place code) → length new ≡ length code
      → pos (family_for L S u.target).fields.align *ℤ field_value i (window_of (Some i) u.place new) ≡ d
      → held_at (family_for L S u.target).fields u.kind u.place new ≡ Ok d
  held_here u i d code new t e h v =
      let F = family_for L S u.target in
      let w : length (window_of (Some i) u.place new) ≡ length (window_of (Some i) u.place code) = same_window (Some i) u.place new code h in
      ap (λ (q : Option FieldInfo). held_by F.fields.align q (window_of q u.place new)) t
      ∙ not_short (length (window_of (Some i) u.place new)) i.size (Err Kind) (Ok (pos F.fields.align *ℤ field_value i (window_of (Some i) u.place new))) (omega arith)
      ∙ ap Ok v

  -- the first use is patched, and the others after it
  module _ (u : Use) (us : List Use) (i : FieldInfo) (p : ℤ) (code mid new : List ℕ) (ti : info_of L S u ≡ Some i) (found : where_is u.target ≡ Some p)
      (o : One (family_for L S u.target) u i (p -ℤ pos u.place) code mid) (rest : Settled L S where_is us mid new) where
    holds_first : (v : Use) → u ≡ v → AllByRecursion (Apart L S v) us → Zero L S code v → Holds L S where_is new v
    holds_first v e a z =
        subst (Holds L S where_is new) e
        (λ p' e'.
        let x : p ≡ p' = same_some (sym found ∙ e') in
        let f : field_bytes i (window_of (Some i) u.place new) ≡ field_bytes i (window_of (Some i) u.place mid) =
        agreeing u i new mid ti rest.same_length (λ k lo hi. rest.untouched k (outsides u i ti k lo hi us (subst (λ (w : Use). AllByRecursion (Apart L S w) us) (sym e) a))) in
        let F = family_for L S u.target in
        held_here u i (p' -ℤ pos u.place) code new ti o.enough (rest.same_length ∙ o.same)
        (ap (λ (w : List ℕ). pos F.fields.align *ℤ signed (8 * (i.past - i.first)) (big_endian 0 w)) f
        ∙ o.holds (subst (Zero L S code) (sym e) z i ti) ∙ ap (λ (y : ℤ). y -ℤ pos u.place) x))

    still_zero : (v : Use) → Apart L S v u → Zero L S code v → Zero L S mid v
    still_zero v a z j tj =
        ap (big_endian 0)
        (agreeing v j mid code tj o.same
        (λ k lo hi. o.outside k (⊎_elim (λ (q : field_past j v ≤ field_from i u). inl (omega arith)) (λ (q : field_past i u ≤ field_from j v). inr (omega arith)) (a j i tj ti))))
        ∙ z j tj

    holds_one : (before after : List Use) (v : Use) → u ∷ us ≡ before ++ v ∷ after → AllByRecursion (Apart L S v) before → AllByRecursion (Apart L S v) after → Zero L S code v → Holds L S where_is new v
    holds_one [] after v e b a z = holds_first v (head_is e) (subst (AllByRecursion (Apart L S v)) (sym (tail_is e)) a) z
    holds_one (w ∷ before) after v e b a z = rest.holds before after v (tail_is e) b.1 a (still_zero v (subst (Apart L S v) (sym (head_is e)) b.0) z)

    settled_more : Settled L S where_is (u ∷ us) code new
    settled_more =
        record {
          same_length = rest.same_length ∙ o.same;
          bytes = rest.bytes;
          untouched = λ k a. rest.untouched k a.1 ∙ o.outside k (a.0 i ti);
          holds = holds_one;
        }

  none_left : (before after : List Use) (u : Use) (P : Type 0) → ◌≡◌ {A = List Use} [] (before ++ u ∷ after) → P
  none_left [] after u P h = let z : ◌≡◌ {A = ℕ} 0 1 = cc in absurd (omega arith)
  none_left (w ∷ before) after u P h = let z : ◌≡◌ {A = ℕ} 0 1 = cc in absurd (omega arith)

  pub settled : (us : List Use) (code : List ℕ) → Bytes code → uses_refusal L S where_is code us ≡ None → Settled L S where_is us code (patched_all L S where_is code us)
  settled [] code b h = record { same_length = refl; bytes = b; untouched = λ k o. refl; holds = λ before after u e x y z. none_left before after u (Holds L S where_is code u) e }
  settled (u ∷ us) code b h =
      let F = family_for L S u.target in
      let t = none_of (distance_refused F.fields u code (where_is u.target)) (uses_refusal L S where_is code us) h in
      let found = has_place F.fields u code (where_is u.target) t.0 in
      let p : ℤ = found.0 in
      let r : distance_refused F.fields u code (Some p) ≡ None = subst (λ (w : Option ℤ). distance_refused F.fields u code w ≡ None) found.1 t.0 in
      let n : ℕ = length (window_of (F.fields.table u.kind) u.place code) in
      let ok : refuses F.fields u.kind n (p -ℤ pos u.place) ≡ None = unsaid (field_refused_at u.place) (refuses F.fields u.kind n (p -ℤ pos u.place)) r in
      let info = has_info F.fields.align n (p -ℤ pos u.place) (F.fields.table u.kind) ok in
      let mid : List ℕ = patched_to F u code (where_is u.target) in
      let o : One F u info.0 (p -ℤ pos u.place) code mid =
      subst (λ (w : Option ℤ). One F u info.0 (p -ℤ pos u.place) code (patched_to F u code w)) (sym found.1) (one F (lawful_for u.target) u info.0 p code b info.1 ok) in
      settled_more u us info.0 p code mid (patched_all L S where_is mid us) info.1 found.1 o
      (settled us mid o.bytes (same_refusals L S where_is us mid code o.same ∙ t.1))

-- What a check that passed, and then filling, come to.

passed_none : (o : Option Refusal) → ◌≡◌ {A = Answer} (Ok tt) (answered o tt) → o ≡ None
passed_none None h = refl
passed_none (Some e) h = let z : ◌≡◌ {A = ℕ} 0 1 = cc in absurd (omega arith)

pub settles : (L S : Family) → Lawful L → Lawful S → (labels : List Slot) (symbols : List ℤ) (us : List Use) (code new : List ℕ) → Bytes code
    → ◌≡◌ {A = Answer} (Ok tt) (answered (uses_refusal L S (place_of labels symbols) code us) tt) → new ≡ patched_all L S (place_of labels symbols) code us → Settles L S labels symbols us code (Ok tt) new
settles L S l m labels symbols us code new b passed done =
    let where_is : Target → Option ℤ = place_of labels symbols in
    let none : uses_refusal L S where_is code us ≡ None = passed_none (uses_refusal L S where_is code us) passed in
    record {
      answers = passed;
      leaves = done ∙ ap (λ (o : Option Refusal). unless o (patched_all L S where_is code us) code) (sym none);
      fills = λ _. subst (Settled L S where_is us code) (sym done) (settled L S l m where_is us code b none);
    }
