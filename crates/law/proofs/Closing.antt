-- Closing: patching every use turns the bytes of the items into the bytes of the filled items.
use Rattle.std.proofs.Common.{◌≡◌, ℕ, ◌+◌, ◌-◌, ◌*◌, ◌^◌, ◌<◌, true, List, [], ◌∷◌, ◌++◌, map, length, take, drop, set, ℤ, pos, ◌-ℤ◌, ◌*ℤ◌, Some, None, Ok, Option, Result, sym, refl, ap, ◌∙◌, subst, append_assoc, arith, length-append, length-drop, length-take, take_at, drop_at}
use lib.Seq.{take-length, take-append-add, drop-append-add, take-append-le, drop-append-le}
use Rattle.std.specs.List.{AllByRecursion}
use Rattle.std.proofs.lemmas.Bool.{le-ltb}
use Rattle.refusal.specs.Refusals.{when_some, unless}
use Rattle.field.specs.Family.{field_refused_at}
use Rattle.field.specs.declared.verdict.FieldRefusal.{FieldRefusal}
use Rattle.refusal.specs.declared.Refusal.{Refusal}
use Rattle.form.specs.declared.Form.{Form}
use Rattle.form.specs.declared.instr.Entry.{Entry}
use Rattle.form.specs.Form.{size, kinds, opcode_digits}
use Rattle.form.specs.Encode.{encode, takes, six}
use Rattle.catalogue_law.specs.Catalogue.{Catalogued}
use Rattle.field.specs.Family.{FieldInfo, Family, field_bytes, held_by, refuses, after_patch, Lawful, serves}
use Rattle.law.specs.Inventory.{instrs}
use Rattle.address_law.specs.Items.{Item, with_distance, filled_to, filled, as_placed}
use Rattle.law.specs.Matching.{uses_of, Sound}
use Rattle.catalogue_law.specs.Catalogue.{Laid}
use Rattle.law.specs.Section.{field_kind, use_at}
use Rattle.law.specs.Law.{HoldsAim}
use Rattle.inversion.specs.Inversion.{WrittenIsRead, ReadIsWritten}
use Rattle.catalogue_law.proofs.Basics.{all_drop, T_true, true_T, none_some}
use Rattle.catalogue_law.proofs.Encoding.{encode_bytes, encode_length, size_least}
use Rattle.catalogue_law.proofs.Reading.{Entries, entry, catalogued_among, digits_fit}
use Rattle.law.proofs.Patching.{Branch, branch_is, Spans, Served, served, field_there, PatchedOne, patched_one, serves_align}
use Rattle.form.specs.declared.instr.Instr.{Instr}
use Rattle.form.specs.Instr.{bytes_of, bytes_of_all}
use Rattle.refusal.specs.Numbers.{signed, big_endian}
use Rattle.book.specs.declared.target.Target.{Target}
use Rattle.book.specs.declared.target.Target.TheVariants.{Label as to_label, Symbol as to_symbol}
use Rattle.book.specs.declared.target.Use.{Use}
use Rattle.settle_law.specs.Settle.{write_at, family_for, window_of, window_start, first_of, distance_refused, uses_refusal, patched_to, patched_all, held_at}

past_from : (a n : ℕ) → a + n - a ≡ n
past_from a n = omega arith

-- The family's bytes among the code's.
module _ (i : FieldInfo) (pre b rest : List ℕ) (at : ℕ) (here : length pre ≡ at) (whole : i.lead + i.size ≡ length b) where
  old_length : length (drop i.lead b) ≡ i.size
  old_length = length-drop i.lead b ∙ omega arith

  pub window_there : window_of (Some i) at (pre ++ (b ++ rest)) ≡ drop i.lead b
  window_there =
      ap (λ (n : ℕ). take n (drop (at + i.lead) (pre ++ (b ++ rest)))) (past_from (at + i.lead) i.size)
      ∙ ap (λ (n : ℕ). take i.size (drop (n + i.lead) (pre ++ (b ++ rest)))) (sym here)
      ∙ ap (take i.size) (drop-append-add pre (b ++ rest) i.lead ∙ drop-append-le i.lead b rest (omega arith))
      ∙ take_at (drop i.lead b) rest i.size old_length

  pub write_there : (new : List ℕ) → length new ≡ i.size → write_at (at + i.lead) new (pre ++ (b ++ rest)) ≡ pre ++ ((take i.lead b ++ new) ++ rest)
  write_there new same =
      let front : take (at + i.lead) (pre ++ (b ++ rest)) ≡ pre ++ take i.lead b =
      ap (λ (n : ℕ). take (n + i.lead) (pre ++ (b ++ rest))) (sym here) ∙ take-append-add pre (b ++ rest) i.lead ∙ ap (λ (x : List ℕ). pre ++ x) (take-append-le i.lead b rest (omega arith)) in
      let past : at + i.lead + length new ≡ length pre + length b = omega arith in
      let back : drop (at + i.lead + length new) (pre ++ (b ++ rest)) ≡ rest =
      ap (λ (n : ℕ). drop n (pre ++ (b ++ rest))) past ∙ drop-append-add pre (b ++ rest) (length b) ∙ drop_at b rest (length b) refl in
      rw (front, back, take-length new) (simp append_assoc)

pub window_length : (o : Option FieldInfo) (at : ℕ) (c d : List ℕ) → length c ≡ length d → length (window_of o at c) ≡ length (window_of o at d)
window_length None at c d e = refl
window_length (Some i) at c d e = simp (length-take, length-drop, e)

-- One use.
module _ (reads : ReadIsWritten) (inverts : WrittenIsRead) (F : Family) (lawful : Lawful F) (serving : serves F.fields ≡ true) where
  module _ (f : Form) (br : Branch f) (o : ℕ) (z d : ℤ) (digits : o < 16 ^ length (opcode_digits f)) (kind : takes (kinds f) (six (z ∷ [])) ≡ true) where
    abbrev s : Served F.fields (field_kind f) (size f)
    s = served F.fields serving br

    abbrev k : ℕ
    k = field_kind f

    abbrev b : List ℕ
    b = encode f o (six (z ∷ []))

    abbrev filled_b : List ℕ
    filled_b = encode f o (set (six (z ∷ [])) 1 d)

    whole_b : s.info.lead + s.info.size ≡ length b
    whole_b = s.spans.whole ∙ sym (encode_length f o (six (z ∷ [])))

    pub patched_there : (pre rest : List ℕ) (at : ℕ) → length pre ≡ at
        → refuses F.fields k (length (window_of (F.fields.table k) at (pre ++ (b ++ rest)))) d ≡ None
        → (write_at (window_start (F.fields.table k) at) (after_patch F k (window_of (F.fields.table k) at (pre ++ (b ++ rest))) d) (pre ++ (b ++ rest)) ≡ pre ++ (filled_b ++ rest))
        × (takes (kinds f) (set (six (z ∷ [])) 1 d) ≡ true)
        × (pos 2 *ℤ signed (8 * (size f - 2)) (big_endian 0 (drop 2 filled_b)) ≡ d)
    patched_there pre rest at here ok = (
      ap (λ (t : Option FieldInfo). write_at (window_start t at) (after_patch F k (window_of (F.fields.table k) at code) d) code) s.is
          ∙ ap (λ (x : Option FieldRefusal). write_at (at + s.info.lead) (unless x (F.patched k (window_of (F.fields.table k) at code) d) (window_of (F.fields.table k) at code)) code) ok
          ∙ ap (λ (w : List ℕ). write_at (at + s.info.lead) (F.patched k w d) code) window
          ∙ write_there s.info pre b rest at here whole_b (F.patched k (drop s.info.lead b) d) same
          ∙ ap (λ (x : List ℕ). pre ++ (x ++ rest)) one.bytes,
      one.in_kind,
      ap (λ (x : List ℕ). pos 2 *ℤ signed (8 * (size f - 2)) (big_endian 0 (drop 2 x))) (sym one.bytes) ∙ one.held,
    )
      where
        code : List ℕ
        code = pre ++ (b ++ rest)

        window : window_of (F.fields.table k) at code ≡ drop s.info.lead b
        window = ap (λ (t : Option FieldInfo). window_of t at code) s.is ∙ window_there s.info pre b rest at here whole_b

        ok' : refuses F.fields k (length (drop s.info.lead b)) d ≡ None
        ok' = subst (λ (w : List ℕ). refuses F.fields k (length w) d ≡ None) window ok

        one : PatchedOne f o z d (take s.info.lead b ++ F.patched k (drop s.info.lead b) d)
        one = patched_one reads inverts F lawful serving br o z d digits kind s ok'

        same : length (F.patched k (drop s.info.lead b) d) ≡ s.info.size
        same = (lawful.patches k s.info (drop s.info.lead b) d (all_drop (λ x. x < 256) s.info.lead b (encode_bytes f o (six (z ∷ [])))) s.is ok').same_length ∙ length-drop s.info.lead b ∙ let x = whole_b in omega arith

  -- the family reads the distance there
  pub held_there : {f : Form} (br : Branch f) (pre b rest : List ℕ) (at : ℕ) (d : ℤ) → length pre ≡ at → length b ≡ size f → pos 2 *ℤ signed (8 * (size f - 2)) (big_endian 0 (drop 2 b)) ≡ d
      → held_at F.fields (field_kind f) at (pre ++ (b ++ rest)) ≡ Ok d
  held_there {f} br pre b rest at d here len h =
      ap (λ (t : Option FieldInfo). held_by F.fields.align t (window_of t at (pre ++ (b ++ rest)))) v.is
      ∙ ap (λ (w : List ℕ). held_by F.fields.align (Some i) w) (window_there i pre b rest at here (v.spans.whole ∙ sym len))
      ∙ ap (λ (n : ℕ). held_by n (Some i) (drop i.lead b)) (serves_align F.fields serving)
      ∙ rw (le-ltb (length (drop i.lead b)) i.size (simp length-drop (let x = v.spans.whole in omega arith)))
      (ap {B = Result ℤ FieldRefusal} (λ y. Ok y)
      (ap (λ (n : ℕ). pos 2 *ℤ signed (8 * n) (big_endian 0 (field_bytes i (drop i.lead b)))) (let x = v.spans.from in let y = v.spans.to in width x y)
      ∙ ap (λ (x : List ℕ). pos 2 *ℤ signed (8 * (size f - 2)) (big_endian 0 x)) (field_there i b (subst (Spans i) (sym len) v.spans) (let g = size_least f in omega arith))
      ∙ h))
    where
      v : Served F.fields (field_kind f) (size f)
      v = served F.fields serving br

      i : FieldInfo
      i = v.info

      width : i.lead + i.first ≡ 2 → i.lead + i.past ≡ size f → i.past - i.first ≡ size f - 2
      width x y = omega arith

-- All uses.

refused_none : (say : FieldRefusal → Refusal) (o : Option FieldRefusal) → when_some say o ≡ None → o ≡ None
refused_none say None h = refl
refused_none say (Some r) h = absurd (none_some h refl)

first_none : {X : Type 0} (o q : Option X) → first_of o q ≡ None → (o ≡ None) × (q ≡ None)
first_none None q h = (refl, h)
first_none (Some x) q h = absurd (none_some h refl)

regroup : (pre b bs post : List ℕ) → pre ++ ((b ++ bs) ++ post) ≡ (pre ++ b) ++ (bs ++ post)
regroup pre b bs post = simp append_assoc

longer : (pre b : List ℕ) (at n : ℕ) → length pre ≡ at → length b ≡ n → length (pre ++ b) ≡ at + n
longer pre b at n h k = length-append pre b ∙ omega arith

as_long : (pre b c bs post : List ℕ) → length b ≡ length c → length (pre ++ ((b ++ bs) ++ post)) ≡ length ((pre ++ c) ++ (bs ++ post))
as_long pre b c bs post h = simp length-append (omega arith)

-- the distance that an aimed instruction holds
abbrev pub Distance : Instr → ℤ → Type 0
Distance i d = pos 2 *ℤ signed (8 * (size i.form - 2)) (big_endian 0 (drop 2 (bytes_of i))) ≡ d

abbrev pub Held : (Target → Option ℤ) → Item → Option Target → Type 0
Held where_is it None = Unit {0}
Held where_is it (Some t) = Branch it.instr.form × ((p : ℤ) × (where_is t ≡ Some p) × Distance it.instr (p -ℤ pos it.place))

record Step (L S : Family) (where_is : Target → Option ℤ) (es : List Entry) (pre rest : List ℕ) (at : ℕ) (t : Target) (i : Instr) : Type 0 where
  p : ℤ
  found : where_is t ≡ Some p
  code : patched_to (family_for L S t) (record { place = at; kind = field_kind i.form; target = t }) (pre ++ (bytes_of i ++ rest)) (where_is t) ≡ pre ++ (bytes_of (with_distance i (p -ℤ pos at)) ++ rest)
  sound : Catalogued es (with_distance i (p -ℤ pos at))
  distance : Distance (with_distance i (p -ℤ pos at)) (p -ℤ pos at)

pub record Closed (L S : Family) (where_is : Target → Option ℤ) (es : List Entry) (pre post : List ℕ) (at : ℕ) (its : List Item) : Type 0 where
  pub code : patched_all L S where_is (pre ++ (bytes_of_all (instrs its) ++ post)) (uses_of its) ≡ pre ++ (bytes_of_all (instrs (map (filled where_is) its)) ++ post)
  pub sound : AllByRecursion (λ it. Catalogued es it.instr) (map (filled where_is) its)
  pub holds : AllByRecursion (λ it. Held where_is it it.aim) (map (filled where_is) its)
  pub laid : Laid at (map as_placed (map (filled where_is) its))

module _ (reads : ReadIsWritten) (inverts : WrittenIsRead) (L S : Family) (law_L : Lawful L) (law_S : Lawful S) (serves_L : serves L.fields ≡ true) (serves_S : serves S.fields ≡ true) (where_is : Target → Option ℤ) where
  law_for : (t : Target) → Lawful (family_for L S t)
  law_for (to_label l) = law_L
  law_for (to_symbol n offset) = law_S

  serves_for : (t : Target) → serves (family_for L S t).fields ≡ true
  serves_for (to_label l) = serves_L
  serves_for (to_symbol n offset) = serves_S

  module _ (es : List Entry) (told : Entries es) where
    step_of : (pre rest : List ℕ) (at : ℕ) (t : Target) (f : Form) (o : ℕ) (z : ℤ) → Branch f → Catalogued es (record { form = f; opcode = o; operands = six (z ∷ []) }) → length pre ≡ at
        → (w : Option ℤ) → where_is t ≡ w
        → distance_refused (family_for L S t).fields (record { place = at; kind = field_kind f; target = t }) (pre ++ (encode f o (six (z ∷ [])) ++ rest)) w ≡ None
        → Step L S where_is es pre rest at t (record { form = f; opcode = o; operands = six (z ∷ []) })
    step_of pre rest at t f o z br c here None w h = absurd (none_some h refl)
    step_of pre rest at t f o z br c here (Some p) w h =
        let a = digits_fit f o (told.fit (entry f o) (catalogued_among es f o (T_true c.entry))) in
        let ok = refused_none (field_refused_at at) (refuses (family_for L S t).fields (field_kind f) (length (window_of ((family_for L S t).fields.table (field_kind f)) at (pre ++ (encode f o (six (z ∷ [])) ++ rest)))) (p -ℤ pos at)) h in
        let done = patched_there reads inverts (family_for L S t) (law_for t) (serves_for t) f br o z (p -ℤ pos at) a (T_true c.in_kind) pre rest at here ok in
        record {
          p = p;
          found = w;
          code = ap (patched_to (family_for L S t) (record { place = at; kind = field_kind f; target = t }) (pre ++ (encode f o (six (z ∷ [])) ++ rest))) w ∙ done.0;
          sound = record { entry = c.entry; six_operands = refl; in_kind = true_T done.1 };
          distance = done.2;
        }

    -- for any instruction that is aimed, and code of this length that was checked
    step : (pre rest code0 : List ℕ) (at : ℕ) (t : Target) (i : Instr) → Sound es i (Some t) → length pre ≡ at → length code0 ≡ length (pre ++ (bytes_of i ++ rest))
        → distance_refused (family_for L S t).fields (record { place = at; kind = field_kind i.form; target = t }) code0 (where_is t) ≡ None
        → Step L S where_is es pre rest at t i
    step pre rest code0 at t i c here len h =
        let z = c.aimed.1.0 in
        let e : i.operands ≡ six (z ∷ []) = c.aimed.1.1 in
        let j : Instr = record { form = i.form; opcode = i.opcode; operands = six (z ∷ []) } in
        let q : i ≡ j = λ k. record { form = i.form; opcode = i.opcode; operands = e k } in
        subst (λ (x : Instr). Step L S where_is es pre rest at t x) (sym q)
        (step_of pre rest at t i.form i.opcode z (branch_is i.form c.aimed.0) (subst (Catalogued es) q c.catalogued) here (where_is t) refl
        (other_code code0 (pre ++ (bytes_of j ++ rest)) (where_is t) (len ∙ ap (λ (x : Instr). length (pre ++ (bytes_of x ++ rest))) q) h))
      where
        other_code : (c d : List ℕ) (w : Option ℤ) → length c ≡ length d
            → distance_refused (family_for L S t).fields (record { place = at; kind = field_kind i.form; target = t }) c w ≡ None
            → distance_refused (family_for L S t).fields (record { place = at; kind = field_kind i.form; target = t }) d w ≡ None
        other_code c d None e h = absurd (none_some h refl)
        other_code c d (Some p) e h =
            subst (λ (n : ℕ). when_some (field_refused_at at) (refuses (family_for L S t).fields (field_kind i.form) n (p -ℤ pos at)) ≡ None)
            (window_length ((family_for L S t).fields.table (field_kind i.form)) at c d e) h

    -- an item that is not aimed, before others
    close_plain : (pre post : List ℕ) (at place : ℕ) (i : Instr) (its : List Item) → Catalogued es i → place ≡ at
        → Closed L S where_is es (pre ++ bytes_of i) post (at + size i.form) its → Closed L S where_is es pre post at (record { place = place; instr = i; aim = None } ∷ its)
    close_plain pre post at place i its c l k =
        record {
          code =
              ap (λ (x : List ℕ). patched_all L S where_is x (uses_of its)) (regroup pre (bytes_of i) (bytes_of_all (instrs its)) post)
              ∙ k.code ∙ sym (regroup pre (bytes_of i) (bytes_of_all (instrs (map (filled where_is) its))) post);
          sound = (c, k.sound);
          holds = (tt, k.holds);
          laid = (l, k.laid);
        }

    close_aimed : (pre post : List ℕ) (at place : ℕ) (t : Target) (i : Instr) (its : List Item) → place ≡ at → Branch i.form
        → (s : Step L S where_is es pre (bytes_of_all (instrs its) ++ post) place t i)
        → Closed L S where_is es (pre ++ bytes_of (with_distance i (s.p -ℤ pos place))) post (at + size i.form) its
        → Closed L S where_is es pre post at (record { place = place; instr = i; aim = Some t } ∷ its)
    close_aimed pre post at place t i its l br st c =
        record {
          code =
              ap (λ (x : List ℕ). patched_all L S where_is (patched_to (family_for L S t) u (pre ++ x) (where_is t)) (uses_of its)) (append_assoc (bytes_of i) (bytes_of_all (instrs its)) post)
              ∙ ap (λ (x : List ℕ). patched_all L S where_is x (uses_of its)) (st.code ∙ sym (append_assoc pre (bytes_of (with_distance i d)) (bytes_of_all (instrs its) ++ post)))
              ∙ c.code
              ∙ sym (regroup pre (bytes_of (with_distance i d)) (bytes_of_all (instrs (map (filled where_is) its))) post)
              ∙ ap (λ (x : Item). pre ++ ((bytes_of x.instr ++ bytes_of_all (instrs (map (filled where_is) its))) ++ post)) (sym full);
          sound = (subst (λ (x : Item). Catalogued es x.instr) (sym full) st.sound, c.sound);
          holds = (subst (λ (x : Item). Held where_is x x.aim) (sym full) (br, (st.p, st.found, st.distance)), c.holds);
          laid = (subst (λ (x : Item). Laid at (as_placed x ∷ map as_placed (map (filled where_is) its))) (sym full) (l, c.laid));
        }
      where
        u : Use
        u = record { place = place; kind = field_kind i.form; target = t }

        d : ℤ
        d = st.p -ℤ pos place

        full : filled where_is (record { place = place; instr = i; aim = Some t }) ≡ record { place = place; instr = with_distance i d; aim = Some t }
        full = ap (filled_to (record { place = place; instr = i; aim = Some t })) st.found

    close_one : (pre post code0 : List ℕ) (at place : ℕ) (i : Instr) (aim : Option Target) (its : List Item) → length pre ≡ at → place ≡ at → Sound es i aim
        → length code0 ≡ length (pre ++ ((bytes_of i ++ bytes_of_all (instrs its)) ++ post))
        → uses_refusal L S where_is code0 (use_at place i.form aim ++ uses_of its) ≡ None
        → ((front : List ℕ) → length front ≡ at + size i.form → length code0 ≡ length (front ++ (bytes_of_all (instrs its) ++ post)) → uses_refusal L S where_is code0 (uses_of its) ≡ None → Closed L S where_is es front post (at + size i.form) its)
        → Closed L S where_is es pre post at (record { place = place; instr = i; aim = aim } ∷ its)
    close_one pre post code0 at place i None its here l c len h go =
        let n = encode_length i.form i.opcode i.operands in
        close_plain pre post at place i its c.catalogued l
        (go (pre ++ bytes_of i) (longer pre (bytes_of i) at (size i.form) here n) (len ∙ as_long pre (bytes_of i) (bytes_of i) (bytes_of_all (instrs its)) post refl) h)
    close_one pre post code0 at place i (Some t) its here l c len h go =
        let ok = first_none (distance_refused (family_for L S t).fields (record { place = place; kind = field_kind i.form; target = t }) code0 (where_is t)) (uses_refusal L S where_is code0 (uses_of its)) h in
        let st = step pre (bytes_of_all (instrs its) ++ post) code0 place t i c (here ∙ sym l) (len ∙ ap (λ (x : List ℕ). length (pre ++ x)) (append_assoc (bytes_of i) (bytes_of_all (instrs its)) post)) ok.0 in
        let j = with_distance i (st.p -ℤ pos place) in
        let n = encode_length i.form i.opcode i.operands in
        let m = encode_length j.form j.opcode j.operands in
        close_aimed pre post at place t i its l (branch_is i.form c.aimed.0) st
        (go (pre ++ bytes_of j) (longer pre (bytes_of j) at (size i.form) here m) (len ∙ as_long pre (bytes_of i) (bytes_of j) (bytes_of_all (instrs its)) post (n ∙ sym m)) ok.1)

    pub closed : (pre post code0 : List ℕ) (at : ℕ) (its : List Item) → length pre ≡ at → Laid at (map as_placed its) → AllByRecursion (λ it. Sound es it.instr it.aim) its
        → length code0 ≡ length (pre ++ (bytes_of_all (instrs its) ++ post)) → uses_refusal L S where_is code0 (uses_of its) ≡ None → Closed L S where_is es pre post at its
    closed pre post code0 at [] here l c len h = record { code = refl; sound = tt; holds = tt; laid = tt }
    closed pre post code0 at (it ∷ its) here l c len h =
        close_one pre post code0 at it.place it.instr it.aim its here l.0 c.0 len h
        (λ front here' len' h'. closed front post code0 (at + size it.instr.form) its here' l.1 c.1 len' h')

  -- the families read the distances in the finished code
  holds_one : (pre rest : List ℕ) (it : Item) (aim : Option Target) → length pre ≡ it.place → Held where_is it aim → HoldsAim L S where_is (pre ++ (bytes_of it.instr ++ rest)) it aim
  holds_one pre rest it None here h = tt
  holds_one pre rest it (Some t) here h =
      (h.1.0, h.1.1, held_there reads inverts (family_for L S t) (law_for t) (serves_for t) h.0 pre (bytes_of it.instr) rest it.place (h.1.0 -ℤ pos it.place) here (encode_length it.instr.form it.instr.opcode it.instr.operands) h.1.2)

  pub holds_all : (pre code : List ℕ) (at : ℕ) (its : List Item) → length pre ≡ at → code ≡ pre ++ bytes_of_all (instrs its) → Laid at (map as_placed its)
      → AllByRecursion (λ it. Held where_is it it.aim) its → AllByRecursion (λ it. HoldsAim L S where_is code it it.aim) its
  holds_all pre code at [] here e l h = tt
  holds_all pre code at (it ∷ its) here e l h = (
    subst (λ (x : List ℕ). HoldsAim L S where_is x it it.aim) (sym e) (holds_one pre (bytes_of_all (instrs its)) it it.aim (here ∙ sym l.0) h.0),
    holds_all (pre ++ bytes_of it.instr) code (at + size it.instr.form) its (longer pre (bytes_of it.instr) at (size it.instr.form) here (encode_length it.instr.form it.instr.opcode it.instr.operands))
        (e ∙ sym (append_assoc pre (bytes_of it.instr) (bytes_of_all (instrs its)))) l.1 h.1,
  )
