-- Patching one instruction: the zero field of a branch becomes the distance, and the instruction is the one with that distance.
use Rattle.std.proofs.Common.{◌≡◌, ℕ, ◌+◌, ◌-◌, ◌*◌, ◌^◌, ◌<◌, ◌≤◌, true, false, ◌&&◌, eqb, ◌⊎◌, List, [], ◌∷◌, ◌++◌, length, take, drop, set, ℤ, pos, ◌*ℤ◌, neg_ℤ, Some, None, Option, sym, refl, ap, ◌∙◌, subst, inl, inr, arith, length-append, length-drop, take-append-drop, length-take-le, take_all, drop-drop, take-add}
use lib.Signed.{le_z}
use lib.Seq.{take-append-add, drop-append-add}
use Rattle.std.specs.List.{AllByRecursion}
use Rattle.std.proofs.lemmas.Bool.{and_parts, or_cases, eqb-true}
use Rattle.form.specs.declared.Form.{Form}
use Rattle.form.specs.declared.Form.TheVariants.{RiB, RiC, RilB, RilC}
use Rattle.form.specs.Form.{row, size, kinds, same_form, opcode_digits}
use Rattle.form.specs.Encode.{encode, opcode_of, operands_of, clean, takes, six, nibbles, field_of}
use Rattle.refusal.specs.Tests.{any}
use Rattle.field.specs.Family.{FieldInfo, Fields, Family, field_bytes, field_value, refuses, Patches, Lawful, spans, serves}
use Rattle.law.specs.Section.{field_kind, branches}
use Rattle.catalogue_law.proofs.Basics.{all_take, all_drop, differ, all_append}
use Rattle.catalogue_law.proofs.Encoding.{encode_bytes, encode_length, same_form_is}
use Rattle.inversion.specs.Inversion.{WrittenIsRead, ReadIsWritten}
use Rattle.refusal.specs.Numbers.{signed, big_endian}

-- The four forms with a distance.

pub data Branch : Form → Type 0 where
  ri_b : Branch RiB
  ri_c : Branch RiC
  ril_b : Branch RilB
  ril_c : Branch RilC

pub branch_is : (f : Form) → branches f ≡ true → Branch f
branch_is f h = go (or_cases (same_form f RiB) (any (same_form f) (RiC ∷ RilB ∷ RilC ∷ [])) h)
  where
    at : (g : Form) → Branch g → same_form f g ≡ true → Branch f
    at g b e = subst Branch (sym (same_form_is f g e)) b

    go : (same_form f RiB ≡ true) ⊎ (any (same_form f) (RiC ∷ RilB ∷ RilC ∷ []) ≡ true) → Branch f
    go (inl e) = at RiB ri_b e
    go (inr k) = go2 (or_cases (same_form f RiC) (any (same_form f) (RilB ∷ RilC ∷ [])) k)
      where
        go2 : (same_form f RiC ≡ true) ⊎ (any (same_form f) (RilB ∷ RilC ∷ []) ≡ true) → Branch f
        go2 (inl e) = at RiC ri_c e
        go2 (inr k) = go3 (or_cases (same_form f RilB) (any (same_form f) (RilC ∷ [])) k)
          where
            go3 : (same_form f RilB ≡ true) ⊎ (any (same_form f) (RilC ∷ []) ≡ true) → Branch f
            go3 (inl e) = at RilB ril_b e
            go3 (inr k) = go4 (or_cases (same_form f RilC) false k)
              where
                go4 : (same_form f RilC ≡ true) ⊎ (false ≡ true) → Branch f
                go4 (inl e) = at RilC ril_c e
                go4 (inr e) = absurd (differ e refl)

-- how the operands are read after the field has changed
record Refields (f : Form) : Type 0 where
  opcode : (p v w : List ℕ) → length p ≡ 2 → length v ≡ size f - 2 → length w ≡ size f - 2 → opcode_of f (p ++ w) ≡ opcode_of f (p ++ v)
  operands : (p v w : List ℕ) → length p ≡ 2 → length v ≡ size f - 2 → length w ≡ size f - 2 → operands_of f (p ++ w) ≡ set (operands_of f (p ++ v)) 1 (pos 2 *ℤ signed (8 * (size f - 2)) (big_endian 0 w))
  cleans : (p w : List ℕ) → length p ≡ 2 → length w ≡ size f - 2 → clean f (p ++ w) ≡ true
  zeros : (o : ℕ) (z : ℤ) → big_endian 0 (drop 2 (encode f o (six (z ∷ [])))) ≡ 0
  least : 4 ≤ size f

two_of : (p : List ℕ) → length p ≡ 2 → (a : ℕ) × (b : ℕ) × (p ≡ a ∷ b ∷ [])
two_of [] h = absurd (omega arith)
two_of (a ∷ []) h = absurd (omega arith)
two_of (a ∷ b ∷ []) h = (a, b, refl)
two_of (a ∷ b ∷ c ∷ p) h = absurd (omega arith)

four_of : (p : List ℕ) → length p ≡ 4 → (a : ℕ) × (b : ℕ) × (c : ℕ) × (d : ℕ) × (p ≡ a ∷ b ∷ c ∷ d ∷ [])
four_of [] h = absurd (omega arith)
four_of (a ∷ []) h = absurd (omega arith)
four_of (a ∷ b ∷ []) h = absurd (omega arith)
four_of (a ∷ b ∷ c ∷ []) h = absurd (omega arith)
four_of (a ∷ b ∷ c ∷ d ∷ []) h = (a, b, c, d, refl)
four_of (a ∷ b ∷ c ∷ d ∷ e ∷ p) h = absurd (omega arith)

field_RiB : (a b e g : ℕ) → field_of 1 (row RiB) (nibbles (a ∷ b ∷ e ∷ g ∷ [])) ≡ big_endian 0 (e ∷ g ∷ [])
field_RiB a b e g = omega arith

refields_RiB : Refields RiB
refields_RiB =
    record {
      opcode = λ p v w hp hv hw. let x = two_of p hp in let y = two_of v hv in let z = two_of w hw in rw (x.2, y.2, z.2);
      operands = λ p v w hp hv hw.
          let x = two_of p hp in let y = two_of v hv in let z = two_of w hw in
          rw (x.2, y.2, z.2) (ap (λ (n : ℕ). set (operands_of RiB (x.0 ∷ x.1 ∷ y.0 ∷ y.1 ∷ [])) 1 (pos 2 *ℤ signed 16 n)) (field_RiB x.0 x.1 z.0 z.1));
      cleans = λ p w hp hw. let x = two_of p hp in let z = two_of w hw in rw (x.2, z.2);
      zeros = λ o z. refl;
      least = omega arith;
    }

field_RiC : (a b e g : ℕ) → field_of 1 (row RiC) (nibbles (a ∷ b ∷ e ∷ g ∷ [])) ≡ big_endian 0 (e ∷ g ∷ [])
field_RiC a b e g = omega arith

refields_RiC : Refields RiC
refields_RiC =
    record {
      opcode = λ p v w hp hv hw. let x = two_of p hp in let y = two_of v hv in let z = two_of w hw in rw (x.2, y.2, z.2);
      operands = λ p v w hp hv hw.
          let x = two_of p hp in let y = two_of v hv in let z = two_of w hw in
          rw (x.2, y.2, z.2) (ap (λ (n : ℕ). set (operands_of RiC (x.0 ∷ x.1 ∷ y.0 ∷ y.1 ∷ [])) 1 (pos 2 *ℤ signed 16 n)) (field_RiC x.0 x.1 z.0 z.1));
      cleans = λ p w hp hw. let x = two_of p hp in let z = two_of w hw in rw (x.2, z.2);
      zeros = λ o z. refl;
      least = omega arith;
    }

field_RilB : (a b e g h i : ℕ) → field_of 1 (row RilB) (nibbles (a ∷ b ∷ e ∷ g ∷ h ∷ i ∷ [])) ≡ big_endian 0 (e ∷ g ∷ h ∷ i ∷ [])
field_RilB a b e g h i = omega arith

refields_RilB : Refields RilB
refields_RilB =
    record {
      opcode = λ p v w hp hv hw. let x = two_of p hp in let y = four_of v hv in let z = four_of w hw in rw (x.2, y.4, z.4);
      operands = λ p v w hp hv hw.
          let x = two_of p hp in let y = four_of v hv in let z = four_of w hw in
          rw (x.2, y.4, z.4) (ap (λ (n : ℕ). set (operands_of RilB (x.0 ∷ x.1 ∷ y.0 ∷ y.1 ∷ y.2 ∷ y.3 ∷ [])) 1 (pos 2 *ℤ signed 32 n)) (field_RilB x.0 x.1 z.0 z.1 z.2 z.3));
      cleans = λ p w hp hw. let x = two_of p hp in let z = four_of w hw in rw (x.2, z.4);
      zeros = λ o z. refl;
      least = omega arith;
    }

field_RilC : (a b e g h i : ℕ) → field_of 1 (row RilC) (nibbles (a ∷ b ∷ e ∷ g ∷ h ∷ i ∷ [])) ≡ big_endian 0 (e ∷ g ∷ h ∷ i ∷ [])
field_RilC a b e g h i = omega arith

refields_RilC : Refields RilC
refields_RilC =
    record {
      opcode = λ p v w hp hv hw. let x = two_of p hp in let y = four_of v hv in let z = four_of w hw in rw (x.2, y.4, z.4);
      operands = λ p v w hp hv hw.
          let x = two_of p hp in let y = four_of v hv in let z = four_of w hw in
          rw (x.2, y.4, z.4) (ap (λ (n : ℕ). set (operands_of RilC (x.0 ∷ x.1 ∷ y.0 ∷ y.1 ∷ y.2 ∷ y.3 ∷ [])) 1 (pos 2 *ℤ signed 32 n)) (field_RilC x.0 x.1 z.0 z.1 z.2 z.3));
      cleans = λ p w hp hw. let x = two_of p hp in let z = four_of w hw in rw (x.2, z.4);
      zeros = λ o z. refl;
      least = omega arith;
    }

refields : {f : Form} → Branch f → Refields f
refields ri_b = refields_RiB
refields ri_c = refields_RiC
refields ril_b = refields_RilB
refields ril_c = refields_RilC

-- What a section asks of a family, of the kind that a form has.

pub record Spans (i : FieldInfo) (n : ℕ) : Type 0 where
  pub whole : i.lead + i.size ≡ n
  pub from : i.lead + i.first ≡ 2
  pub to : i.lead + i.past ≡ n

pub record Served (F : Fields) (k n : ℕ) : Type 0 where
  pub info : FieldInfo
  pub is : F.table k ≡ Some info
  pub spans : Spans info n

spans_is : (n : ℕ) (a b : ℤ) (o : Option FieldInfo) → spans n a b o ≡ true → (i : FieldInfo) × (o ≡ Some i) × Spans i n
spans_is n a b None h = absurd (differ h refl)
spans_is n a b (Some i) h =
    let p = and_parts (eqb (i.lead + i.size) n && eqb (i.lead + i.first) 2 && eqb (i.lead + i.past) n && le_z i.least a) (le_z b i.greatest) h in
    let q = and_parts (eqb (i.lead + i.size) n && eqb (i.lead + i.first) 2 && eqb (i.lead + i.past) n) (le_z i.least a) p.0 in
    let r = and_parts (eqb (i.lead + i.size) n && eqb (i.lead + i.first) 2) (eqb (i.lead + i.past) n) q.0 in
    let s = and_parts (eqb (i.lead + i.size) n) (eqb (i.lead + i.first) 2) r.0 in
    (i, refl, record { whole = eqb-true (i.lead + i.size) n s.0; from = eqb-true (i.lead + i.first) 2 s.1; to = eqb-true (i.lead + i.past) n r.1 })

serves_parts : (F : Fields) → serves F ≡ true → (F.align ≡ 2) × (spans 4 (neg_ℤ (pos 65536)) (pos 65534) (F.table 1) ≡ true) × (spans 6 (neg_ℤ (pos 4294967295)) (pos 4294967294) (F.table 2) ≡ true)
serves_parts F h =
    let p = and_parts (eqb F.align 2 && spans 4 (neg_ℤ (pos 65536)) (pos 65534) (F.table 1)) (spans 6 (neg_ℤ (pos 4294967295)) (pos 4294967294) (F.table 2)) h in
    let q = and_parts (eqb F.align 2) (spans 4 (neg_ℤ (pos 65536)) (pos 65534) (F.table 1)) p.0 in
    (eqb-true F.align 2 q.0, q.1, p.1)

pub served : (F : Fields) → serves F ≡ true → {f : Form} → Branch f → Served F (field_kind f) (size f)
served F h ri_b = let s = spans_is 4 (neg_ℤ (pos 65536)) (pos 65534) (F.table 1) (serves_parts F h).1 in record { info = s.0; is = s.1; spans = s.2 }
served F h ri_c = let s = spans_is 4 (neg_ℤ (pos 65536)) (pos 65534) (F.table 1) (serves_parts F h).1 in record { info = s.0; is = s.1; spans = s.2 }
served F h ril_b = let s = spans_is 6 (neg_ℤ (pos 4294967295)) (pos 4294967294) (F.table 2) (serves_parts F h).2 in record { info = s.0; is = s.1; spans = s.2 }
served F h ril_c = let s = spans_is 6 (neg_ℤ (pos 4294967295)) (pos 4294967294) (F.table 2) (serves_parts F h).2 in record { info = s.0; is = s.1; spans = s.2 }

-- Where the field stands.

module _ (i : FieldInfo) (b : List ℕ) (sp : Spans i (length b)) (long : 2 ≤ length b) where
  -- the family's bytes begin `lead` bytes into the instruction; its field is all from byte 2 on
  pub field_whole : (u : List ℕ) → length u ≡ i.size → field_bytes i u ≡ drop i.first u
  field_whole u h =
      let x = sp.whole in let y = sp.from in let z = sp.to in
      take_all (i.past - i.first) (drop i.first u) (simp length-drop (omega arith))

  pub field_there : field_bytes i (drop i.lead b) ≡ drop 2 b
  field_there =
      let x = sp.whole in let y = sp.from in let z = sp.to in
      field_whole (drop i.lead b) (length-drop i.lead b ∙ omega arith) ∙ drop-drop i.first i.lead b ∙ ap (λ (n : ℕ). drop n b) sp.from

  -- what stands there after new bytes were put in
  module _ (new : List ℕ) (same : length new ≡ i.size) where
    before_length : length (take i.lead b) ≡ i.lead
    before_length = let y = sp.from in length-take-le i.lead b (omega arith)

    pub patched_length : length (take i.lead b ++ new) ≡ length b
    patched_length = length-append (take i.lead b) new ∙ let x = sp.whole in let y = before_length in omega arith

    two_is : 2 ≡ length (take i.lead b) + i.first
    two_is = let y = before_length in let z = sp.from in omega arith

    pub patched_field : drop 2 (take i.lead b ++ new) ≡ drop i.first new
    patched_field =
        ap (λ (n : ℕ). drop n (take i.lead b ++ new)) two_is ∙ drop-append-add (take i.lead b) new i.first

    pub patched_front : take i.first new ≡ take i.first (drop i.lead b) → take 2 (take i.lead b ++ new) ≡ take 2 b
    patched_front e =
        ap (λ (n : ℕ). take n (take i.lead b ++ new)) two_is
        ∙ take-append-add (take i.lead b) new i.first
        ∙ ap (λ (u : List ℕ). take i.lead b ++ u) e
        ∙ sym (take-add i.lead i.first b)
        ∙ ap (λ (n : ℕ). take n b) sp.from

-- The instruction after a patch.

pub record PatchedOne (f : Form) (o : ℕ) (z d : ℤ) (b : List ℕ) : Type 0 where
  pub bytes : b ≡ encode f o (set (six (z ∷ [])) 1 d)
  pub in_kind : takes (kinds f) (set (six (z ∷ [])) 1 d) ≡ true
  pub held : pos 2 *ℤ signed (8 * (size f - 2)) (big_endian 0 (drop 2 b)) ≡ d

-- bytes that have the front of an instruction with distance 0, and d in the field
refilled : ReadIsWritten → WrittenIsRead → {f : Form} → Branch f → (o : ℕ) (z d : ℤ) (b : List ℕ) → o < 16 ^ length (opcode_digits f) → takes (kinds f) (six (z ∷ [])) ≡ true
    → length b ≡ size f → AllByRecursion (λ x. x < 256) b → take 2 b ≡ take 2 (encode f o (six (z ∷ []))) → pos 2 *ℤ signed (8 * (size f - 2)) (big_endian 0 (drop 2 b)) ≡ d → PatchedOne f o z d b
refilled reads inverts {f} br o z d b digits kind len small front holds =
    record { bytes = sym (ap (λ (x : ℕ). encode f x (operands_of f b)) (sym opcode_same) ∙ r.0) ∙ ap (encode f o) operands_same; in_kind = subst (λ (x : List ℤ). takes (kinds f) x ≡ true) operands_same r.1; held = holds }
  where
    old : List ℕ
    old = encode f o (six (z ∷ []))

    re : Refields f
    re = refields br

    old_length : length old ≡ size f
    old_length = encode_length f o (six (z ∷ []))

    w : (operands_of f old ≡ six (z ∷ [])) × (opcode_of f old ≡ o) × (clean f old ≡ true) × (length old ≡ size f)
    w = inverts f o (six (z ∷ [])) digits refl kind

    split : b ≡ take 2 old ++ drop 2 b
    split = sym (take-append-drop 2 b) ∙ ap (λ (x : List ℕ). x ++ drop 2 b) front

    p2 : length (take 2 old) ≡ 2
    p2 = length-take-le 2 old (let e = old_length in let g = re.least in omega arith)

    v2 : length (drop 2 old) ≡ size f - 2
    v2 = length-drop 2 old ∙ ap (λ (n : ℕ). n - 2) old_length

    w2 : length (drop 2 b) ≡ size f - 2
    w2 = length-drop 2 b ∙ ap (λ (n : ℕ). n - 2) len

    opcode_same : opcode_of f b ≡ o
    opcode_same = ap (opcode_of f) split ∙ re.opcode (take 2 old) (drop 2 old) (drop 2 b) p2 v2 w2 ∙ ap (opcode_of f) (take-append-drop 2 old) ∙ w.1

    operands_same : operands_of f b ≡ set (six (z ∷ [])) 1 d
    operands_same =
        ap (operands_of f) split ∙ re.operands (take 2 old) (drop 2 old) (drop 2 b) p2 v2 w2
        ∙ ap (λ (x : List ℕ). set (operands_of f x) 1 (pos 2 *ℤ signed (8 * (size f - 2)) (big_endian 0 (drop 2 b)))) (take-append-drop 2 old)
        ∙ ap (λ (x : List ℤ). set x 1 (pos 2 *ℤ signed (8 * (size f - 2)) (big_endian 0 (drop 2 b)))) w.0
        ∙ ap (set (six (z ∷ [])) 1) holds

    r : (encode f (opcode_of f b) (operands_of f b) ≡ b) × (takes (kinds f) (operands_of f b) ≡ true) × (length (operands_of f b) ≡ 6) × (opcode_of f b < 16 ^ length (opcode_digits f))
    r = reads f b len small (ap (clean f) split ∙ re.cleans (take 2 old) (drop 2 b) p2 w2)

pub serves_align : (F : Fields) → serves F ≡ true → F.align ≡ 2
serves_align F h = (serves_parts F h).0

module _ (reads : ReadIsWritten) (inverts : WrittenIsRead) (F : Family) (lawful : Lawful F) (serving : serves F.fields ≡ true) where
  pub patched_one : {f : Form} → Branch f → (o : ℕ) (z d : ℤ) → o < 16 ^ length (opcode_digits f) → takes (kinds f) (six (z ∷ [])) ≡ true
      → (s : Served F.fields (field_kind f) (size f)) → refuses F.fields (field_kind f) (length (drop s.info.lead (encode f o (six (z ∷ []))))) d ≡ None
      → PatchedOne f o z d (take s.info.lead (encode f o (six (z ∷ []))) ++ F.patched (field_kind f) (drop s.info.lead (encode f o (six (z ∷ [])))) d)
  patched_one {f} br o z d digits kind s ok =
      refilled reads inverts br o z d b digits kind (patched_length i old sp long new same ∙ old_length)
      (all_append (λ x. x < 256) (take i.lead old) new (all_take (λ x. x < 256) i.lead old (encode_bytes f o (six (z ∷ [])))) law.bytes)
      (patched_front i old sp long new same law.before)
      (ap (λ (x : List ℕ). pos 2 *ℤ signed (8 * (size f - 2)) (big_endian 0 x)) (patched_field i old sp long new same ∙ sym (field_whole i old sp long new same))
      ∙ ap (λ (n : ℕ). pos 2 *ℤ signed (8 * n) (big_endian 0 (field_bytes i new))) width
      ∙ ap (λ (n : ℕ). pos n *ℤ field_value i new) (sym (serves_parts F.fields serving).0)
      ∙ law.holds (ap (big_endian 0) (field_there i old sp long) ∙ (refields br).zeros o z))
    where
      i : FieldInfo
      i = s.info

      old : List ℕ
      old = encode f o (six (z ∷ []))

      new : List ℕ
      new = F.patched (field_kind f) (drop i.lead old) d

      b : List ℕ
      b = take i.lead old ++ new

      old_length : length old ≡ size f
      old_length = encode_length f o (six (z ∷ []))

      sp : Spans i (length old)
      sp = subst (Spans i) (sym old_length) s.spans

      long : 2 ≤ length old
      long = let e = old_length in let g = (refields br).least in omega arith

      old_bytes : AllByRecursion (λ x. x < 256) (drop i.lead old)
      old_bytes = all_drop (λ x. x < 256) i.lead old (encode_bytes f o (six (z ∷ [])))

      law : Patches F.fields.align i d (drop i.lead old) new
      law = lawful.patches (field_kind f) i (drop i.lead old) d old_bytes s.is ok

      same : length new ≡ i.size
      same = law.same_length ∙ length-drop i.lead old ∙ let x = sp.whole in omega arith

      width : size f - 2 ≡ i.past - i.first
      width = let x = s.spans.from in let y = s.spans.to in omega arith
