-- Reading what was written: the catalogue's entries are told apart, so the reader finds the one that was meant.
use Rattle.std.proofs.Common.{◌≡◌, ℕ, ◌+◌, ◌^◌, ◌<◌, ◌≤◌, Bool, true, false, cond, not, ◌||◌, eqb, leb, ◌⊎◌, List, [], ◌∷◌, ◌++◌, map, length, drop, Some, None, Ok, Option, Result, sym, refl, ap, ◌∙◌, subst, inl, inr, arith, length-append, drop-drop, take_at, drop_at}
use mathlib.Core.List.{append_cancel_left}
use Rattle.std.specs.List.{AllByRecursion}
use Rattle.std.proofs.lemmas.Bool.{and_parts, and_from, and_cases, or_parts, or_cases, not-true, not-false, eqb-true, eqb-false, eq-eqb, leb-false, le-ltb}
use Rattle.refusal.specs.declared.Refusal.{Refusal}
use Rattle.form.specs.declared.Form.{Form}
use Rattle.form.specs.declared.instr.Entry.{Entry}
use Rattle.form.specs.Form.{size, same_form, opcode_digits}
use Rattle.form.specs.Encode.{opcode_of, nibbles}
use Rattle.inversion.specs.Inversion.{WrittenIsRead}
use Rattle.refusal.specs.Tests.{any, all}
use Rattle.catalogue_law.specs.Catalogue.{length_by_first_byte, first_byte, misfit, same_numbers, clashes, is_entry, catalogued, clashes_with, apart, fits, sound, Catalogued, matches, find, read_as, read_rest, read, place_after, read_step, Reads, end, next}
use Rattle.catalogue_law.proofs.Basics.{T_true, differ}
use Rattle.catalogue_law.proofs.Sound.{sound_parts}
use Rattle.catalogue_law.specs.Catalogue.{Laid}
use Rattle.catalogue_law.proofs.Encoding.{encode_bytes, encode_length, encode_head, head, size_least, spelled, opcode_spelled, first_of_opcode, same_form_is}
use Rattle.form.specs.declared.instr.Instr.{Instr}
use Rattle.form.specs.declared.instr.Placed.{Placed}
use Rattle.form.specs.Instr.{bytes_of, bytes_of_all}

-- The catalogue.

abbrev pub Among : {X : Type 0} → X → List X → Type 0
Among x [] = ⊥
Among x (y ∷ ys) = (y ≡ x) ⊎ Among x ys

abbrev pub entry : Form → ℕ → Entry
entry f o = record { form = f; opcode = o }

is_entry_is : (f : Form) (o : ℕ) (e : Entry) → is_entry f o e ≡ true → e ≡ entry f o
is_entry_is f o e h =
    let p = and_parts (same_form e.form f) (eqb e.opcode o) h in
    let q = same_form_is e.form f p.0 in
    let r = eqb-true e.opcode o p.1 in
    λ i. record { form = q i; opcode = r i }

pub catalogued_among : (es : List Entry) (f : Form) (o : ℕ) → catalogued es f o ≡ true → Among (entry f o) es
catalogued_among [] f o h = differ h refl
catalogued_among (e ∷ es) f o h = go (or_cases (is_entry f o e) (catalogued es f o) h) (catalogued_among es f o)
  where
    go : (is_entry f o e ≡ true) ⊎ (catalogued es f o ≡ true) → (catalogued es f o ≡ true → Among (entry f o) es) → (e ≡ entry f o) ⊎ Among (entry f o) es
    go (inl p) k = inl (is_entry_is f o e p)
    go (inr p) k = inr (k p)

any_none : {X : Type 0} (p : X → Bool) (xs : List X) (x : X) → any p xs ≡ false → Among x xs → p x ≡ false
any_none p [] x h a = absurd a
any_none p (y ∷ xs) x h (inl e) = ap p (sym e) ∙ (or_parts (p y) (any p xs) h).0
any_none p (y ∷ xs) x h (inr a) = any_none p xs x (or_parts (p y) (any p xs) h).1 a

same_numbers_is : (us bs : List ℕ) → same_numbers us bs ≡ true → us ≡ bs
same_numbers_is [] [] e = refl
same_numbers_is [] (b ∷ bs) e = absurd (differ e refl)
same_numbers_is (a ∷ us) [] e = absurd (differ e refl)
same_numbers_is (a ∷ us) (b ∷ bs) e =
    let p = and_parts (eqb a b) (same_numbers us bs) e in
    let q = eqb-true a b p.0 in
    let r = same_numbers_is us bs p.1 in
    cc

-- with the same first byte, two entries have their opcodes in the same digits, and two opcodes
abbrev pub Apart : Entry → Entry → Type 0
Apart e d = first_byte e.form e.opcode ≡ first_byte d.form d.opcode → (opcode_digits e.form ≡ opcode_digits d.form) × (e.opcode ≡ d.opcode → ⊥)

apart_back : (e d : Entry) → Apart e d → Apart d e
apart_back e d h p = let r = h (sym p) in (sym r.0, λ q. r.1 (sym q))

no_clash : (f : Form) (o : ℕ) (e : Entry) → clashes f o e ≡ false → Apart e (entry f o)
no_clash f o e h p = go (and_cases (eqb (first_byte e.form e.opcode) (first_byte f o)) (not (same_numbers (opcode_digits e.form) (opcode_digits f)) || eqb e.opcode o) h)
  where
    go : (eqb (first_byte e.form e.opcode) (first_byte f o) ≡ false) ⊎ ((not (same_numbers (opcode_digits e.form) (opcode_digits f)) || eqb e.opcode o) ≡ false) → (opcode_digits e.form ≡ opcode_digits f) × (e.opcode ≡ o → ⊥)
    go (inl q) = absurd (eqb-false (first_byte e.form e.opcode) (first_byte f o) q p)
    go (inr q) =
        let r = or_parts (not (same_numbers (opcode_digits e.form) (opcode_digits f))) (eqb e.opcode o) q in
        (same_numbers_is (opcode_digits e.form) (opcode_digits f) (not-false (same_numbers (opcode_digits e.form) (opcode_digits f)) r.0), eqb-false e.opcode o r.1)

-- what is asked of each entry, and of each two
pub record Entries (es : List Entry) : Type 0 where
  pub fit : (e : Entry) → Among e es → misfit e.form e.opcode ≡ false
  pub apart : (e d : Entry) → Among e es → Among d es → (e ≡ d) ⊎ Apart e d

pub sound_entries : (es : List Entry) → sound es ≡ true → Entries es
sound_entries es h = let p = sound_parts es h in record { fit = all_fit es p.all_fit; apart = all_apart es p.apart }
  where
    all_fit : (es : List Entry) → all fits es ≡ true → (e : Entry) → Among e es → misfit e.form e.opcode ≡ false
    all_fit [] h e a = absurd a
    all_fit (d ∷ es) h e (inl q) = ap (λ (x : Entry). misfit x.form x.opcode) (sym q) ∙ not-true (misfit d.form d.opcode) (and_parts (fits d) (all fits es) h).0
    all_fit (d ∷ es) h e (inr a) = all_fit es (and_parts (fits d) (all fits es) h).1 e a

    later : (x : Entry) (es : List Entry) → apart (x ∷ es) ≡ true → (d : Entry) → Among d es → Apart x d
    later x es h d a = no_clash d.form d.opcode x (any_none (clashes_with x) es d (not-true (any (clashes_with x) es) (and_parts (not (any (clashes_with x) es)) (apart es) h).0) a)

    all_apart : (es : List Entry) → apart es ≡ true → (e d : Entry) → Among e es → Among d es → (e ≡ d) ⊎ Apart e d
    all_apart [] h e d a b = absurd a
    all_apart (x ∷ es) h e d (inl p) (inl q) = inl (sym p ∙ q)
    all_apart (x ∷ es) h e d (inl p) (inr b) = inr (subst (λ (y : Entry). Apart y d) p (later x es h d b))
    all_apart (x ∷ es) h e d (inr a) (inl q) = inr (apart_back d e (subst (λ (y : Entry). Apart y e) q (later x es h e a)))
    all_apart (x ∷ es) h e d (inr a) (inr b) = all_apart es (and_parts (not (any (clashes_with x) es)) (apart es) h).1 e d a b

-- an entry's opcode has no more digits than its row's, and its first byte means its length
pub digits_fit : (f : Form) (o : ℕ) → misfit f o ≡ false → o < 16 ^ length (opcode_digits f)
digits_fit f o h = leb-false (16 ^ length (opcode_digits f)) o (or_parts (leb (16 ^ length (opcode_digits f)) o) (not (eqb (length_by_first_byte (first_byte f o)) (size f))) h).0

pub length_meant : (f : Form) (o : ℕ) → misfit f o ≡ false → length_by_first_byte (first_byte f o) ≡ size f
length_meant f o h = eqb-true (length_by_first_byte (first_byte f o)) (size f) (not-false (eqb (length_by_first_byte (first_byte f o)) (size f)) (or_parts (leb (16 ^ length (opcode_digits f)) o) (not (eqb (length_by_first_byte (first_byte f o)) (size f))) h).1)

-- Reading one instruction.

find_only : {X : Type 0} (p : X → Bool) (xs : List X) (e : X) → Among e xs → p e ≡ true → ((x : X) → Among x xs → p x ≡ true → x ≡ e) → find p xs ≡ Some e
find_only p [] e a t u = absurd a
find_only p (x ∷ xs) e a t u = go (p x) refl a (λ b. find_only p xs e b t (λ y c. u y (inr c)))
  where
    go : (b : Bool) → p x ≡ b → (x ≡ e) ⊎ Among e xs → (Among e xs → find p xs ≡ Some e) → cond b (Some x) (find p xs) ≡ Some e
    go true h a k = let q = u x (inl refl) h in cc
    go false h (inl q) k = absurd (differ (ap p q ∙ t) h)
    go false h (inr b) k = k b

same_answer : {a : Result (Option Placed) Refusal} {x y : Placed} → a ≡ Ok (Some x) → a ≡ Ok (Some y) → x ≡ y
same_answer p q = cc

pub stepped : (es : List Entry) (code : List ℕ) (at : ℕ) {r : Result (Option Placed) Refusal} → read es code at ≡ r → read_step es code at ≡ (r, place_after at r)
stepped es code at e = ap (λ (r : Result (Option Placed) Refusal). (r, place_after at r)) e

drop_all : (xs : List ℕ) → drop (length xs) xs ≡ []
drop_all [] = refl
drop_all (x ∷ xs) = drop_all xs

-- at the end there is none
pub ends_at : (es : List Entry) (code : List ℕ) (at : ℕ) → length code ≡ at → read_step es code at ≡ (Ok None, at)
ends_at es code at e = stepped es code at (ap (read_rest es at) (ap (λ (n : ℕ). drop n code) (sym e) ∙ drop_all code))

module _ (inverts : WrittenIsRead) (es : List Entry) (told : Entries es) where
  -- of the bytes of an entry's instruction, no other entry has the digits
  finds : (i : Instr) → Catalogued es i → find (matches (bytes_of i)) es ≡ Some (entry i.form i.opcode)
  finds i c =
      let a = catalogued_among es i.form i.opcode (T_true c.entry) in
      let m = told.fit (entry i.form i.opcode) a in
      let w = inverts i.form i.opcode i.operands (digits_fit i.form i.opcode m) c.six_operands (T_true c.in_kind) in
      find_only (matches (bytes_of i)) es (entry i.form i.opcode) a
      (and_from (eqb (size i.form) (length (bytes_of i))) (eqb (opcode_of i.form (bytes_of i)) i.opcode) (eq-eqb (size i.form) (length (bytes_of i)) (sym w.3)) (eq-eqb (opcode_of i.form (bytes_of i)) i.opcode w.1))
      (λ d b t. only d b t a w.1 (digits_fit i.form i.opcode m))
    where
      only : (d : Entry) → Among d es → matches (bytes_of i) d ≡ true → Among (entry i.form i.opcode) es → opcode_of i.form (bytes_of i) ≡ i.opcode → i.opcode < 16 ^ length (opcode_digits i.form) → d ≡ entry i.form i.opcode
      only d b t a o s = go (told.apart d (entry i.form i.opcode) b a)
        where
          parts : (eqb (size d.form) (length (bytes_of i)) ≡ true) × (eqb (opcode_of d.form (bytes_of i)) d.opcode ≡ true)
          parts = and_parts (eqb (size d.form) (length (bytes_of i))) (eqb (opcode_of d.form (bytes_of i)) d.opcode) t

          len : length (bytes_of i) ≡ size d.form
          len = sym (eqb-true (size d.form) (length (bytes_of i)) parts.0)

          opc : opcode_of d.form (bytes_of i) ≡ d.opcode
          opc = eqb-true (opcode_of d.form (bytes_of i)) d.opcode parts.1

          firsts : first_byte d.form d.opcode ≡ first_byte i.form i.opcode
          firsts =
              ap (first_byte d.form) (sym opc) ∙ first_of_opcode d.form (bytes_of i) len (encode_bytes i.form i.opcode i.operands)
              ∙ encode_head i.form i.opcode i.operands s

          go : (d ≡ entry i.form i.opcode) ⊎ Apart d (entry i.form i.opcode) → d ≡ entry i.form i.opcode
          go (inl p) = p
          go (inr p) =
              let r = p firsts in
              let x = opcode_spelled d.form (bytes_of i) len in
              let y = opcode_spelled i.form (bytes_of i) (encode_length i.form i.opcode i.operands) in
              absurd (r.1 (sym opc ∙ x ∙ ap (λ (ps : List ℕ). spelled ps (nibbles (bytes_of i))) r.0 ∙ sym y ∙ o))

  read_bytes : (at : ℕ) (bs rest : List ℕ) → 2 ≤ length bs → length_by_first_byte (head bs) ≡ length bs → read_rest es at (bs ++ rest) ≡ read_as at bs (find (matches bs) es)
  read_bytes at [] rest h m = absurd (omega arith)
  read_bytes at (b ∷ bs) rest h m =
      let l = length-append (b ∷ bs) rest in
      rw (le-ltb (length ((b ∷ bs) ++ rest)) (length_by_first_byte b) (omega arith), take_at (b ∷ bs) rest (length_by_first_byte b) (sym m))

  pub read_one : (i : Instr) → Catalogued es i → (at : ℕ) (rest : List ℕ) → read_rest es at (bytes_of i ++ rest) ≡ Ok (Some (record { place = at; instr = i }))
  read_one i c at rest =
      let a = catalogued_among es i.form i.opcode (T_true c.entry) in
      let m = told.fit (entry i.form i.opcode) a in
      let w = inverts i.form i.opcode i.operands (digits_fit i.form i.opcode m) c.six_operands (T_true c.in_kind) in
      let l = encode_length i.form i.opcode i.operands in
      let g = size_least i.form in
      let h = encode_head i.form i.opcode i.operands (digits_fit i.form i.opcode m) in
      read_bytes at (bytes_of i) rest (omega arith) (ap length_by_first_byte h ∙ length_meant i.form i.opcode m ∙ sym l)
      ∙ ap (read_as at (bytes_of i)) (finds i c)
      ∙ rw (w.2, w.0)

  -- a list of instructions is told by its bytes
  pub spelled_once : (is js : List Instr) → AllByRecursion (Catalogued es) is → AllByRecursion (Catalogued es) js → bytes_of_all is ≡ bytes_of_all js → is ≡ js
  spelled_once [] [] h k e = refl
  spelled_once [] (j ∷ js) h k e = absurd (shorter j (bytes_of_all js) e)
    where
      shorter : (j : Instr) (rest : List ℕ) → [] ≡ bytes_of j ++ rest → ⊥
      shorter j rest e =
          let p = ap (length {A = ℕ}) e in
          let q = length-append (bytes_of j) rest in
          let r = encode_length j.form j.opcode j.operands in
          let g = size_least j.form in
          omega arith
  spelled_once (i ∷ is) [] h k e = absurd (shorter i (bytes_of_all is) (sym e))
    where
      shorter : (j : Instr) (rest : List ℕ) → [] ≡ bytes_of j ++ rest → ⊥
      shorter j rest e =
          let p = ap (length {A = ℕ}) e in
          let q = length-append (bytes_of j) rest in
          let r = encode_length j.form j.opcode j.operands in
          let g = size_least j.form in
          omega arith
  spelled_once (i ∷ is) (j ∷ js) h k e =
      let p = read_one i h.0 0 (bytes_of_all is) in
      let q = read_one j k.0 0 (bytes_of_all js) in
      let s : i ≡ j = ap (λ (x : Placed). x.instr) (same_answer (p) (ap (read_rest es 0) e ∙ q)) in
      let r : is ≡ js = spelled_once is js h.1 k.1 (append_cancel_left (bytes_of i) (bytes_of_all is) (bytes_of_all js) (e ∙ ap (λ (x : Instr). bytes_of x ++ bytes_of_all js) (sym s))) in
      λ k. s k ∷ r k

  -- reading from a place where the instructions' bytes stand, to the code's end
  pub reads_all : (code : List ℕ) (at : ℕ) (is : List Placed) → Laid at is → AllByRecursion (λ i. Catalogued es i.instr) is → drop at code ≡ bytes_of_all (map (λ i. i.instr) is) → Reads es code at is
  reads_all code at [] l c e = end (stepped es code at (ap (read_rest es at) e))
  reads_all code at (i ∷ is) l c e =
      next
      (stepped es code at (ap (read_rest es at) e ∙ read_one i.instr c.0 at (bytes_of_all (map (λ i. i.instr) is)) ∙ rw (← l.0)))
      (reads_all code (at + size i.instr.form) is l.1 c.1
      (sym (drop-drop (size i.instr.form) at code) ∙ ap (drop (size i.instr.form)) e ∙ drop_at (bytes_of i.instr) (bytes_of_all (map (λ i. i.instr) is)) (size i.instr.form) (encode_length i.instr.form i.instr.opcode i.instr.operands)))
