-- The law, from what is assumed of one instruction and of what an access writes.
use Rattle.refusal.specs.Refusals.{answered, unless, ◌when◌, refused_at, Answer}
use Rattle.address.specs.Convention.{Convention, lawful_convention}
use Rattle.std.proofs.Common.{◌≡◌, ℕ, ◌+◌, Bool, true, false, cond, not, ◌&&◌, ltb, List, [], ◌∷◌, ◌++◌, map, length, take, drop, ℤ, Some, None, Ok, Option, sym, refl, ap, ◌∙◌, subst, arith, length-append, take-append-drop, take_at}
use Rattle.std.specs.List.{AllByRecursion}
use Rattle.std.proofs.lemmas.Bool.{and_parts, not-false}
use Rattle.refusal.specs.declared.Reason.TheVariants as why
use Rattle.refusal.specs.declared.Refusal.{Refusal}
use Rattle.address.specs.declared.args.MemArg.{MemArg}
use Rattle.address.specs.declared.frame.Frame.{Frame}
use Rattle.address.specs.declared.access.Access.{Access}
use Rattle.form.specs.Form.{size}
use Rattle.catalogue_law.specs.Catalogue.{Catalogued, Reads}
use Rattle.field.specs.Family.{Family, Lawful, serves}
use Rattle.address.specs.Address.{Mode, mode}
use Rattle.address.specs.Access.{plan}
use Rattle.book.specs.declared.target.Slot.{Slot}
use Rattle.book.specs.Labels.{place_of}
use Rattle.book.specs.declared.target.Target.{Target}
use Rattle.address.specs.Machine.{Reaches}
use Rattle.law.specs.Inventory.{Event, close, Group, Inventory, empty, inventory, fed, fed_all, filled_group, filled_all, items_of, instrs}
use Rattle.address_law.specs.Items.{Item, placed_from, filled_to, filled_by, filled, as_placed}
use Rattle.law.specs.Section.{State, with_entries, other_buffer, access_refusal, close_refusal, Closes}
use Rattle.address_law.specs.Reaching.{AimFound}
use Rattle.law.specs.Law.{Opens, HoldsAim, ReachesNamed, Faithful, Promises, Law}
use Rattle.inversion.specs.Inversion.{WrittenIsRead, ReadIsWritten}
use Rattle.catalogue_law.proofs.Basics.{none_some, ok_err, none_refused, all_map}
use Rattle.catalogue_law.proofs.Encoding.{encode_length}
use Rattle.catalogue_law.proofs.Reading.{Entries, sound_entries, spelled_once, reads_all, ends_at}
use Rattle.law.proofs.Closing.{Held, Closed, closed, holds_all}
use Rattle.law.specs.Matching.{uses_of, sizes, FromAccess, Matches}
use Rattle.law.proofs.Calls.{leads_keep, opens_match, grows_keep}
use Rattle.form.specs.declared.instr.Instr.{Instr}
use Rattle.form.specs.Instr.{bytes_of, bytes_of_all}
use Rattle.address.specs.declared.access.Aimed.{Aimed}
use Rattle.book.specs.declared.target.Use.{Use}
use Rattle.book.specs.Books.{largest_buffer}
use Rattle.settle_law.specs.Settle.{uses_refusal, patched_all}

-- What is assumed of accesses: what an accepted one writes, from any place on, reaches the address that it names, wherever its target is.

module _ (C : Convention) (lc : lawful_convention C ≡ true) where
  abbrev pub ReachesWritten : Type 0
  ReachesWritten =
      (s : State) (a : Access) (may_trap : Bool) (m : MemArg) (fr : Frame) → access_refusal C s a may_trap m fr ≡ None
      → (where_is : Target → Option ℤ) → AllByRecursion (λ w. AimFound where_is w.aim) (plan C a may_trap m fr).items
      → (from : ℕ) → Reaches C where_is (mode C fr m) (map as_placed (map (filled where_is) (placed_from from (plan C a may_trap m fr).items)))

  -- Filling.

  filled_to_aim : (it : Item) (o : Option ℤ) → (filled_to it o).aim ≡ it.aim
  filled_to_aim it None = refl
  filled_to_aim it (Some p) = refl

  filled_by_aim : (where_is : Target → Option ℤ) (it : Item) (o : Option Target) → (filled_by where_is it o).aim ≡ it.aim
  filled_by_aim where_is it None = refl
  filled_by_aim where_is it (Some t) = filled_to_aim it (where_is t)

  filled_to_form : (it : Item) (o : Option ℤ) → size (filled_to it o).instr.form ≡ size it.instr.form
  filled_to_form it None = refl
  filled_to_form it (Some p) = refl

  filled_by_form : (where_is : Target → Option ℤ) (it : Item) (o : Option Target) → size (filled_by where_is it o).instr.form ≡ size it.instr.form
  filled_by_form where_is it None = refl
  filled_by_form where_is it (Some t) = filled_to_form it (where_is t)

  sizes_filled : (where_is : Target → Option ℤ) (its : List Item) → sizes (map (filled where_is) its) ≡ sizes its
  sizes_filled where_is [] = refl
  sizes_filled where_is (it ∷ its) = let e = filled_by_form where_is it it.aim in let h = sizes_filled where_is its in omega arith

  bytes_length : (its : List Item) → length (bytes_of_all (instrs its)) ≡ sizes its
  bytes_length [] = refl
  bytes_length (it ∷ its) =
      length-append (bytes_of it.instr) (bytes_of_all (instrs its)) ∙ let e = encode_length it.instr.form it.instr.opcode it.instr.operands in let h = bytes_length its in omega arith

  map_append : {X Y : Type 0} (f : X → Y) (xs ys : List X) → map f (xs ++ ys) ≡ map f xs ++ map f ys
  map_append f [] ys = refl
  map_append f (x ∷ xs) ys = let e = map_append f xs ys in cc

  items_filled : (where_is : Target → Option ℤ) (gs : List Group) → items_of (map (filled_group where_is) gs) ≡ map (filled where_is) (items_of gs)
  items_filled where_is [] = refl
  items_filled where_is (g ∷ gs) =
      ap (λ (x : List Item). map (filled where_is) g.items ++ x) (items_filled where_is gs) ∙ sym (map_append (filled where_is) g.items (items_of gs))

  placed_instrs : (its : List Item) → map (λ i. i.instr) (map as_placed its) ≡ instrs its
  placed_instrs [] = refl
  placed_instrs (it ∷ its) = ap {B = List Instr} (λ r. it.instr ∷ r) (placed_instrs its)

  -- Aims that are found.

  held_found : (where_is : Target → Option ℤ) (it : Item) (aim : Option Target) → Held where_is it aim → AimFound where_is aim
  held_found where_is it None h = tt
  held_found where_is it (Some t) h = (h.1.0, h.1.1)

  all_found : (where_is : Target → Option ℤ) (its : List Item) → AllByRecursion (λ it. Held where_is it it.aim) (map (filled where_is) its) → AllByRecursion (λ it. AimFound where_is it.aim) its
  all_found where_is [] h = tt
  all_found where_is (it ∷ its) h =
      (subst (AimFound where_is) (filled_by_aim where_is it it.aim) (held_found where_is (filled where_is it) (filled where_is it).aim h.0), all_found where_is its h.1)

  all_left : {X : Type 0} (P : X → Type 0) (xs ys : List X) → AllByRecursion P (xs ++ ys) → AllByRecursion P xs
  all_left P [] ys h = tt
  all_left P (x ∷ xs) ys h = (h.0, all_left P xs ys h.1)

  all_right : {X : Type 0} (P : X → Type 0) (xs ys : List X) → AllByRecursion P (xs ++ ys) → AllByRecursion P ys
  all_right P [] ys h = h
  all_right P (x ∷ xs) ys h = all_right P xs ys h.1

  placed_found : (where_is : Target → Option ℤ) (from : ℕ) (ws : List Aimed) → AllByRecursion (λ it. AimFound where_is it.aim) (placed_from from ws) → AllByRecursion (λ w. AimFound where_is w.aim) ws
  placed_found where_is from [] h = tt
  placed_found where_is from (w ∷ ws) h = (h.0, placed_found where_is (from + size w.instr.form) ws h.1)

  -- Accesses.

  module _ (reaching : ReachesWritten) (where_is : Target → Option ℤ) where
    reaches_one : (address : Option Mode) (its : List Item) → FromAccess C address its → AllByRecursion (λ it. AimFound where_is it.aim) its → ReachesNamed C where_is address (map (filled where_is) its)
    reaches_one None its h k = tt
    reaches_one (Some md) its h k =
        let ws = (plan C h.access h.may_trap h.mem h.frame).items in
        let found = placed_found where_is h.from ws (subst (λ (x : List Item). AllByRecursion (λ it. AimFound where_is it.aim) x) h.items k) in
        let r = reaching h.state h.access h.may_trap h.mem h.frame h.accepted where_is found h.from in
        subst (λ (x : Mode). Reaches C where_is x (map as_placed (map (filled where_is) its))) (sym h.named)
        (subst (λ (x : List Item). Reaches C where_is (mode C h.frame h.mem) (map as_placed (map (filled where_is) x))) (sym h.items) r)

    reaches_all : (gs : List Group) → AllByRecursion (λ g. FromAccess C g.address g.items) gs → AllByRecursion (λ it. AimFound where_is it.aim) (items_of gs)
        → AllByRecursion (λ g. ReachesNamed C where_is g.address g.items) (map (filled_group where_is) gs)
    reaches_all [] h k = tt
    reaches_all (g ∷ gs) h k = (
      reaches_one g.address g.items h.0 (all_left (λ it. AimFound where_is it.aim) g.items (items_of gs) k),
      reaches_all gs h.1 (all_right (λ it. AimFound where_is it.aim) g.items (items_of gs) k),
    )

  -- An accepted close.

  accepted_close : (o : Option Refusal) → ◌≡◌ {A = Answer} (Ok tt) (answered o tt) → o ≡ None
  accepted_close None h = refl
  accepted_close (Some e) h = absurd (ok_err refl h)

  uses_fit : (b : Bool) (e : Refusal) (o : Option Refusal) → cond b (Some e) o ≡ None → o ≡ None
  uses_fit true e o h = absurd (none_some h refl)
  uses_fit false e o h = h

  both_serve : {L S : Family} {s : State} → Opens L S s → (serves L.fields ≡ true) × (serves S.fields ≡ true)
  both_serve {L} {S} o =
      let t = none_refused (why.Buffer when ltb largest_buffer (length o.code) ∷ why.Kind when not (serves L.fields && serves S.fields) ∷ []) o.accepted in
      and_parts (serves L.fields) (serves S.fields) (not-false (serves L.fields && serves S.fields) t.1.0)

  fed_append : (v : Inventory) (xs ys : List Event) → fed_all C v (xs ++ ys) ≡ fed_all C (fed_all C v xs) ys
  fed_append v [] ys = refl
  fed_append v (x ∷ xs) ys = fed_append (fed C v x) xs ys

  module _ (inverts : WrittenIsRead) (reads : ReadIsWritten) (reaching : ReachesWritten) (L S : Family) (law_L : Lawful L) (law_S : Lawful S) where
    module _ (serves_L : serves L.fields ≡ true) (serves_S : serves S.fields ≡ true) (v : Inventory) (s : State) (m : Matches C v s) (symbols : List ℤ) (code : List ℕ) (c : Closes L S s symbols (Ok tt) code) where
      abbrev where_is : Target → Option ℤ
      where_is = place_of v.labels symbols

      abbrev its : List Item
      its = items_of v.groups

      abbrev full : List Item
      full = map (filled where_is) its

      abbrev post : List ℕ
      post = drop s.books.len s.code

      refused_not : close_refusal L S s symbols ≡ None
      refused_not = accepted_close (close_refusal L S s symbols) c.answers

      code_split : s.code ≡ bytes_of_all (instrs its) ++ post
      code_split = sym (take-append-drop s.books.len s.code) ∙ ap (λ (x : List ℕ). x ++ post) m.wrote.starts

      checked : uses_refusal L S where_is s.code (uses_of its) ≡ None
      checked =
          subst (λ (x : List Use). uses_refusal L S where_is s.code x ≡ None) m.wrote.uses
          (subst (λ (ls : List Slot). uses_refusal L S (place_of ls symbols) s.code s.books.uses ≡ None) m.labels
          (uses_fit (other_buffer s) (refused_at s.books.len why.Buffer) (uses_refusal L S (place_of s.books.labels symbols) s.code s.books.uses) refused_not))

      told : Entries s.entries
      told = sound_entries s.entries m.wrote.entries

      all_closed : Closed L S where_is s.entries [] post 0 its
      all_closed = closed reads inverts L S law_L law_S serves_L serves_S where_is s.entries told [] post s.code 0 its refl m.wrote.laid m.wrote.sound (ap length code_split) checked

      code_is : code ≡ bytes_of_all (instrs full) ++ post
      code_is =
          c.leaves
          ∙ ap (λ (o : Option Refusal). unless o (patched_all L S (place_of s.books.labels symbols) s.code s.books.uses) s.code) refused_not
          ∙ ap (λ (ls : List Slot). patched_all L S (place_of ls symbols) s.code s.books.uses) m.labels
          ∙ ap (λ (x : List Use). patched_all L S where_is s.code x) m.wrote.uses
          ∙ ap (λ (x : List ℕ). patched_all L S where_is x (uses_of its)) code_split
          ∙ all_closed.code

      full_length : length (bytes_of_all (instrs full)) ≡ s.books.len
      full_length = bytes_length full ∙ sizes_filled where_is its ∙ sym m.wrote.total

      finished : take s.books.len code ≡ bytes_of_all (instrs full)
      finished = ap (take s.books.len) code_is ∙ take_at (bytes_of_all (instrs full)) post s.books.len full_length

      abbrev items : items_of (map (filled_group where_is) v.groups) ≡ full
      items = items_filled where_is v.groups

      listed : AllByRecursion (Catalogued s.entries) (instrs full)
      listed = all_map (λ it. Catalogued s.entries it.instr) (Catalogued s.entries) (λ it. it.instr) (λ it h. h) full all_closed.sound

      pub faithful : Faithful C L S s.entries symbols (take s.books.len code) (filled_all v symbols)
      faithful =
          record {
            whole = ap length finished ∙ full_length ∙ m.len;
            reads =
                subst (λ (x : List Item). Reads s.entries (take s.books.len code) 0 (map as_placed x)) (sym items)
                (reads_all inverts s.entries told (take s.books.len code) 0 (map as_placed full) all_closed.laid
                (all_map (λ it. Catalogued s.entries it.instr) (λ i. Catalogued s.entries i.instr) as_placed (λ it h. h) full all_closed.sound)
                (finished ∙ ap bytes_of_all (sym (placed_instrs full))));
            ends = ends_at s.entries (take s.books.len code) v.len (ap length finished ∙ full_length ∙ m.len);
            lists = subst (λ (x : List Item). AllByRecursion (Catalogued s.entries) (instrs x)) (sym items) listed;
            spells = ap (λ (x : List Item). bytes_of_all (instrs x)) items ∙ sym finished;
            unique = λ is h e. spelled_once inverts s.entries told is (instrs full) h listed (e ∙ finished) ∙ ap instrs (sym items);
            holds =
                subst (λ (x : List Item). AllByRecursion (λ it. HoldsAim L S where_is (take s.books.len code) it it.aim) x) (sym items)
                (holds_all reads inverts L S law_L law_S serves_L serves_S where_is [] (take s.books.len code) 0 full refl finished all_closed.laid all_closed.holds);
            reaches = reaches_all reaching where_is v.groups m.groups (all_found where_is its all_closed.holds);
          }

    pub promises : (s : State) (symbols : List ℤ) (code : List ℕ) → Closes L S s symbols (Ok tt) code → Promises C L S s symbols code
    promises s symbols code c o es later op leads g =
        let k = both_serve op in
        subst (Faithful C L S later symbols (take s.books.len code)) (sym (fed_append empty es (close symbols (Ok tt) ∷ [])))
        (faithful k.0 k.1 (inventory C es) (with_entries s later) (grows_keep C lc (inventory C es) s later g (leads_keep C lc leads empty (opens_match C lc op))) symbols code
        (record { answers = c.answers; leaves = c.leaves }))

pub law : WrittenIsRead → ReadIsWritten → ((C : Convention) (lc : lawful_convention C ≡ true) → ReachesWritten C lc) → Law
law inverts reads reaching C lc L S law_L law_S s symbols code c = promises C lc inverts reads (reaching C lc) L S law_L law_S s symbols code c
