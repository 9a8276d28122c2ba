-- The law of a finished section: the code says what the calls have put in.
use Rattle.address.specs.Convention.{Convention, lawful_convention}
use Rattle.std.specs.Prelude.{◌≡◌, ℕ, true, ◌≢◌, List, [], ◌∷◌, ◌++◌, map, length, take, ℤ, pos, ◌-ℤ◌, Some, None, Ok, Err, Option}
use Rattle.std.specs.List.{AllByRecursion}
use Rattle.form.specs.declared.instr.Entry.{Entry}
use Rattle.catalogue_law.specs.Catalogue.{Catalogued, sound, Reads, read_step}
use Rattle.form.specs.declared.instr.Instr.{Instr}
use Rattle.form.specs.Instr.{bytes_of_all}
use Rattle.field.specs.Family.{Family, Lawful}
use Rattle.address.specs.Address.{Mode}
use Rattle.book.specs.Labels.{place_of}
use Rattle.book.specs.declared.target.Target.{Target}
use Rattle.address.specs.Machine.{Reaches}
use Rattle.law.specs.Inventory.{Event, admit, put, put_to_label, access, reserve, bind, give_up, close, Inventory, inventory, items_of, instrs}
use Rattle.address_law.specs.Items.{Item, as_placed}
use Rattle.law.specs.Matching.{Matches}
use Rattle.law.specs.Section.{State, open_refusal, opened, with_entries, with_code, Admits, Grows, Puts, PutsToLabel, Accesses, Reserves, Binds, GivesUp, Closes, field_kind}
use Rattle.settle_law.specs.Settle.{family_for, held_at}

-- A state that opening has made, with any catalogue and code buffer.
pub record Opens (L S : Family) (s : State) : Type 0 where
  pub entries : List Entry
  pub code : List ℕ
  pub catalogue : sound entries ≡ true
  pub accepted : open_refusal L.fields S.fields code ≡ None
  pub leaves : s ≡ opened entries code

-- One call, by what its own contract says.
abbrev pub Step : Convention → Family → Family → State → Event → State → Type 0
Step C L S s (admit f o r) t = (es : List Entry) × Admits s.entries f o r es × (t ≡ with_entries s es)
Step C L S s (put f o zs r) t = (length zs ≡ 6) × Puts s f o zs r t
Step C L S s (put_to_label f o z l r) t = PutsToLabel s f o z l r t
Step C L S s (access a may_trap m fr r) t = Accesses C s a may_trap m fr r t
Step C L S s (reserve r) t = Reserves s r t
Step C L S s (bind l r) t = Binds s l r t
Step C L S s (give_up l r) t = GivesUp s l r t
Step C L S s (close symbols (Ok _)) t = ⊥
Step C L S s (close symbols (Err e)) t = Closes L S s symbols (Err e) t.code × (t ≡ s)

-- A list of calls, from one state to another. A refused close goes on with the section; an accepted one ends it. A call may have been lent
-- another buffer, of another length: it is what the call's contract says of that buffer, and the next call is lent the old one again.
pub data Run (C : Convention) (L S : Family) : State → List Event → State → Type 0 where
  done : {s : State} → Run C L S s [] s
  then : {s m t : State} {e : Event} {es : List Event} → Step C L S s e m → Run C L S m es t → Run C L S s (e ∷ es) t
  lent : {s t : State} {e : Event} {es : List Event} (other : List ℕ) (m : State) → length other ≢ s.books.room → Step C L S (with_code s other) e m
      → Run C L S (with_code m s.code) es t → Run C L S s (e ∷ es) t

-- Along every run from an opened section the section holds what the calls have put in.
abbrev pub InventoryMatches : Type 0
InventoryMatches = (C : Convention) → lawful_convention C ≡ true → (L S : Family) (o s : State) (es : List Event) → Opens L S o → Run C L S o es s → Matches C (inventory C es) s

-- The family of an aimed item's target, asked at the item, holds the target's place minus the item's.
abbrev pub HoldsAim : Family → Family → (Target → Option ℤ) → List ℕ → Item → Option Target → Type 0
HoldsAim L S where_is code it None = Unit {0}
HoldsAim L S where_is code it (Some t) =
    (p : ℤ) × (where_is t ≡ Some p)
    × (held_at (family_for L S t).fields (field_kind it.instr.form) it.place code ≡ Ok (p -ℤ pos it.place))

-- The items of an access reach the address that it named.
abbrev pub ReachesNamed : Convention → (Target → Option ℤ) → Option Mode → List Item → Type 0
ReachesNamed C where_is None its = Unit {0}
ReachesNamed C where_is (Some m) its = Reaches C where_is m (map as_placed its)

abbrev pub instrs_of : Inventory → List Instr
instrs_of v = instrs (items_of v.groups)

-- Finished code, under a catalogue, is faithful to an inventory.
pub record Faithful (C : Convention) (L S : Family) (entries : List Entry) (symbols : List ℤ) (code : List ℕ) (v : Inventory) : Type 0 where
  -- (a) read from byte 0 it gives exactly the inventory's instructions at their places, and none at the length, where the reader stays; and
  -- no other list of catalogued instructions has these bytes
  pub whole : length code ≡ v.len
  pub reads : Reads entries code 0 (map as_placed (items_of v.groups))
  pub ends : read_step entries code v.len ≡ (Ok None, v.len)
  pub lists : AllByRecursion (Catalogued entries) (instrs_of v)
  pub spells : bytes_of_all (instrs_of v) ≡ code
  pub unique : (is : List Instr) → AllByRecursion (Catalogued entries) is → bytes_of_all is ≡ code → is ≡ instrs_of v
  -- (b) each aimed field holds its distance, as its family reads it
  pub holds : AllByRecursion (λ it. HoldsAim L S (place_of v.labels symbols) code it it.aim) (items_of v.groups)
  -- (c) each access reaches the address that it named
  pub reaches : AllByRecursion (λ g. ReachesNamed C (place_of v.labels symbols) g.address g.items) v.groups

-- What an accepted close promises of the section s that it closed: whatever calls have led to s, the finished code is faithful to them, under
-- the catalogue at close and under each that admitting makes of it later.
abbrev pub Promises : Convention → Family → Family → State → List ℤ → List ℕ → Type 0
Promises C L S s symbols code =
    (o : State) (es : List Event) (later : List Entry) → Opens L S o → Run C L S o es s → Grows s.entries later →
    Faithful C L S later symbols (take s.books.len code) (inventory C (es ++ close symbols (Ok tt) ∷ []))

-- The law, for every lawful convention and any two families by their laws alone.
abbrev pub Law : Type 0
Law =
    (C : Convention) → lawful_convention C ≡ true →
    (L S : Family) → Lawful L → Lawful S →
    (s : State) (symbols : List ℤ) (code : List ℕ) → Closes L S s symbols (Ok tt) code → Promises C L S s symbols code
