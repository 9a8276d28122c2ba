-- Writing keeps the relation between an inventory and a state.
use Rattle.address.specs.Convention.{Convention}
use Rattle.std.proofs.Common.{◌≡◌, ℕ, ◌+◌, ◌≤◌, List, [], ◌∷◌, ◌++◌, map, length, take, drop, Option, sym, refl, ap, ◌∙◌, subst, append_assoc, append-nil, arith, length-append, length-drop, length-take-le, take_at}
use lib.Seq.{take-length}
use Rattle.std.specs.List.{AllByRecursion}
use Rattle.form.specs.declared.instr.Entry.{Entry}
use Rattle.form.specs.Form.{size}
use Rattle.address.specs.Address.{Mode}
use Rattle.law.specs.Inventory.{Group, Inventory, added, items_of, instrs}
use Rattle.address_law.specs.Items.{Item, placed_from, as_placed}
use Rattle.law.specs.Section.{State, use_at, written_one, written}
use Rattle.catalogue_law.proofs.Basics.{all_append}
use Rattle.catalogue_law.proofs.Encoding.{encode_length}
use Rattle.law.specs.Matching.{uses_of, sizes, Sound, Wrote, FromAccess, Matches}
use Rattle.catalogue_law.specs.Catalogue.{Laid}
use Rattle.form.specs.declared.instr.Instr.{Instr}
use Rattle.form.specs.Instr.{bytes_of, bytes_of_all}
use Rattle.address.specs.declared.access.Aimed.{Aimed}
use Rattle.address.specs.Aimed.{size_of_all}
use Rattle.book.specs.declared.target.Use.{Use}

-- Joined lists.

pub bytes_append : (is js : List Instr) → bytes_of_all (is ++ js) ≡ bytes_of_all is ++ bytes_of_all js
bytes_append [] js = refl
bytes_append (i ∷ is) js = ap (λ (x : List ℕ). bytes_of i ++ x) (bytes_append is js) ∙ sym (append_assoc (bytes_of i) (bytes_of_all is) (bytes_of_all js))

instrs_append : (xs ys : List Item) → instrs (xs ++ ys) ≡ instrs xs ++ instrs ys
instrs_append [] ys = refl
instrs_append (x ∷ xs) ys = ap {B = List Instr} (λ r. x.instr ∷ r) (instrs_append xs ys)

uses_append : (xs ys : List Item) → uses_of (xs ++ ys) ≡ uses_of xs ++ uses_of ys
uses_append [] ys = refl
uses_append (x ∷ xs) ys =
    ap (λ (r : List Use). use_at x.place x.instr.form x.aim ++ r) (uses_append xs ys)
    ∙ sym (append_assoc (use_at x.place x.instr.form x.aim) (uses_of xs) (uses_of ys))

sizes_append : (xs ys : List Item) → sizes (xs ++ ys) ≡ sizes xs + sizes ys
sizes_append [] ys = omega arith
sizes_append (x ∷ xs) ys = let e = sizes_append xs ys in omega arith

laid_append : (at to : ℕ) (xs ys : List Item) → at + sizes xs ≡ to → Laid at (map as_placed xs) → Laid to (map as_placed ys) → Laid at (map as_placed (xs ++ ys))
laid_append at to [] ys e h k = subst (λ (n : ℕ). Laid n (map as_placed ys)) (let z : to ≡ at = omega arith in z) k
laid_append at to (x ∷ xs) ys e h k = (h.0, laid_append (at + size x.instr.form) to xs ys (omega arith) h.1 k)

pub items_append : (gs hs : List Group) → items_of (gs ++ hs) ≡ items_of gs ++ items_of hs
items_append [] hs = refl
items_append (g ∷ gs) hs = ap (λ (r : List Item). g.items ++ r) (items_append gs hs) ∙ sym (append_assoc g.items (items_of gs) (items_of hs))

-- Writing.

abbrev pub SoundAimed : List Entry → Aimed → Type 0
SoundAimed es w = Sound es w.instr w.aim

module _ (its : List Item) (s : State) (m : Wrote its s) (w : Aimed) (ok : SoundAimed s.entries w) (there : s.books.len + size w.instr.form ≤ s.books.room) where
  abbrev here : Item
  here = record { place = s.books.len; instr = w.instr; aim = w.aim }

  abbrev b : List ℕ
  b = bytes_of w.instr

  b_length : length b ≡ size w.instr.form
  b_length = encode_length w.instr.form w.instr.opcode w.instr.operands

  front_length : length (take s.books.len s.code) ≡ s.books.len
  front_length = let r = m.room in let f = m.fits in length-take-le s.books.len s.code (omega arith)

  pub wrote_one : Wrote (its ++ here ∷ []) (written_one s w)
  wrote_one =
      record {
        starts =
            ap (λ (x : List ℕ). take (s.books.len + size w.instr.form) ((take s.books.len s.code ++ x) ++ drop (s.books.len + length b) s.code)) (take-length b)
            ∙ take_at (take s.books.len s.code ++ b) (drop (s.books.len + length b) s.code) (s.books.len + size w.instr.form) (length-append (take s.books.len s.code) b ∙ let x = front_length in let y = b_length in omega arith)
            ∙ ap (λ (x : List ℕ). x ++ b) m.starts
            ∙ ap (λ (x : List ℕ). bytes_of_all (instrs its) ++ x) (sym (append-nil b))
            ∙ sym (bytes_append (instrs its) (instrs (here ∷ [])))
            ∙ ap bytes_of_all (sym (instrs_append its (here ∷ [])));
        uses =
            ap (λ (x : List Use). x ++ use_at s.books.len w.instr.form w.aim) m.uses
            ∙ ap (λ (x : List Use). uses_of its ++ x) (sym (append-nil (use_at s.books.len w.instr.form w.aim)))
            ∙ sym (uses_append its (here ∷ []));
        laid = laid_append 0 s.books.len its (here ∷ []) (let t = m.total in omega arith) m.laid (refl, tt);
        total = let t = m.total in let e = sizes_append its (here ∷ []) in omega arith;
        sound = all_append (λ it. Sound s.entries it.instr it.aim) its (here ∷ []) m.sound (ok, tt);
        entries = m.entries;
        room = simp (length-append, front_length, length-drop, take-length) (let r = m.room in let y = b_length in omega arith);
        fits = there;
      }

pub wrote_all : (its : List Item) (s : State) (ws : List Aimed) → Wrote its s → AllByRecursion (SoundAimed s.entries) ws → s.books.len + size_of_all ws ≤ s.books.room → Wrote (its ++ placed_from s.books.len ws) (written s ws)
wrote_all its s [] m ok there = subst (λ (x : List Item). Wrote x s) (sym (append-nil its)) m
wrote_all its s (w ∷ ws) m ok there =
    subst (λ (x : List Item). Wrote x (written s (w ∷ ws))) (append_assoc its (record { place = s.books.len; instr = w.instr; aim = w.aim } ∷ []) (placed_from (s.books.len + size w.instr.form) ws))
    (wrote_all (its ++ record { place = s.books.len; instr = w.instr; aim = w.aim } ∷ []) (written_one s w) ws (wrote_one its s m w ok.0 (omega arith)) ok.1 (omega arith))

written_len : (s : State) (ws : List Aimed) → (written s ws).books.len ≡ s.books.len + size_of_all ws
written_len s [] = omega arith
written_len s (w ∷ ws) = written_len (written_one s w) ws ∙ omega arith

written_labels : (s : State) (ws : List Aimed) → (written s ws).books.labels ≡ s.books.labels
written_labels s [] = refl
written_labels s (w ∷ ws) = written_labels (written_one s w) ws

pub match_written : (C : Convention) (v : Inventory) (s : State) (address : Option Mode) (ws : List Aimed) → Matches C v s → AllByRecursion (SoundAimed s.entries) ws → s.books.len + size_of_all ws ≤ s.books.room
    → FromAccess C address (placed_from v.len ws) → Matches C (added v address ws) (written s ws)
match_written C v s address ws m ok there from =
    record {
      len = written_len s ws ∙ ap (λ (n : ℕ). n + size_of_all ws) m.len;
      labels = written_labels s ws ∙ m.labels;
      wrote =
          subst (λ (x : List Item). Wrote x (written s ws))
          (ap (λ (n : ℕ). items_of v.groups ++ placed_from n ws) m.len ∙ ap (λ (x : List Item). items_of v.groups ++ x) (sym (append-nil (placed_from v.len ws))) ∙ sym (items_append v.groups (record { address = address; items = placed_from v.len ws } ∷ [])))
          (wrote_all (items_of v.groups) s ws m.wrote ok there);
      groups = all_append (λ g. FromAccess C g.address g.items) v.groups (record { address = address; items = placed_from v.len ws } ∷ []) m.groups (from, tt);
    }
