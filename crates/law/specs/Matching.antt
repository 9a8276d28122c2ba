-- What a section holds is what the calls have put in: the relation between an inventory and a state that every call keeps.
use Rattle.address.specs.Convention.{Convention}
use Rattle.std.specs.Prelude.{◌≡◌, ℕ, ◌+◌, ◌≤◌, Bool, true, List, [], ◌∷◌, ◌++◌, map, length, take, ℤ, Some, None, Option}
use Rattle.std.specs.List.{AllByRecursion}
use Rattle.form.specs.declared.instr.Entry.{Entry}
use Rattle.address.specs.declared.args.MemArg.{MemArg}
use Rattle.address.specs.declared.frame.Frame.{Frame}
use Rattle.address.specs.declared.access.Access.{Access}
use Rattle.form.specs.Form.{size}
use Rattle.form.specs.Encode.{six}
use Rattle.form.specs.declared.instr.Instr.{Instr}
use Rattle.form.specs.Instr.{bytes_of_all}
use Rattle.catalogue_law.specs.Catalogue.{Catalogued, Laid}
use Rattle.catalogue_law.specs.Catalogue.{sound as sound_catalogue}
use Rattle.address.specs.Address.{Mode}
use Rattle.address.specs.Access.{plan}
use Rattle.law.specs.Inventory.{Inventory, items_of, instrs}
use Rattle.address_law.specs.Items.{Item, placed_from, as_placed}
use Rattle.law.specs.Section.{State, use_at, branches, access_refusal}
use Rattle.book.specs.declared.target.Target.{Target}
use Rattle.book.specs.declared.target.Use.{Use}

-- the uses that the items leave
abbrev pub uses_of : List Item → List Use
uses_of [] = []
uses_of (it ∷ its) = use_at it.place it.instr.form it.aim ++ uses_of its

-- how many bytes the items have
abbrev pub sizes : List Item → ℕ
sizes [] = 0
sizes (it ∷ its) = size it.instr.form + sizes its

-- an aimed instruction is a branch, and has its first operand alone
abbrev pub AimSound : Instr → Option Target → Type 0
AimSound i None = Unit {0}
AimSound i (Some t) = (branches i.form ≡ true) × ((z : ℤ) × (i.operands ≡ six (z ∷ [])))

pub record Sound (es : List Entry) (i : Instr) (aim : Option Target) : Type 0 where
  pub catalogued : Catalogued es i
  pub aimed : AimSound i aim

-- the items are what is written in s
pub record Wrote (its : List Item) (s : State) : Type 0 where
  pub starts : take s.books.len s.code ≡ bytes_of_all (instrs its)
  pub uses : s.books.uses ≡ uses_of its
  pub laid : Laid 0 (map as_placed its)
  pub total : s.books.len ≡ sizes its
  pub sound : AllByRecursion (λ it. Sound s.entries it.instr it.aim) its
  pub entries : sound_catalogue s.entries ≡ true
  pub room : length s.code ≡ s.books.room
  pub fits : s.books.len ≤ s.books.room

-- what an accepted access, on some state, has put in from some place on
pub record Accessed (C : Convention) (md : Mode) (its : List Item) : Type 0 where
  pub state : State
  pub access : Access
  pub may_trap : Bool
  pub mem : MemArg
  pub frame : Frame
  pub from : ℕ
  pub accepted : access_refusal C state access may_trap mem frame ≡ None
  pub named : md ≡ (plan C access may_trap mem frame).mode
  pub items : its ≡ placed_from from (plan C access may_trap mem frame).items

abbrev pub FromAccess : Convention → Option Mode → List Item → Type 0
FromAccess C None its = Unit {0}
FromAccess C (Some md) its = Accessed C md its

pub record Matches (C : Convention) (v : Inventory) (s : State) : Type 0 where
  pub len : s.books.len ≡ v.len
  pub labels : s.books.labels ≡ v.labels
  pub wrote : Wrote (items_of v.groups) s
  pub groups : AllByRecursion (λ g. FromAccess C g.address g.items) v.groups
