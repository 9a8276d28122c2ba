-- What a list of calls has put into a section, told from their arguments and answers alone.
use Rattle.address.specs.Convention.{Convention}
use Rattle.address_law.specs.Items.{Item, placed_from, filled}
use Rattle.std.specs.Prelude.{ℕ, ◌+◌, Bool, List, [], ◌∷◌, ◌++◌, map, ℤ, Some, None, Ok, Err, Option, Result}
use Rattle.refusal.specs.declared.Refusal.{Refusal}
use Rattle.form.specs.declared.Form.{Form}
use Rattle.address.specs.declared.args.MemArg.{MemArg}
use Rattle.address.specs.declared.frame.Frame.{Frame}
use Rattle.address.specs.declared.access.Access.{Access}
use Rattle.refusal.specs.Refusals.{Answer}
use Rattle.form.specs.declared.instr.Instr.{Instr}
use Rattle.address.specs.Aimed.{to_put, to_branch, size_of_all}
use Rattle.address.specs.declared.access.Aimed.{Aimed}
use Rattle.address.specs.Address.{Mode}
use Rattle.address.specs.Access.{plan}
use Rattle.book.specs.declared.target.Slot.{Slot}
use Rattle.book.specs.declared.target.Slot.TheVariants.{Waiting as waiting, Bound as bound, GivenUp as given_up}
use Rattle.book.specs.Labels.{settle_label, place_of}
use Rattle.book.specs.declared.target.Target.{Target}

-- A call: its arguments and its answer. Numbers have no bounds here: a call's contract has to check each argument, unless its type keeps it
-- (the displacements of `MemArg`, by the ghost fields of UImm12 and SImm20, which the law depends on).
pub data Event : Type 0 where
  admit : Form → ℕ → Answer → Event
  put : Form → ℕ → List ℤ → Answer → Event
  put_to_label : Form → ℕ → ℤ → ℕ → Answer → Event  -- form, opcode, first operand, label
  access : Access → Bool → MemArg → Frame → Answer → Event  -- the flag: it may trap
  reserve : Result ℕ Refusal → Event
  bind : ℕ → Answer → Event
  give_up : ℕ → Answer → Event
  close : List ℤ → Answer → Event  -- the symbols' places

-- what one call put in, and the address that it named
pub record Group : Type 0 where
  pub address : Option Mode
  pub items : List Item

pub record Inventory : Type 0 where
  pub groups : List Group
  pub len : ℕ
  pub labels : List Slot

abbrev pub empty : Inventory
empty = record { groups = []; len = 0; labels = [] }

abbrev pub added : Inventory → Option Mode → List Aimed → Inventory
added v address ws =
    record {
      groups = v.groups ++ record { address = address; items = placed_from v.len ws } ∷ [];
      len = v.len + size_of_all ws;
      labels = v.labels;
    }

abbrev pub relabelled : Inventory → List Slot → Inventory
relabelled v ls = record { groups = v.groups; len = v.len; labels = ls }

abbrev pub filled_group : (Target → Option ℤ) → Group → Group
filled_group where_is g = record { address = g.address; items = map (filled where_is) g.items }

-- each aimed distance becomes the target's place minus the instruction's
abbrev pub filled_all : Inventory → List ℤ → Inventory
filled_all v symbols = record { groups = map (filled_group (place_of v.labels symbols)) v.groups; len = v.len; labels = v.labels }

abbrev pub fed : Convention → Inventory → Event → Inventory
fed C v (admit f o r) = v
fed C v (put f o zs (Ok _)) = added v None (to_put f o zs)
fed C v (put f o zs (Err _)) = v
fed C v (put_to_label f o z l (Ok _)) = added v None (to_branch f o z l)
fed C v (put_to_label f o z l (Err _)) = v
fed C v (access a may_trap m fr (Ok _)) = let p = plan C a may_trap m fr in added v (Some p.mode) p.items
fed C v (access a may_trap m fr (Err _)) = v
fed C v (reserve (Ok l)) = relabelled v (v.labels ++ waiting ∷ [])
fed C v (reserve (Err _)) = v
fed C v (bind l (Ok _)) = relabelled v (settle_label v.labels l (bound v.len))
fed C v (bind l (Err _)) = v
fed C v (give_up l (Ok _)) = relabelled v (settle_label v.labels l given_up)
fed C v (give_up l (Err _)) = v
fed C v (close symbols (Ok _)) = filled_all v symbols
fed C v (close symbols (Err _)) = v

abbrev pub fed_all : Convention → Inventory → List Event → Inventory
fed_all C v [] = v
fed_all C v (e ∷ es) = fed_all C (fed C v e) es

abbrev pub inventory : Convention → List Event → Inventory
inventory C es = fed_all C empty es

-- all its items, in order

abbrev pub items_of : List Group → List Item
items_of [] = []
items_of (g ∷ gs) = g.items ++ items_of gs

abbrev pub instrs : List Item → List Instr
instrs its = map (λ it. it.instr) its
