-- Labels, and where targets lie.
use Rattle.std.specs.Prelude.{ℕ, Bool, true, false, cond, List, length, ℤ, pos, ◌+ℤ◌, Some, None, Option, nat_lt, slice_index_or, slice_set}
use Rattle.book.specs.declared.target.Target.{Target}
use Rattle.book.specs.declared.target.Target.TheVariants.{Label as to_label, Symbol as to_symbol}
use Rattle.book.specs.declared.target.Slot.{Slot}
use Rattle.book.specs.declared.target.Slot.TheVariants.{Waiting as waiting, Bound as bound, GivenUp as given_up}

-- labels are numbered as they were reserved; one that was not is as good as given up
abbrev pub slot_of : List Slot → ℕ → Slot
slot_of ls l = slice_index_or ls l given_up

abbrev pub is_waiting : Slot → Bool
is_waiting waiting = true
is_waiting (bound p) = false
is_waiting given_up = false

-- a use may name it: reserved and not given up
abbrev pub is_usable : Slot → Bool
is_usable waiting = true
is_usable (bound p) = true
is_usable given_up = false

-- a label that waits becomes `new`; any other stays
abbrev pub settled : List Slot → ℕ → Slot → Slot → List Slot
settled ls l new waiting = slice_set ls l new
settled ls l new (bound p) = ls
settled ls l new given_up = ls

abbrev pub settle_label : List Slot → ℕ → Slot → List Slot
settle_label ls l new = settled ls l new (slot_of ls l)

abbrev pub place_of_slot : Slot → Option ℤ
place_of_slot waiting = None
place_of_slot (bound p) = Some (pos p)
place_of_slot given_up = None

-- where a target lies, from the section's start: a label's place, or a symbol's and the offset
abbrev pub place_of : List Slot → List ℤ → Target → Option ℤ
place_of ls symbols (to_label l) = place_of_slot (slot_of ls l)
place_of ls symbols (to_symbol n offset) = cond (nat_lt n (length symbols)) (Some (slice_index_or symbols n (pos 0) +ℤ offset)) None
