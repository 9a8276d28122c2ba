-- A section's books: its labels, and the fields that are to be filled.
use Rattle.std.specs.Prelude.{ℕ, Bool, true, false, not, leb, List, [], ◌∷◌, length, Some, None, Option, nat_le}
use Rattle.refusal.specs.declared.Reason.TheVariants as why
use Rattle.refusal.specs.Refusals.{Checks, ◌when◌}
use Rattle.book.specs.declared.target.Target.{Target}
use Rattle.book.specs.declared.target.Target.TheVariants.{Label as to_label, Symbol as to_symbol}
use Rattle.book.specs.declared.target.Slot.{Slot}
use Rattle.book.specs.declared.target.Use.{Use}
use Rattle.book.specs.Labels.{slot_of, is_waiting, is_usable}

-- a section's books
pub record Books : Type 0 where
  pub room : ℕ  -- the code buffer's length at opening
  pub len : ℕ  -- how many bytes are written
  pub labels : List Slot
  pub uses : List Use

abbrev pub largest_buffer : ℕ
largest_buffer = 1048576

abbrev pub most_labels : ℕ
most_labels = 256

abbrev pub most_uses : ℕ
most_uses = 1024

abbrev pub no_more_uses : List Use → Bool
no_more_uses us = nat_le most_uses (length us)

abbrev pub uses_full : Books → Bool
uses_full b = no_more_uses b.uses

-- FULL: a label more, a use more
abbrev pub reserve_checks : List Slot → Checks
reserve_checks ls = why.Full when leb most_labels (length ls) ∷ []

abbrev pub record_checks : List Use → Checks
record_checks us = why.Full when no_more_uses us ∷ []

-- LABEL: a label that is bound has to wait
abbrev pub bind_checks : List Slot → ℕ → Checks
bind_checks ls l = why.Label when not (is_waiting (slot_of ls l)) ∷ []

-- LABEL: a label that is named has to be reserved and not given up
abbrev pub lost_label : List Slot → Option Target → Bool
lost_label ls None = false
lost_label ls (Some (to_label l)) = not (is_usable (slot_of ls l))
lost_label ls (Some (to_symbol n offset)) = false

abbrev pub label_checks : List Slot → Option Target → Checks
label_checks ls target = why.Label when lost_label ls target ∷ []

-- what is aimed leaves a field to fill
abbrev pub leaves_use : Option Target → Bool
leaves_use None = false
leaves_use (Some t) = true
