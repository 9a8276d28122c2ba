-- Instructions at their places, and their distances to what they are aimed at.
use Rattle.std.specs.Prelude.{ℕ, ◌+◌, List, [], ◌∷◌, ℤ, pos, ◌-ℤ◌, Some, None, Option, slice_set}
use Rattle.form.specs.declared.instr.Instr.{Instr}
use Rattle.form.specs.declared.instr.Placed.{Placed}
use Rattle.form.specs.Form.{size}
use Rattle.book.specs.declared.target.Target.{Target}
use Rattle.address.specs.declared.access.Aimed.{Aimed}

-- an instruction that was put in, where it stands, and what it is aimed at
pub record Item : Type 0 where
  pub place : ℕ
  pub instr : Instr
  pub aim : Option Target

-- an instruction's place is the bytes before it
abbrev pub placed_from : ℕ → List Aimed → List Item
placed_from at [] = []
placed_from at (w ∷ ws) = record { place = at; instr = w.instr; aim = w.aim } ∷ placed_from (at + size w.instr.form) ws

-- operand 1 of an aimed instruction is its distance
abbrev pub with_distance : Instr → ℤ → Instr
with_distance i d = record { form = i.form; opcode = i.opcode; operands = slice_set i.operands 1 d }

-- the distance runs from the instruction's own place to the target's
abbrev pub filled_to : Item → Option ℤ → Item
filled_to it None = it
filled_to it (Some p) = record { place = it.place; instr = with_distance it.instr (p -ℤ pos it.place); aim = it.aim }

abbrev pub filled_by : (Target → Option ℤ) → Item → Option Target → Item
filled_by where_is it None = it
filled_by where_is it (Some t) = filled_to it (where_is t)

abbrev pub filled : (Target → Option ℤ) → Item → Item
filled where_is it = filled_by where_is it it.aim

abbrev pub as_placed : Item → Placed
as_placed it = record { place = it.place; instr = it.instr }
