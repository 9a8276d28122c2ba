-- Instructions that are to be written, and what they are aimed at.
use Rattle.std.specs.Prelude.{ℕ, ◌+◌, List, [], ◌∷◌, ℤ, Some, None, Option}
use Rattle.form.specs.declared.Form.{Form}
use Rattle.form.specs.Form.{size}
use Rattle.form.specs.declared.instr.Instr.{Instr}
use Rattle.address.specs.declared.access.Aimed.{Aimed}
use Rattle.form.specs.Instr.{instr}
use Rattle.book.specs.declared.target.Target.{Target}
use Rattle.book.specs.declared.target.Target.TheVariants.{Label as to_label}

-- how many bytes they have
abbrev pub size_of_all : List Aimed → ℕ
size_of_all [] = 0
size_of_all (w ∷ ws) = size w.instr.form + size_of_all ws

-- one instruction by an opcode that was given
abbrev pub by : Option ℕ → Option Target → (ℕ → Instr) → List Aimed
by None t i = []
by (Some o) t i = record { instr = i o; aim = t } ∷ []

-- what `put` and `put to label` write
abbrev pub to_put : Form → ℕ → List ℤ → List Aimed
to_put f o zs = record { instr = record { form = f; opcode = o; operands = zs }; aim = None } ∷ []

abbrev pub to_branch : Form → ℕ → ℤ → ℕ → List Aimed
to_branch f o z l = record { instr = instr f o (z ∷ []); aim = Some (to_label l) } ∷ []
