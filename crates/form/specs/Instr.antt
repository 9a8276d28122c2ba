-- Instructions and their bytes.
use Rattle.std.specs.Prelude.{ℕ, List, [], ◌∷◌, ◌++◌, ℤ}
use Rattle.form.specs.declared.Form.{Form}
use Rattle.form.specs.declared.instr.Instr.{Instr}
use Rattle.form.specs.Encode.{encode, six}

abbrev pub bytes_of : Instr → List ℕ
bytes_of i = encode i.form i.opcode i.operands

abbrev pub bytes_of_all : List Instr → List ℕ
bytes_of_all [] = []
bytes_of_all (i ∷ is) = bytes_of i ++ bytes_of_all is

-- the operands that are left out are 0
abbrev pub instr : Form → ℕ → List ℤ → Instr
instr f o zs = record { form = f; opcode = o; operands = six zs }
