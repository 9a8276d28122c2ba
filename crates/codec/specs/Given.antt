-- Operands as the encoders are given them.
use Rattle.std.specs.Prelude.{ℕ, suc, List, [], ◌∷◌, ℤ, pos, slice_index_or}
use Rattle.refusal.specs.Numbers.{wrap}
use Rattle.operand.specs.declared.reg.RegClass.TheVariants.{Int, Float}
use Rattle.operand.specs.declared.reg.Reg.{Reg}
use Rattle.form.specs.declared.OperandKind.{OperandKind}
use Rattle.form.specs.declared.OperandKind.TheVariants.{G, N, V, F, M, U8, U16, U32, S16, D12, D20, H16, H32}
use Rattle.form.specs.Encoders.{Operand, register, numeral}

abbrev pub general_reg : ℤ → Reg
general_reg z = record { class = Int; number = wrap 8 z }

abbrev pub vector_reg : ℤ → Reg
vector_reg z = record { class = Float; number = wrap 8 z }

-- a number as an operand of its kind
abbrev pub given : OperandKind → ℤ → Operand
given G z = register (general_reg z)
given N z = register (general_reg z)
given V z = register (vector_reg z)
given F z = register (vector_reg z)
given M z = numeral (pos (wrap 8 z))
given U8 z = numeral (pos (wrap 8 z))
given U16 z = numeral (pos (wrap 16 z))
given U32 z = numeral (pos (wrap 32 z))
given S16 z = numeral z
given D12 z = numeral (pos (wrap 32 z))
given D20 z = numeral (pos (wrap 32 z))
given H16 z = numeral z
given H32 z = numeral z

-- the operands from number i on
abbrev pub given_from : ℕ → List OperandKind → List ℤ → List Operand
given_from i [] zs = []
given_from i (k ∷ ks) zs = given k (slice_index_or zs i (pos 0)) ∷ given_from (suc i) ks zs
