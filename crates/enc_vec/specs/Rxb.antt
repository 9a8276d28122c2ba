-- The digit RXB, as it is formed of any registers.
use Rattle.std.specs.Prelude.{ℕ, ◌+◌, ◌*◌, cond, Some, None, Option}
use Rattle.operand.specs.declared.reg.Reg.{Reg}
use Rattle.operand.specs.Registers.{fpr}

-- a register's bit: 1 unless it is absent or a float register below 16
abbrev pub bit : Option Reg → ℕ
bit None = 0
bit (Some r) = cond (fpr r) 0 1

-- the bits 8, 4, 2 and 1
abbrev pub rxb_of : Option Reg → Option Reg → Option Reg → Option Reg → ℕ
rxb_of v1 v2 v3 v4 = 8 * bit v1 + 4 * bit v2 + 2 * bit v3 + bit v4
