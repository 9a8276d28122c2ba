-- What a calling convention sets.
use Rattle.std.specs.Prelude.{ℕ, Bool, not, ◌&&◌, ◌==◌, nat_le, nat_lt}
use Rattle.operand.specs.declared.reg.RegClass.TheVariants.{Int}
use Rattle.operand.specs.declared.reg.Reg.{Reg}

-- the number of the register that reads as zero where it is a base or an index
abbrev pub zero_reg : ℕ
zero_reg = 0

-- the integer register of this number
abbrev pub int_reg : ℕ → Reg
int_reg n = record { class = Int; number = n }

pub record Convention : Type 0 where
  pub stack : ℕ  -- the stack's register
  pub temporary : ℕ  -- the register that helpers set
  pub save_area : ℕ  -- the size of the register save area

abbrev pub standard : Convention
standard = record { stack = 15; temporary = 1; save_area = 160 }

-- the two are integer registers, distinct and none of them register 0, and the save area is small
abbrev pub lawful_convention : Convention → Bool
lawful_convention c =
    nat_lt c.stack 16 && nat_lt c.temporary 16
    && not (c.stack == zero_reg) && not (c.temporary == zero_reg) && not (c.stack == c.temporary)
    && nat_le c.save_area 4096
