-- Registers: a class and a number. Which of them an operand may be.
use Rattle.std.specs.Prelude.{ℕ, Bool, true, false, ◌&&◌, nat_lt}
use Rattle.operand.specs.declared.reg.RegClass.{RegClass}
use Rattle.operand.specs.declared.reg.RegClass.TheVariants.{Int, Float}
use Rattle.operand.specs.declared.reg.Reg.{Reg}

abbrev pub is_int : RegClass → Bool
is_int Int = true
is_int Float = false

abbrev pub is_float : RegClass → Bool
is_float Int = false
is_float Float = true

-- the register of each class with this number
abbrev pub general : ℕ → Reg
general n = record { class = Int; number = n }

abbrev pub vector : ℕ → Reg
vector n = record { class = Float; number = n }

-- a general register: integer, 0 to 15
unfoldable pub gpr : Reg → Bool
gpr r = is_int r.class && nat_lt r.number 16

-- a general or a floating-point register: either class, 0 to 15
unfoldable pub gpr_or_fpr : Reg → Bool
gpr_or_fpr r = nat_lt r.number 16

-- a vector register: float, 0 to 31
unfoldable pub vr : Reg → Bool
vr r = is_float r.class && nat_lt r.number 32

-- a floating-point register: float, 0 to 15
unfoldable pub fpr : Reg → Bool
fpr r = is_float r.class && nat_lt r.number 16
