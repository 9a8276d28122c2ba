-- Comparing with a class is being of that class.
use Rattle.std.proofs.Common.{◌≡◌, refl}
use denote.Enum.Bare.{sameb}
use Rattle.operand.specs.declared.reg.RegClass.{RegClass}
use Rattle.operand.specs.declared.reg.RegClass.TheVariants.{Int, Float}
use Rattle.operand.specs.contracts.reg.RegClass.{the_type}
use Rattle.operand.specs.Registers.{is_int, is_float}

pub same_int : (c : RegClass) → sameb the_type c Int ≡ is_int c
same_int Int = refl
same_int Float = refl

pub same_float : (c : RegClass) → sameb the_type c Float ≡ is_float c
same_float Int = refl
same_float Float = refl
