-- A vector register's bit of RXB says whether it is above 15.
use Rattle.std.proofs.Common.{◌≡◌, ℕ, true, cond, ◌&&◌, ltb, Some, arith}
use mathlib.Core.Bool.{false≢true}
use Rattle.std.proofs.lemmas.Bool.Decides.{nat_tests}
use Rattle.operand.specs.declared.reg.RegClass.{RegClass}
use Rattle.operand.specs.declared.reg.RegClass.TheVariants.{Int, Float}
use Rattle.operand.specs.declared.reg.Reg.{Reg}
use Rattle.operand.specs.Registers.{is_float, vr, fpr}
use Rattle.form.specs.Encode.{above}
use Rattle.enc_vec.specs.Rxb.{bit}

of_class : (k : RegClass) (n : ℕ) → (is_float k && ltb n 32) ≡ true → cond (is_float k && ltb n 16) 0 1 ≡ above n
of_class Int n e = absurd (false≢true e)
of_class Float n e = grind (arith, nat_tests)

pub high : (r : Reg) → vr r ≡ true → bit (Some r) ≡ above r.number
unfolding vr fpr
high r e = of_class r.class r.number e
