-- The code's rows and what it makes of them, in the words of the forms.
use Rattle.std.specs.Prelude.{◌++◌, replicate, ℕ, suc, ◌-◌, ◌*◌, Bool, true, cond, List, length, ℤ, pos, negsuc, ◌==◌, nat_lt, slice_index_or, unsigned_abs}
use Rattle.refusal.specs.Numbers.{from_bits}
use Rattle.form.specs.declared.OperandKind.{OperandKind}
use Rattle.form.specs.declared.OperandKind.TheVariants.{M}
use Rattle.form.specs.Form as rows
use Rattle.form.specs.Encode.{width, field_of, In}
use Rattle.codec.specs.declared.row.Digit.{Digit}
use Rattle.codec.specs.declared.row.Digit.TheVariants.{Op, Arg, Vector, Unused, Rxb}

-- a digit of the code's row
abbrev pub digit_of : Digit → rows.Digit
digit_of (Op k) = rows.op k
digit_of (Arg i k) = rows.arg i k
digit_of (Vector i) = rows.vec i
digit_of Unused = rows.unused
digit_of Rxb = rows.rxb

-- a digit that stands at most seventh from the low end of its number, so that sums of digits are small
abbrev pub low : Digit → Bool
low (Op k) = nat_lt k 8
low (Arg i k) = nat_lt k 8
low (Vector i) = true
low Unused = true
low Rxb = true

-- a two's complement number whose top bit is h
abbrev pub twos_by : ℕ → ℕ → ℤ
twos_by h n = cond (nat_lt n h) (pos n) (negsuc (2 * h - suc n))

-- operand i of a form, 0 where it has none
abbrev pub operand_at : List OperandKind → List rows.Digit → List ℕ → ℕ → ℤ
operand_at ks ds xs i = cond (nat_lt i (length ks)) (from_bits (width (slice_index_or ks i M)) (field_of i ds xs)) (pos 0)

-- whether operand i may be z
abbrev pub taken_at : List OperandKind → ℕ → ℤ → Bool
taken_at ks i z = cond (nat_lt i (length ks)) (In (slice_index_or ks i M) z) (unsigned_abs z == 0)

-- these digits, and zeros up to twelve
abbrev pub twelve : List ℕ → List ℕ
twelve xs = xs ++ replicate (12 - length xs) 0
