use mathlib.Core.Path.{◌≡◌}
use mathlib.Core.Bool.{true}
use borrow.Author.Rules.{rules}
use Rattle.operand.specs.Registers.{gpr}
use Rattle.form.proofs.Digits.{digits, bytes, bits_16}
use Rattle.enc_mem.proofs.enc_sil.Goals as goal

pub returns : goal.returns
returns c =
    let e1 : gpr c.args.b1 ≡ true = search rules in
    simp (digits, e1)
    (simp (c.copy_from_slice.ensures.after, c.to_be_bytes.ensures, bits_16 c.args.i2 c.ranges.i2, bytes))
