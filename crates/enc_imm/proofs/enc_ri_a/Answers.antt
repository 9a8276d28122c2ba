use mathlib.Core.Path.{◌≡◌}
use mathlib.Core.Bool.{true}
use borrow.Author.Rules.{rules}
use Rattle.operand.specs.Registers.{gpr}
use Rattle.form.proofs.Digits.{digits, bytes}
use Rattle.enc_imm.proofs.enc_ri_a.Goals as goal

pub returns : goal.returns
returns c =
    let e1 : gpr c.args.r1 ≡ true = search rules in
    simp (digits, e1)
    (simp (c.copy_from_slice.ensures.after, c.to_be_bytes.ensures, bytes))
