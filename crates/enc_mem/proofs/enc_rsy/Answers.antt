use mathlib.Core.Path.{◌≡◌}
use mathlib.Core.Bool.{true}
use borrow.Author.Rules.{rules}
use Rattle.operand.specs.Registers.{gpr, gpr_or_fpr}
use Rattle.form.proofs.Digits.{digits}
use Rattle.enc_mem.proofs.enc_rsy.Goals as goal

pub returns : goal.returns
returns c =
    let e1 : gpr_or_fpr c.args.r1 ≡ true = search rules in
    let e2 : gpr_or_fpr c.args.r3 ≡ true = search rules in
    let e3 : gpr c.args.b2 ≡ true = search rules in
    simp (digits, e1, e2, e3)
