use mathlib.Core.Path.{◌≡◌}
use mathlib.Core.Bool.{true}
use Prim.Native.Nat.{◌<◌}
use borrow.Author.Rules.{rules}
use Rattle.operand.specs.Registers.{gpr}
use Rattle.form.proofs.Digits.{digits}
use Rattle.enc_imm.proofs.enc_rie_f.Goals as goal

pub returns : goal.returns
returns c =
    let e1 : gpr c.args.r1 ≡ true = search rules in
    let e2 : gpr c.args.r2 ≡ true = search rules in
    let i3 : c.args.i3 < 256 = search rules in
    let i4 : c.args.i4 < 256 = search rules in
    let i5 : c.args.i5 < 256 = search rules in
    simp (digits, e1, e2)
