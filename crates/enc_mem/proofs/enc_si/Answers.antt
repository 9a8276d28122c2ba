use mathlib.Core.Path.{◌≡◌}
use mathlib.Core.Bool.{true}
use Prim.Native.Nat.{◌<◌}
use borrow.Author.Rules.{rules}
use Rattle.operand.specs.Registers.{gpr}
use Rattle.form.proofs.Digits.{digits}
use Rattle.enc_mem.proofs.enc_si.Goals as goal

pub returns : goal.returns
returns c =
    let e1 : gpr c.args.b1 ≡ true = search rules in
    let i2 : c.args.i2 < 256 = search rules in
    simp (digits, e1)
