use Rattle.std.proofs.Common.{◌≡◌, ◌<◌, true, rules}
use Rattle.operand.specs.Registers.{vr}
use Rattle.form.proofs.Digits.{digits, bytes}
use Rattle.enc_vec.proofs.High.{high}
use Rattle.enc_vec.proofs.enc_vri_b.Goals as goal

pub returns : goal.returns
returns c =
    let e1 : vr c.args.v1 ≡ true = search rules in
    let i2 : c.args.i2 < 256 = search rules in
    let i3 : c.args.i3 < 256 = search rules in
    let h1 = high c.args.v1 e1 in
    let x : c.rxb-rxb.result < 16 = c.rxb-rxb.ensures.small in
    simp (digits, e1)
    (simp (c.rxb-rxb.ensures.is, h1, bytes))
