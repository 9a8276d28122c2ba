use Rattle.std.proofs.Common.{◌≡◌, ◌<◌, true, rules}
use Rattle.operand.specs.Registers.{gpr, vr}
use Rattle.form.proofs.Digits.{digits, bytes}
use Rattle.enc_vec.proofs.High.{high}
use Rattle.enc_vec.proofs.enc_vrs_a.Goals as goal

pub returns : goal.returns
returns c =
    let e1 : vr c.args.v1 ≡ true = search rules in
    let e2 : gpr c.args.b2 ≡ true = search rules in
    let e3 : vr c.args.v3 ≡ true = search rules in
    let h1 = high c.args.v1 e1 in
    let h3 = high c.args.v3 e3 in
    let x : c.rxb-rxb.result < 16 = c.rxb-rxb.ensures.small in
    simp (digits, e1, e2, e3)
    (simp (c.rxb-rxb.ensures.is, h1, h3, bytes))
