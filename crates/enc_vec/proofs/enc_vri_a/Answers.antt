use Rattle.std.proofs.Common.{◌≡◌, ◌<◌, true, rules}
use Rattle.operand.specs.Registers.{vr}
use Rattle.form.proofs.Digits.{digits, bytes}
use Rattle.enc_vec.proofs.High.{high}
use Rattle.enc_vec.proofs.enc_vri_a.Goals as goal

pub returns : goal.returns
returns c =
    let e1 : vr c.args.v1 ≡ true = search rules in
    let h1 = high c.args.v1 e1 in
    let x : c.rxb-rxb.result < 16 = c.rxb-rxb.ensures.small in
    simp (digits, e1)
    (simp (c.copy_from_slice.ensures.after, c.to_be_bytes.ensures, c.rxb-rxb.ensures.is, h1, bytes))
