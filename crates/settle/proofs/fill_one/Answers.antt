use Rattle.std.proofs.Common.{w64, SFits, to_z, of_z, rules}
use Rattle.std.proofs.lemmas.Int.{to_z-of_z}
use Rattle.field.specs.Family.{family}
use Rattle.settle.proofs.OneUse.{fills_window, unfilled}
use Rattle.settle.proofs.fill_one.Goals as goal

pub returns-in-Ok : goal.returns-in-Ok
returns-in-Ok g c =
    let d = c.in-Ok.distance in
    let f : SFits w64 d = search rules in
    fills_window (family g.F.FieldRead.fields g.F.FieldPatch.patched) c.args.field.now c.args.code.now c.args.wanted d (to_z w64 (of_z w64 d))
    c.window-from.result.0 c.window-from.result.1 c.patch.new.bytes c.in-Ok.ensures (to_z-of_z w64 d f)
    c.window-from.ensures.from c.window-from.ensures.past c.patch.auto.bytes c.patch.ensures.leaves

pub returns-in_default : goal.returns-in_default
returns-in_default g c =
    unfilled (family g.F.FieldRead.fields g.F.FieldPatch.patched) c.args.field.now c.args.code.now c.args.wanted c.in_default.field-0 c.in_default.ensures
