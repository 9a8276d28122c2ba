use Rattle.std.proofs.Common.{Ok, sym, refl}
use Rattle.field.specs.Family.{Family, family}
use Rattle.address.specs.Convention.{standard}
use Rattle.law.specs.Section.{Closes}
use Rattle.law.proofs.Plugged.{law_holds}
use Rattle.section.specs.State.{state}
use Rattle.section.proofs.Closed.{closed}
use Rattle.section.proofs.section.Section.close.Goals as goal

pub returns-clause-promises : goal.returns-clause-promises
returns-clause-promises g c es _ =
    let l : Family = family g.L.FieldRead.fields g.L.FieldPatch.patched in
    let m : Family = family g.S.FieldRead.fields g.S.FieldPatch.patched in
    let step : Closes l m (state c.args.self es c.args.code.now) c.args.symbols.now (Ok tt) c.settle.new.code =
    closed l m (state c.args.self es c.args.code.now) c.args.symbols.now c.as_slice.result.now (sym c.if-is_other.ensures) c.as_slice.ensures c.in_default.ensures in
    law_holds standard refl l m g.met.L.FieldPatch.patches g.met.S.FieldPatch.patches (state c.args.self es c.args.code.now) c.args.symbols.now c.settle.new.code step
