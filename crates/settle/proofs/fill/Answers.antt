use Rattle.field.specs.Family.{family}
use Rattle.book.specs.Labels.{place_of}
use Rattle.book.specs.Listed.{labels_in}
use Rattle.settle.proofs.AllUses.{filled_more, all_filled}
use Rattle.settle.proofs.fill.Goals as goal

pub loop-field-preserved : goal.loop-field-preserved
loop-field-preserved g c =
    filled_more (family g.L.FieldRead.fields g.L.FieldPatch.patched) (family g.S.FieldRead.fields g.S.FieldPatch.patched)
    (place_of (labels_in c.args.places.now.labels.now) c.args.places.now.symbols.now) c.args.code.now c.loop-field.code c.args.uses.now
    c.loop-field.field-index c.loop-field.invariant c.fill_use.new.code c.distance_of-wanted.result c.loop-field-test.true c.distance_of-wanted.ensures c.fill_use.ensures

pub returns : goal.returns
returns g c =
    all_filled (family g.L.FieldRead.fields g.L.FieldPatch.patched) (family g.S.FieldRead.fields g.S.FieldPatch.patched)
    (place_of (labels_in c.args.places.now.labels.now) c.args.places.now.symbols.now) c.args.code.now c.loop-field.code c.args.uses.now
    c.loop-field.field-index c.loop-field.invariant c.loop-field-test.false
