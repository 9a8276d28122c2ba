use Rattle.std.proofs.Common.{sym, ◌∙◌}
use Rattle.field.specs.Family.{family}
use Rattle.book.specs.Listed.{labels_in}
use Rattle.settle_law.proofs.Theorem.{settles}
use Rattle.settle.proofs.settle.Goals as goal

pub returns : goal.returns
returns g c =
    settles (family g.L.FieldRead.fields g.L.FieldPatch.patched) (family g.S.FieldRead.fields g.S.FieldPatch.patched)
    g.met.L.FieldPatch.patches g.met.S.FieldPatch.patches (labels_in c.args.places.now.labels.now) c.args.places.now.symbols.now c.args.uses.now
    c.args.code.now c.fill.new.code c.check.ensures.bytes (sym c.in_ok-check.was ∙ c.check.ensures.answers) c.fill.ensures
