use Rattle.std.proofs.Common.{◌≡◌, take}
use Rattle.field.specs.Family.{family}
use Rattle.book.specs.Labels.{place_of}
use Rattle.book.specs.Listed.{labels_in}
use Rattle.settle_law.specs.Settle.{patched_all}
use Rattle.settle.proofs.fill.Given as goal

abbrev pub invariant-loop-field : goal.invariant-loop-field
invariant-loop-field g l =
    l.code ≡ patched_all (family g.L.FieldRead.fields g.L.FieldPatch.patched) (family g.S.FieldRead.fields g.S.FieldPatch.patched) (place_of (labels_in l.places.labels.now) l.places.symbols.now) l.initial.code (take l.field-index l.uses)
