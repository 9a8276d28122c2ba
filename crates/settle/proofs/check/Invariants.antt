use Rattle.std.proofs.Common.{◌≡◌, take, None}
use Rattle.field.specs.Family.{family}
use Rattle.book.specs.Labels.{place_of}
use Rattle.book.specs.Listed.{labels_in}
use Rattle.settle_law.specs.Settle.{uses_refusal}
use Rattle.settle.proofs.check.Given as goal

abbrev pub invariant-loop-field : goal.invariant-loop-field
invariant-loop-field g l =
    uses_refusal (family g.L.FieldRead.fields g.L.FieldPatch.patched) (family g.S.FieldRead.fields g.S.FieldPatch.patched) (place_of (labels_in l.places.labels.now) l.places.symbols.now) l.code (take l.field-index l.uses) ≡ None
