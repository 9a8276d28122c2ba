use Rattle.std.proofs.Common.{◌≡◌, ◌<◌, get_or, Err, sym, ◌∙◌, arith, w8, Fits, rules}
use Rattle.std.proofs.ByRecursion.{All-from_get_or}
use Rattle.refusal.specs.Refusals.{Answer, answered}
use Rattle.field.specs.Family.{family}
use Rattle.book.specs.Labels.{place_of}
use Rattle.book.specs.Listed.{labels_in}
use Rattle.settle_law.specs.Settle.{uses_refusal}
use Rattle.settle.proofs.AllUses.{checked_more, checked_stop, all_checked}
use Rattle.settle.proofs.check.Goals as goal

pub loop-field-preserved : goal.loop-field-preserved
loop-field-preserved g c =
    checked_more (family g.L.FieldRead.fields g.L.FieldPatch.patched) (family g.S.FieldRead.fields g.S.FieldPatch.patched)
    (place_of (labels_in c.args.places.now.labels.now) c.args.places.now.symbols.now) c.args.code.now c.args.uses.now c.loop-field.field-index
    c.loop-field-test.true c.loop-field.invariant c.distance_of-wanted.result c.distance_of-wanted.ensures c.in_ok-plan_use.field-0
    (sym c.in_ok-plan_use.was ∙ c.plan_use.ensures)

pub returns-in_err-plan_use : goal.returns-in_err-plan_use
returns-in_err-plan_use g c =
    let e : ◌≡◌ {A = Answer} (Err c.in_err-plan_use.field-0.0) (answered (uses_refusal (family g.L.FieldRead.fields g.L.FieldPatch.patched) (family g.S.FieldRead.fields g.S.FieldPatch.patched) (place_of (labels_in c.args.places.now.labels.now) c.args.places.now.symbols.now) c.args.code.now c.args.uses.now) tt) =
    checked_stop (family g.L.FieldRead.fields g.L.FieldPatch.patched) (family g.S.FieldRead.fields g.S.FieldPatch.patched)
    (place_of (labels_in c.args.places.now.labels.now) c.args.places.now.symbols.now) c.args.code.now c.args.uses.now c.loop-field.field-index
    c.loop-field-test.true c.loop-field.invariant c.distance_of-wanted.result c.distance_of-wanted.ensures c.in_err-plan_use.field-0.0
    (sym c.in_err-plan_use.was ∙ c.plan_use.ensures) in
    record { answers = search rules; bytes = All-from_get_or (λ b. b < 256) c.args.code.now 0 (λ i h. let f : Fits w8 (get_or c.args.code.now i 0) = c.type_inv.code i in omega arith) }

pub returns : goal.returns
returns g c =
    record {
      answers =
          all_checked (family g.L.FieldRead.fields g.L.FieldPatch.patched) (family g.S.FieldRead.fields g.S.FieldPatch.patched)
          (place_of (labels_in c.args.places.now.labels.now) c.args.places.now.symbols.now) c.args.code.now c.args.uses.now
          c.loop-field.field-index c.loop-field-test.false c.loop-field.invariant;
      bytes = All-from_get_or (λ b. b < 256) c.args.code.now 0 (λ i h. let f : Fits w8 (get_or c.args.code.now i 0) = c.type_inv.code i in omega arith);
    }
