use Rattle.std.proofs.Common.{◌≡◌, Err, inr, sym, ap, ◌∙◌, rules}
use Rattle.refusal.specs.declared.Reason.TheVariants as why
use Rattle.refusal.specs.Refusals.{refused_at}
use Rattle.address.specs.Held.{when_ok}
use Rattle.section.specs.State.{books_of}
use Rattle.section.proofs.Steps.{nothing_refuses, memory_at}
use Rattle.section.proofs.section.Section.open.Goals as goal

pub returns-in_err-labels : goal.returns-in_err-labels
returns-in_err-labels g c =
    let q = c.in_err-labels.field-0.0 in
    let e : c.from_residual.result ≡ Err q = search rules in
    let m : q ≡ refused_at 0 why.Memory = memory_at _ c.new.result q c.new.ensures c.map_err.ensures.cases (λ e q k. search rules) c.in_err-labels.was in
    inr (nothing_refuses g.L.FieldRead.fields g.S.FieldRead.fields c.args.code.now c.if-room-gt-LARGEST_BUFFER.false (sym c.both_serve.ensures ∙ c.if-not-both_serve.false), ap (when_ok books_of) e ∙ ap Err m)
