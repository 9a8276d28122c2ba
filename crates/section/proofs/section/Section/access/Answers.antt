use Rattle.std.proofs.Common.{◌≡◌, is_some, Err, sym, ap, ◌∙◌, rules}
use Rattle.catalogue.specs.Listed.{entries_in}
use Rattle.address.specs.Convention.{standard}
use Rattle.address.specs.Address.{mode, target_of}
use Rattle.address.specs.Held.{items_of}
use Rattle.law.specs.Section.{State}
use Rattle.section.specs.State.{state}
use Rattle.section.proofs.Steps.{aimed_is, written_room}
use Rattle.section.proofs.Accessed.{unplanned, no_space, fitting, done}
use Rattle.section.proofs.section.Section.access.Goals as goal

pub write_plan-requires : goal.write_plan-requires
write_plan-requires g c =
    let es = entries_in c.args.catalogue.now in
    let r = c.args.request.now in
    let aimed = c.is_some.ensures ∙ (ap is_some (c.target.ensures standard r.frame.now) ∙ aimed_is (target_of (mode standard r.frame.now r.mem))) in
    let f = fitting (state c.args.self.now es c.args.code.now) r.access r.may_trap r.mem r.frame.now (sym c.if-is_other.ensures)
    (items_of c.in_ok-plan.plan) c.is_some.result c.size.result c.in_ok-plan.ensures aimed c.size.ensures c.in_ok-space.ensures.answers c.args.catalogue.now.sound c.space.ensures.few in
    record { ours = f.ours; room = f.room; in_kind = f.in_kind; uses = f.uses }

pub returns-in_err-plan-clause-step : goal.returns-in_err-plan-clause-step
returns-in_err-plan-clause-step g c =
    let r = c.args.request.now in
    let e : c.from_residual.result ≡ Err c.in_err-plan.field-0.0 = search rules in
    rw e
    (unplanned (state c.args.self.now (entries_in c.args.catalogue.now) c.args.code.now) r.access r.may_trap r.mem r.frame.now (sym c.if-is_other.ensures)
    c.in_err-plan.field-0.0 c.in_err-plan.ensures)

pub returns-in_err-space-clause-step : goal.returns-in_err-space-clause-step
returns-in_err-space-clause-step g c =
    let r = c.args.request.now in
    let e : c.from_residual-in_err-space.result ≡ Err c.in_err-space.field-0.0 = search rules in
    let aimed = c.is_some.ensures ∙ (ap is_some (c.target.ensures standard r.frame.now) ∙ aimed_is (target_of (mode standard r.frame.now r.mem))) in
    rw e
    (no_space (state c.args.self.now (entries_in c.args.catalogue.now) c.args.code.now) r.access r.may_trap r.mem r.frame.now (sym c.if-is_other.ensures)
    (items_of c.in_ok-plan.plan) c.is_some.result c.size.result c.in_ok-plan.ensures aimed c.size.ensures c.in_err-space.field-0.0 c.in_err-space.ensures.answers)

pub returns-clause-step : goal.returns-clause-step
returns-clause-step g c =
    let es = entries_in c.args.catalogue.now in
    let r = c.args.request.now in
    let aimed = c.is_some.ensures ∙ (ap is_some (c.target.ensures standard r.frame.now) ∙ aimed_is (target_of (mode standard r.frame.now r.mem))) in
    done (state c.args.self.now es c.args.code.now) r.access r.may_trap r.mem r.frame.now (sym c.if-is_other.ensures)
    (items_of c.in_ok-plan.plan) c.is_some.result c.size.result c.in_ok-plan.ensures aimed c.size.ensures c.in_ok-space.ensures.answers
    (state c.write_plan.new.self es c.write_plan.new.code) (c.write_plan.ensures es)

pub returns-clause-room : goal.returns-clause-room
returns-clause-room g c =
    let es = entries_in c.args.catalogue.now in
    ap (λ (t : State). t.books.room) (c.write_plan.ensures es) ∙ written_room (state c.args.self.now es c.args.code.now) (items_of c.in_ok-plan.plan)
