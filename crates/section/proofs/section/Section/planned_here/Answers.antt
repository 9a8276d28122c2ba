use Rattle.std.proofs.Common.{rules}
use Rattle.refusal.specs.Refusals.{first_refusal}
use Rattle.catalogue.specs.Listed.{entries_in}
use Rattle.book.specs.Listed.{labels_in}
use Rattle.address.specs.Convention.{standard}
use Rattle.address.specs.Access.{plan}
use Rattle.address.specs.Held.{items_of}
use Rattle.section.specs.Accessing.{planned_checks}
use Rattle.section.proofs.Tested.{placed_by}
use Rattle.section.proofs.section.Section.planned_here.Goals as goal

pub returns : goal.returns
returns g c =
    let r = c.args.request.now in
    let p = plan standard r.access r.may_trap r.mem r.frame.now in
    placed_by items_of c.args.self.now.len (first_refusal (planned_checks (entries_in c.args.catalogue.now) (labels_in c.args.self.now.labels) p)) p.items c.planned.result c.map_err.result c.planned.ensures
    c.map_err.ensures.variant c.map_err.ensures.cases (λ e q k. search rules)
