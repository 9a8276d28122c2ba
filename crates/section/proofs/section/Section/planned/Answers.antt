use Rattle.std.proofs.Common.{◌≡◌, Bool, ◌∷◌, ◌++◌, Err, Option, sym, ap, ◌∙◌, rules}
use Rattle.refusal.specs.declared.Reason.{Reason}
use Rattle.refusal.specs.declared.Reason.TheVariants as why
use Rattle.refusal.specs.Refusals.{Checks, ◌when◌, answered}
use Rattle.catalogue.specs.Listed.{entries_in}
use Rattle.book.specs.Books.{lost_label}
use Rattle.book.specs.Listed.{labels_in}
use Rattle.address.specs.Convention.{standard}
use Rattle.address.specs.Access.{Plan, plan, opcodes, address_checks, target_checks, planning_refusal}
use Rattle.address.specs.Held.{items_of, when_ok}
use Rattle.section.specs.Accessing.{opcode_checks}
use Rattle.section.proofs.Tested.{err_first, passed_first}
use Rattle.section.proofs.section.Section.planned.Goals as goal

pub returns-in_err-check_opcodes : goal.returns-in_err-check_opcodes
returns-in_err-check_opcodes g c =
    let r = c.args.request.now in
    let p : Plan = plan standard r.access r.may_trap r.mem r.frame.now in
    let ds : Checks = address_checks standard p ++ why.Label when lost_label (labels_in c.args.self.now.labels) p.target ∷ target_checks p in
    let e : c.from_residual.result ≡ Err c.in_err-check_opcodes.field-0.0 = search rules in
    ap (when_ok items_of) e ∙ err_first (opcode_checks (entries_in c.args.catalogue.now) (opcodes r.access)) ds tt p.items c.in_err-check_opcodes.field-0.0 c.in_err-check_opcodes.ensures

pub returns : goal.returns
returns g c =
    let r = c.args.request.now in
    let p : Plan = plan standard r.access r.may_trap r.mem r.frame.now in
    let lost : Bool = lost_label (labels_in c.args.self.now.labels) p.target in
    let ds : Checks = address_checks standard p ++ why.Label when lost ∷ target_checks p in
    c.plan.ensures.writes ∙ ap (λ (b : Bool). answered (planning_refusal standard p b) p.items) (c.names_lost.ensures r.frame.now)
    ∙ ap (λ (o : Option Reason). answered o p.items) (sym (passed_first (opcode_checks (entries_in c.args.catalogue.now) (opcodes r.access)) ds tt c.in_ok-check_opcodes.ensures))
