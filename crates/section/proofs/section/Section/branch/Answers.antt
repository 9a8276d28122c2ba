use Rattle.std.proofs.Common.{true, length, Some, ap, ◌∙◌}
use Rattle.refusal.specs.declared.Reason.TheVariants as why
use Rattle.refusal.specs.Refusals.{first_refusal}
use Rattle.book.specs.declared.target.Target.TheVariants.{Label as to_label}
use Rattle.book.specs.declared.target.Slot.{Slot}
use Rattle.book.specs.Labels.{slot_of, is_usable}
use Rattle.book.specs.Listed.{labels_in}
use Rattle.law.specs.Section.{branches}
use Rattle.section.specs.State.{state}
use Rattle.section.specs.Extended.{end_checks, extended}
use Rattle.section.proofs.Steps.{past_two}
use Rattle.section.proofs.section.Section.branch.Goals as goal

pub returns : goal.returns
returns g c es =
    let s = state c.args.self.now es c.args.code.now in
    past_two (branches c.args.form) (is_usable (slot_of (labels_in c.args.self.now.labels) c.args.label)) why.Form why.Label
    (first_refusal (end_checks s.books true (length c.args.encoded.now))) tt s (extended s c.args.encoded.now (Some (to_label c.args.label)))
    c.if-not-is_branch.ensures (c.if-not-is_usable.ensures ∙ ap (λ (x : Slot). is_usable x) c.slot.ensures) (c.append.ensures es)
