use Rattle.std.proofs.Common.{sym, ◌∙◌, rules}
use Rattle.field.specs.Family.{label_table}
use Rattle.field.proofs.Laws.{told_some}
use Rattle.families.specs.Families.{label_fits}
use Rattle.families.proofs.labels.LabelsFieldRead.held.Goals as goal

pub invariant_of-held : goal.invariant_of-held
invariant_of-held c =
    record {
      above = search rules;
      fits = label_fits c.args.kind c.in_ok-info.field-0 (told_some (label_table c.args.kind) c.in_ok-info.field-0 (sym c.info.ensures ∙ c.in_ok-info.was));
    }
