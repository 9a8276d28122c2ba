use Rattle.std.proofs.Common.{sym, ◌∙◌, rules}
use Rattle.field.proofs.Laws.{told_some}
use Rattle.field_tests.specs.Samples.{one_kind, quarter_info}
use Rattle.field_tests.specs.SamplesLemmas.{quarter_fits}
use Rattle.field_tests.proofs.quarters.QuartersFieldRead.held.Goals as goal

pub invariant_of-held : goal.invariant_of-held
invariant_of-held c =
    record {
      above = search rules;
      fits = quarter_fits c.args.kind c.in_ok-info.field-0 (told_some (one_kind 0 quarter_info c.args.kind) c.in_ok-info.field-0 (sym c.info.ensures ∙ c.in_ok-info.was));
    }
