use Rattle.std.proofs.Common.{sym, ◌∙◌, rules}
use Rattle.field.specs.Family.{relocation_table}
use Rattle.field.proofs.Laws.{told_some}
use Rattle.families.specs.Families.{relocation_fits}
use Rattle.families.proofs.relocations.RelocationsFieldRead.held.Goals as goal

pub invariant_of-held : goal.invariant_of-held
invariant_of-held c =
    record {
      above = search rules;
      fits = relocation_fits c.args.kind c.in_ok-info.field-0 (told_some (relocation_table c.args.kind) c.in_ok-info.field-0 (sym c.info.ensures ∙ c.in_ok-info.was));
    }
