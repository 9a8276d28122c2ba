use Rattle.std.proofs.Common.{sym, ◌∙◌, rules}
use Rattle.field.specs.Family.{relocation_table}
use Rattle.field.proofs.Laws.{told_some}
use Rattle.families.specs.Families.{relocation_fits}
use Rattle.families.proofs.relocations.RelocationsFieldPatch.patch.Goals as goal

pub invariant_of-overwrite : goal.invariant_of-overwrite
invariant_of-overwrite c =
    record {
      above = search rules;
      fits = relocation_fits c.args.kind c.in_ok-info.field-0 (told_some (relocation_table c.args.kind) c.in_ok-info.field-0 (sym c.info.ensures ∙ c.in_ok-info.was));
    }

pub returns-clause-leaves : goal.returns-clause-leaves
returns-clause-leaves c = rw (told_some (relocation_table c.args.kind) c.in_ok-info.field-0 (sym c.info.ensures ∙ c.in_ok-info.was)) (search rules)
