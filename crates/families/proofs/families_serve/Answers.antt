use Rattle.families.specs.Families.{label_lawful, relocation_lawful, both_serve}
use Rattle.families.proofs.families_serve.Goals as goal

pub returns-then-serves_section-clause-lawful : goal.returns-then-serves_section-clause-lawful
returns-then-serves_section-clause-lawful c = (label_lawful, relocation_lawful, both_serve.0, both_serve.1)
