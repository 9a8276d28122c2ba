use Rattle.std.proofs.Common.{◌∙◌, rules}
use borrow.Author.Tests.{tests}
use Rattle.std.proofs.lemmas.Iterator.{YieldsList-from_slice}
use Rattle.std.proofs.lemmas.Iterator.Search.{find_from_yields_List}
use Rattle.catalogue_law.specs.Catalogue.{matches}
use Rattle.catalogue.proofs.catalogue.reading.find_entry.Goals as goal

pub returns-clause-is : goal.returns-clause-is
returns-clause-is c =
    c.copied.ensures ∙ find_from_yields_List (matches c.args.bytes.now) _ _ c.find.result c.find.ensures.ran (YieldsList-from_slice c.args.entries.now cc) (λ x b q k. search (rules, tests))
