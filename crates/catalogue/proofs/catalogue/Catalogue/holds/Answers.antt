use Rattle.std.proofs.Common.{rules}
use borrow.Author.Tests.{tests}
use Rattle.std.proofs.lemmas.Iterator.{YieldsList-from_slice}
use Rattle.std.proofs.lemmas.Iterator.Search.{any_from_yields_List}
use Rattle.catalogue_law.specs.Catalogue.{is_entry}
use Rattle.catalogue.proofs.Same.{same_form}
use Rattle.catalogue.proofs.catalogue.Catalogue.holds.Goals as goal

pub returns : goal.returns
returns c =
    any_from_yields_List (is_entry c.args.entry.form c.args.entry.opcode) _ _ c.any.result c.any.ensures.ran (YieldsList-from_slice c.args.self.now.entries cc) (λ x b q k. search (rules, tests, same_form))
