use Rattle.std.proofs.Common.{◌≡◌, take}
use Rattle.catalogue_law.specs.Catalogue.{initial}
use Rattle.catalogue.proofs.catalogue.Catalogue.new.Given as goal

abbrev pub invariant-loop-entry : goal.invariant-loop-entry
invariant-loop-entry l = l.entries ≡ take l.entry-index initial
