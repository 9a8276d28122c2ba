use Rattle.law.proofs.Calls.{inventory_matches}
use Rattle.law.proofs.inventory_matches.Goals as goal

pub returns : goal.returns
returns c = inventory_matches
