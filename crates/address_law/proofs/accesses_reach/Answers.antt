use Rattle.address_law.proofs.Reaching.{accesses_reach}
use Rattle.address_law.proofs.accesses_reach.Goals as goal

pub returns : goal.returns
returns c = accesses_reach
