use Rattle.address_law.proofs.Leading.{finalizing_stands}
use Rattle.address_law.proofs.finalizing_stands.Goals as goal

pub returns : goal.returns
returns c = finalizing_stands
