use Rattle.law.proofs.Plugged.{law_holds}
use Rattle.law.proofs.law_holds.Goals as goal

pub returns : goal.returns
returns c = law_holds
