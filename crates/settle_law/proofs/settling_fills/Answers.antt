use Rattle.settle_law.proofs.Theorem.{settled}
use Rattle.settle_law.proofs.settling_fills.Goals as goal

pub returns : goal.returns
returns c = λ L S l m where_is code us b h. settled L S l m where_is us code b h
