use Rattle.std.proofs.Common.{refl}
use Rattle.operand.specs.Registers.{gpr_or_fpr}
use Rattle.operand.proofs.reg.is_gpr_or_fpr.Goals as goal

pub returns : goal.returns
unfolding gpr_or_fpr
returns c = refl
