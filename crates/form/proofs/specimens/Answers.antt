use Rattle.std.proofs.Common.{refl}
use Rattle.operand.specs.Registers.{gpr, gpr_or_fpr}
use Rattle.form.proofs.specimens.Goals as goal

pub returns : goal.returns
unfolding gpr gpr_or_fpr
returns c = record { rre = refl; rx = refl; rxy = refl; vrx = refl; vrr_e = refl; ri_c = refl; encoded = refl; refused = refl }
