use Rattle.std.proofs.Common.{refl}
use Rattle.catalogue_law.proofs.Sound.{sound_admitted}
use Rattle.catalogue_law.proofs.soundness_is_kept.Goals as goal

pub returns : goal.returns
returns c = (refl, sound_admitted)
