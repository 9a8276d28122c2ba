use Rattle.inversion.proofs.Inversion.{inversion}
use Rattle.inversion.proofs.reading_inverts_writing.Goals as goal

pub returns : goal.returns
returns c = inversion
