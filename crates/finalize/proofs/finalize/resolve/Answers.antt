use Rattle.std.proofs.Common.{sym, ◌∙◌}
use Rattle.address.specs.Convention.{standard}
use Rattle.address.specs.Address.{mode}
use Rattle.finalize.proofs.Finalizing.{resolve_some}
use Rattle.finalize.proofs.finalize.resolve.Goals as goal

pub returns : goal.returns
returns c =
    resolve_some standard (mode standard c.args.frame.now c.args.mem.now) c.in-Some.v _ (sym c.offset_of.ensures ∙ c.in-Some.is) c.resolve_offset.ensures
