use Rattle.std.proofs.Common.{◌≡◌, not, ◌&&◌, sym, ap, ◌∙◌}
use Rattle.address.specs.Convention.{standard}
use Rattle.address.specs.Address.{finalize, displaced, mode}
use Rattle.address.specs.Access.{data_fits, permitted}
use Rattle.access.specs.Written.{stays_relative}
use Rattle.access.proofs.Planning.{relative_left}
use Rattle.access.proofs.plan.fits.Goals as goal

pub returns-then-registers_fit : goal.returns-then-registers_fit
returns-then-registers_fit c fr =
    let a = c.args.request.now.access in
    let mi = permitted a c.args.request.now.may_trap in
    let r : c.stays_relative-relative.result ≡ not (displaced (finalize standard mi fr c.args.request.now.mem).1) =
    c.stays_relative-relative.ensures fr ∙ ap (λ i. stays_relative i (mode standard fr c.args.request.now.mem)) c.permitted-mi.ensures ∙ sym (relative_left mi fr c.args.request.now.mem) in
    c.data_fits.ensures ∙ ap (data_fits a) r ∙ ap (λ b. b && data_fits a (not (displaced (finalize standard mi fr c.args.request.now.mem).1))) c.if-registers_fit.ensures
