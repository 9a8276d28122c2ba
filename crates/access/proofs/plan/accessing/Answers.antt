use Rattle.std.proofs.Common.{◌≡◌, pos, sym, ap, ◌∙◌, arith, to_z, of_z, w64}
use Rattle.std.proofs.lemmas.Int.{ints}
use Rattle.address.specs.Address.{bxd12, bxd20}
use Rattle.address.specs.Access.{access_instr}
use Rattle.address.specs.Held.{held}
use Rattle.access.specs.Written.{access_at}
use Rattle.access.proofs.plan.accessing.Goals as goal

pub returns-in-BXD12 : goal.returns-in-BXD12
returns-in-BXD12 c =
    let a = c.args.access.now in
    let e : to_z w64 (of_z w64 c.from.result) ≡ pos c.in-BXD12.disp.value = omega (arith, ints) in
    c.at_short.ensures c.in-BXD12.flags ∙ ap (λ z. access_instr a (bxd12 c.in-BXD12.base c.in-BXD12.index z c.in-BXD12.flags)) e ∙ ap (λ m. access_at a (held m)) (sym c.in-BXD12.is)

pub returns-in-BXD20 : goal.returns-in-BXD20
returns-in-BXD20 c =
    let a = c.args.access.now in
    let e : to_z w64 (of_z w64 c.from-in-BXD20.result) ≡ c.in-BXD20.disp.value = omega (arith, ints) in
    c.at_long.ensures c.in-BXD20.flags ∙ ap (λ z. access_instr a (bxd20 c.in-BXD20.base c.in-BXD20.index z c.in-BXD20.flags)) e ∙ ap (λ m. access_at a (held m)) (sym c.in-BXD20.is)
