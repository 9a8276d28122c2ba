use Rattle.std.proofs.Common.{◌≡◌, ℕ, List, length, replicate, Ok, refl, ap, inl, rules}
use Rattle.catalogue.specs.Listed.{entries_in}
use Rattle.catalogue_law.proofs.Basics.{ok_err}
use Rattle.section.specs.State.{state}
use Rattle.section.specs.Closing.{closing}
use Rattle.client.specs.Calls.{at_start}
use Rattle.client.proofs.Accepted.{closes, finished}
use Rattle.client.proofs.routine.Goals as goal

pub unreachable-requires : goal.unreachable-requires
unreachable-requires c =
    let es = entries_in c.in_ok-catalogue.catalogue in
    absurd (ok_err (closes c.emit.ensures.leaves (c.close.ensures.step es)) (ap closing c.in-Err.is))

pub returns : goal.returns
returns c =
    let es = entries_in c.in_ok-catalogue.catalogue in
    let start : state c.in_ok-section.section es (replicate 12 0) ≡ at_start = search rules in
    let long : length c.close.new.code ≡ 12 = search rules in
    inl (ap (λ (bs : List ℕ). Ok bs) (finished start c.emit.ensures.leaves c.emit.ensures.run (c.in-Ok.ensures.promises es refl) long))
