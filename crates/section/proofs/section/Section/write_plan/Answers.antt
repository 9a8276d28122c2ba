use Rattle.std.proofs.Common.{[], ◌∷◌}
use Rattle.address.specs.Held.{listed}
use Rattle.section.specs.State.{state}
use Rattle.section.proofs.Fitting.{second_fits, third_fits, three_written}
use Rattle.section.proofs.section.Section.write_plan.Goals as goal

pub write_if-requires-2 : goal.write_if-requires-2
write_if-requires-2 g c =
    let p = c.args.plan.now in
    second_fits (state c.args.self.now [] c.args.code.now) (state c.write_if.new.self [] c.write_if.new.code) (listed p.first) (listed p.second) (p.access ∷ [])
    (c.write_if.ensures []) c.requires

pub write_item-requires : goal.write_item-requires
write_item-requires g c =
    let p = c.args.plan.now in
    third_fits (state c.args.self.now [] c.args.code.now) (state c.write_if.new.self [] c.write_if.new.code)
    (state c.write_if-2.new.self [] c.write_if-2.new.code) (listed p.first) (listed p.second) (p.access ∷ [])
    (c.write_if.ensures []) (c.write_if-2.ensures []) c.requires

pub returns : goal.returns
returns g c es =
    let p = c.args.plan.now in
    three_written (state c.args.self.now es c.args.code.now) (state c.write_if.new.self es c.write_if.new.code)
    (state c.write_if-2.new.self es c.write_if-2.new.code) (state c.write_item.new.self es c.write_item.new.code) (listed p.first) (listed p.second) (p.access ∷ [])
    (c.write_if.ensures es) (c.write_if-2.ensures es) (c.write_item.ensures es)
