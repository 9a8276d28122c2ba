use Rattle.std.proofs.Common.{Option, sym, ap, ◌∙◌}
use Rattle.address.specs.declared.access.Aimed.{Aimed}
use Rattle.address.specs.Held.{listed}
use Rattle.law.specs.Section.{written}
use Rattle.section.specs.State.{state}
use Rattle.section.proofs.section.Section.write_if.Goals as goal

pub returns-in-Some : goal.returns-in-Some
returns-in-Some g c es =
    c.write_item.ensures es ∙ ap (λ (o : Option Aimed). written (state c.args.self.now es c.args.code.now) (listed o)) (sym c.in-Some.is)
