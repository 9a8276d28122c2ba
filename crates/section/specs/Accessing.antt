-- The checks of an access, up to space.
use Rattle.std.specs.Prelude.{not, List, [], ◌∷◌, ◌++◌}
use Rattle.refusal.specs.declared.Reason.TheVariants as why
use Rattle.refusal.specs.Refusals.{Checks, ◌when◌}
use Rattle.refusal.specs.Tests.{any, all}
use Rattle.form.specs.declared.instr.Entry.{Entry}
use Rattle.catalogue_law.specs.Catalogue.{misfit, catalogued}
use Rattle.book.specs.declared.target.Slot.{Slot}
use Rattle.book.specs.Books.{label_checks}
use Rattle.address.specs.Convention.{standard}
use Rattle.address.specs.Access.{Plan, target_checks}
use Rattle.law.specs.Section.{plan_checks}

abbrev pub opcode_checks : List Entry → List Entry → Checks
opcode_checks es os = why.Misfit when any (λ e. misfit e.form e.opcode) os ∷ why.Opcode when not (all (λ e. catalogued es e.form e.opcode) os) ∷ []

abbrev pub planned_checks : List Entry → List Slot → Plan → Checks
planned_checks es ls p = plan_checks standard es p ++ label_checks ls p.target ++ target_checks p
