use Rattle.std.proofs.Common.{Bool, sym, ap, ◌∙◌}
use Rattle.refusal.specs.Tests.{any, all}
use Rattle.form.specs.declared.instr.Entry.{Entry}
use Rattle.catalogue_law.specs.Catalogue.{misfit, catalogued}
use Rattle.catalogue.specs.Listed.{entries_in}
use Rattle.address.specs.Access.{opcodes}
use Rattle.section.proofs.Tested.{any_given, all_given, misfitting, not_held, all_right}
use Rattle.section.proofs.section.accessing.check_opcodes.Goals as goal

abbrev misfits : Entry → Bool
misfits e = misfit e.form e.opcode

pub returns-then-any_misfits : goal.returns-then-any_misfits
returns-then-any_misfits c =
    let os = opcodes c.args.access.now in
    let held = λ (e : Entry). catalogued (entries_in c.args.catalogue.now) e.form e.opcode in
    misfitting (any misfits os) (all held os) (sym (ap (any misfits) c.opcodes-given.ensures) ∙ (any_given misfits c.opcodes-given.result ∙ sym c.if-any_misfits.ensures))

pub returns-then-not-all_held : goal.returns-then-not-all_held
returns-then-not-all_held c =
    let os = opcodes c.args.access.now in
    let held = λ (e : Entry). catalogued (entries_in c.args.catalogue.now) e.form e.opcode in
    not_held (any misfits os) (all held os) (sym (ap (any misfits) c.opcodes-given.ensures) ∙ (any_given misfits c.opcodes-given.result ∙ sym c.if-any_misfits.ensures))
    (sym (ap (all held) c.opcodes-given.ensures) ∙ (all_given held c.opcodes-given.result ∙ sym c.if-not-all_held.ensures))

pub returns : goal.returns
returns c =
    let os = opcodes c.args.access.now in
    let held = λ (e : Entry). catalogued (entries_in c.args.catalogue.now) e.form e.opcode in
    all_right (any misfits os) (all held os) (sym (ap (any misfits) c.opcodes-given.ensures) ∙ (any_given misfits c.opcodes-given.result ∙ sym c.if-any_misfits.ensures))
    (sym (ap (all held) c.opcodes-given.ensures) ∙ (all_given held c.opcodes-given.result ∙ sym c.if-not-all_held.ensures))
