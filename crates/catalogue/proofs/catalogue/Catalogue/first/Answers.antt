use Rattle.std.proofs.Common.{take, Some, sym, ap, ◌∙◌, arith, rules}
use Rattle.catalogue_law.specs.Catalogue.{matches, find}
use Rattle.catalogue.specs.Listed.{entries_in}
use Rattle.catalogue.proofs.Read.{read_ok}
use Rattle.catalogue.proofs.catalogue.Catalogue.first.Goals as goal

pub returns-clause-is : goal.returns-clause-is
returns-clause-is c =
    read_ok (entries_in c.args.self.now) c.args.place c.args.bytes.now c.length_by_first_byte-count.result c.in_ok-entry.entry c.new-instr.result
    c.length_by_first_byte-count.ensures (search rules) (omega arith)
    (ap (find (matches (take c.length_by_first_byte-count.result c.args.bytes.now))) (sym c.as_slice.ensures.items) ∙ sym c.find_entry.ensures.is ∙ c.in_ok-entry.ensures.ok_part)
    (ap Some c.new-instr.ensures.operands ∙ sym c.in_ok-operands.ensures.ok_part ∙ c.decode.ensures) c.new-instr.ensures.form c.new-instr.ensures.opcode
