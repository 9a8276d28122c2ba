use Rattle.std.proofs.Common.{◌≡◌, true, false, ap, sym, ◌∙◌, rules}
use Rattle.form.specs.declared.Form.{Form}
use Rattle.form.specs.Instr.{bytes_of}
use Rattle.codec.specs.Encoded.{operand_refusal}
use Rattle.catalogue_law.specs.Catalogue.{misfit, catalogued}
use Rattle.catalogue.specs.Listed.{entries_in}
use Rattle.catalogue.proofs.Written.{placed}
use Rattle.catalogue.proofs.catalogue.Catalogue.write.Goals as goal

pub returns : goal.returns
returns c =
    let i = c.args.instr.now in
    let e = c.entry-entry.ensures in
    let m : misfit i.form i.opcode ≡ false = ap (λ (f : Form). misfit f i.opcode) (sym e.form) ∙ ap (misfit c.entry-entry.result.form) (sym e.opcode) ∙ sym c.if-misfit.ensures in
    let h : catalogued (entries_in c.args.self.now) i.form i.opcode ≡ true = ap (λ (f : Form). catalogued (entries_in c.args.self.now) f i.opcode) (sym e.form) ∙ ap (catalogued (entries_in c.args.self.now) c.entry-entry.result.form) (sym e.opcode) ∙ sym c.if-not-holds.ensures in
    rw (m, h) (placed c.args.place (operand_refusal i.form i.operands) (bytes_of i) c.encode.result c.map_err.result c.encode.ensures c.map_err.ensures.variant c.map_err.ensures.cases (λ y f q. search rules))
