use Rattle.std.proofs.Common.{◌≡◌, ℕ, Bool, cond, not, List, length, Some, None, Err, sym, refl, ap, ◌∙◌, subst, arith}
use Rattle.refusal.specs.declared.Reason.TheVariants.{Operand}
use Rattle.refusal.specs.Refusals.{answered}
use Rattle.form.specs.Form.{size}
use Rattle.catalogue_law.proofs.Basics.{ok_err}
use Rattle.form.specs.Instr.{bytes_of}
use Rattle.catalogue_law.proofs.Encoding.{encode_length}
use Rattle.codec.specs.Encoded.{operand_refusal}
use Rattle.book.specs.Listed.{uses_in}
use Rattle.section.specs.State.{state}
use Rattle.section.specs.Extended.{extended}
use Rattle.section.proofs.Steps.{one_more}
use Rattle.section.proofs.Fitting.{free, gave}
use Rattle.section.proofs.section.Section.write_item.Goals as goal

pub extend-requires : goal.extend-requires
extend-requires g c =
    let i = c.args.item.now.instr in
    let q = gave (operand_refusal i.form i.operands) (bytes_of i) c.in-Ok.ensures in
    let n : length c.in-Ok.encoded ≡ size i.form = ap length q ∙ encode_length i.form i.opcode i.operands in
    let room = c.requires.room in
    record { ours = c.requires.ours; fits = omega (arith, n, room); uses = free (uses_in c.args.self.now.uses) c.args.item.now.aim c.requires.uses }

pub returns-in-Ok : goal.returns-in-Ok
returns-in-Ok g c es =
    let i = c.args.item.now.instr in
    let s = state c.args.self.now es c.args.code.now in
    let q = gave (operand_refusal i.form i.operands) (bytes_of i) c.in-Ok.ensures in
    c.extend.ensures es ∙ ap (λ (k : List ℕ). extended s k c.args.item.now.aim) q ∙ one_more s i.form i.opcode i.operands c.args.item.now.aim

pub returns-in_default : goal.returns-in_default
returns-in_default g c =
    let i = c.args.item.now.instr in
    let e = subst (λ (b : Bool). Err c.in_default.field-0 ≡ answered (cond (not b) (Some Operand) None) (bytes_of i)) c.requires.in_kind.0 c.in_default.ensures in
    absurd (ok_err refl (sym e))
