use Rattle.std.proofs.Common.{ℕ, ◌+◌, ◌*◌, ◌%◌, get_or, sym, ap, ◌∙◌}
use Rattle.form.specs.declared.table.OpcodeDigits.TheVariants.{Two, Three, FourFront, FourEnds}
use Rattle.form.specs.Table.{places}
use Rattle.codec.proofs.Sums.{opcode_by}
use Rattle.codec.proofs.decode.opcode_of.Goals as goal

pub returns-in-Two : goal.returns-in-Two
returns-in-Two c =
    c.byte_at-first.ensures.is
    ∙ opcode_by c.args.form Two c.args.bytes.now c.requires (ap places (sym c.in-Two.is) ∙ c.opcode_digits.ensures)

pub returns-in-Three : goal.returns-in-Three
returns-in-Three c =
    (ap (λ (n : ℕ). n * 16 + c.byte_at.result % 16) c.byte_at-first.ensures.is ∙ ap (λ (n : ℕ). get_or c.args.bytes.now 0 0 * 16 + n % 16) c.byte_at.ensures.is)
    ∙ opcode_by c.args.form Three c.args.bytes.now c.requires (ap places (sym c.in-Three.is) ∙ c.opcode_digits.ensures)

pub returns-in-FourFront : goal.returns-in-FourFront
returns-in-FourFront c =
    (ap (λ (n : ℕ). n * 256 + c.byte_at-in-FourFront.result) c.byte_at-first.ensures.is ∙ ap (λ (n : ℕ). get_or c.args.bytes.now 0 0 * 256 + n) c.byte_at-in-FourFront.ensures.is)
    ∙ opcode_by c.args.form FourFront c.args.bytes.now c.requires (ap places (sym c.in-FourFront.is) ∙ c.opcode_digits.ensures)

pub returns-in-FourEnds : goal.returns-in-FourEnds
returns-in-FourEnds c =
    (ap (λ (n : ℕ). n * 256 + c.byte_at-in-FourEnds.result) c.byte_at-first.ensures.is ∙ ap (λ (n : ℕ). get_or c.args.bytes.now 0 0 * 256 + n) c.byte_at-in-FourEnds.ensures.is)
    ∙ opcode_by c.args.form FourEnds c.args.bytes.now c.requires (ap places (sym c.in-FourEnds.is) ∙ c.opcode_digits.ensures)
