use Rattle.std.proofs.Common.{◌≡◌, false, None, length, Err, sym, refl, rules}
use Rattle.refusal.specs.Refusals.{first_refusal}
use Rattle.form.specs.Instr.{bytes_of}
use Rattle.catalogue.specs.Listed.{entries_in}
use Rattle.catalogue_law.specs.Catalogue.{put_checks}
use Rattle.address.specs.Aimed.{to_put}
use Rattle.law.specs.Section.{space_checks, written}
use Rattle.section.specs.State.{state}
use Rattle.section.specs.Extended.{end_checks}
use Rattle.section.proofs.Steps.{ours, not_written, one_written, keeps_room}
use Rattle.section.proofs.section.Section.put.Goals as goal

pub append-requires : goal.append-requires
append-requires g c = ours (state c.args.self.now (entries_in c.args.catalogue.now) c.args.code.now) (sym c.if-is_other.ensures)

pub returns-in_err-encoded-clause-step : goal.returns-in_err-encoded-clause-step
returns-in_err-encoded-clause-step g c =
    let es = entries_in c.args.catalogue.now in
    let i = c.args.instr.now in
    let s = state c.args.self.now es c.args.code.now in
    let ws = to_put i.form i.opcode i.operands in
    let e : c.from_residual.result ≡ Err c.in_err-encoded.field-0.0 = search rules in
    rw e
    (not_written s (put_checks es i.form i.opcode i.operands) (space_checks s.books None ws) tt (bytes_of i) (written s ws) c.in_err-encoded.field-0.0
    (sym c.if-is_other.ensures) c.in_err-encoded.ensures)

pub returns-clause-step : goal.returns-clause-step
returns-clause-step g c =
    let es = entries_in c.args.catalogue.now in
    let i = c.args.instr.now in
    let s = state c.args.self.now es c.args.code.now in
    one_written s i.form i.opcode i.operands None (put_checks es i.form i.opcode i.operands) (λ n. end_checks s.books false n) c.in_ok-encoded.encoded
    (sym c.if-is_other.ensures) c.in_ok-encoded.ensures (c.append.ensures es)

pub returns-clause-room : goal.returns-clause-room
returns-clause-room g c =
    let es = entries_in c.args.catalogue.now in
    let s = state c.args.self.now es c.args.code.now in
    keeps_room (first_refusal (end_checks s.books false (length c.in_ok-encoded.encoded))) (c.append.ensures es) refl
