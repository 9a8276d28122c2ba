use Rattle.std.proofs.Common.{◌≡◌, ◌+◌, [], ◌∷◌, Some, length, Err, sym, refl, rules}
use Rattle.refusal.specs.Refusals.{first_refusal}
use Rattle.form.specs.Encode.{encode, six}
use Rattle.form.specs.Form.{size}
use Rattle.form.specs.Instr.{instr}
use Rattle.catalogue.specs.Listed.{entries_in}
use Rattle.book.specs.declared.target.Target.TheVariants.{Label as to_label}
use Rattle.address.specs.Aimed.{to_branch}
use Rattle.law.specs.Section.{written}
use Rattle.section.specs.State.{state}
use Rattle.section.specs.Extended.{aim_checks}
use Rattle.section.proofs.Steps.{ours, not_written, one_written, first_checks, by_lone, keeps_room}
use Rattle.section.proofs.section.Section.put_to_label.Goals as goal

pub branch-self-requires : goal.branch-self-requires
branch-self-requires g c = ours (state c.args.self.now (entries_in c.args.catalogue.now) c.args.code.now) (sym c.if-is_other.ensures)

pub returns-in_err-encoded-clause-step : goal.returns-in_err-encoded-clause-step
returns-in_err-encoded-clause-step g c =
    let es = entries_in c.args.catalogue.now in
    let f = c.args.entry.form in
    let o = c.args.entry.opcode in
    let z = c.args.first in
    let s = state c.args.self.now es c.args.code.now in
    let i : c.lone.result ≡ instr f o (z ∷ []) = search rules in
    let e : c.from_residual.result ≡ Err c.in_err-encoded.field-0.0 = search rules in
    rw e
    (not_written s (first_checks es f o z) (aim_checks s.books f c.args.label (size f + 0)) tt (encode f o (six (z ∷ []))) (written s (to_branch f o z c.args.label)) c.in_err-encoded.field-0.0
    (sym c.if-is_other.ensures) (by_lone es f o z s.books.len c.lone.result i c.in_err-encoded.ensures))

pub returns-clause-step : goal.returns-clause-step
returns-clause-step g c =
    let es = entries_in c.args.catalogue.now in
    let f = c.args.entry.form in
    let o = c.args.entry.opcode in
    let z = c.args.first in
    let s = state c.args.self.now es c.args.code.now in
    let i : c.lone.result ≡ instr f o (z ∷ []) = search rules in
    one_written s f o (six (z ∷ [])) (Some (to_label c.args.label)) (first_checks es f o z) (aim_checks s.books f c.args.label) c.in_ok-encoded.encoded
    (sym c.if-is_other.ensures) (by_lone es f o z s.books.len c.lone.result i c.in_ok-encoded.ensures) (c.branch-self.ensures es)

pub returns-clause-room : goal.returns-clause-room
returns-clause-room g c =
    let es = entries_in c.args.catalogue.now in
    let s = state c.args.self.now es c.args.code.now in
    keeps_room (first_refusal (aim_checks s.books c.args.entry.form c.args.label (length c.in_ok-encoded.encoded))) (c.branch-self.ensures es) refl
