use Rattle.std.proofs.Common.{◌≡◌, ℕ, Bool, Ok, ◌∙◌, subst}
use Rattle.refusal.specs.Refusals.{first_refusal, answer}
use Rattle.book.specs.Books.{leaves_use}
use Rattle.section.specs.State.{books_of, state}
use Rattle.section.specs.Extended.{end_checks, extended}
use Rattle.section.proofs.Steps.{accepted, aimed_is}
use Rattle.section.proofs.section.Section.append.Goals as goal

pub returns : goal.returns
returns g c es =
    let b = books_of c.args.self.now in
    let bytes = c.args.encoded.now in
    let s = state c.args.self.now es c.args.code.now in
    let aimed = subst (λ (a : Bool). Ok c.in_ok-space.field-0 ≡ answer b.len (first_refusal (end_checks b a c.len.result)) tt) (c.is_some.ensures ∙ aimed_is c.args.aim) c.in_ok-space.ensures.answers in
    let long = subst (λ (n : ℕ). Ok c.in_ok-space.field-0 ≡ answer b.len (first_refusal (end_checks b (leaves_use c.args.aim) n)) tt) c.len.ensures aimed in
    accepted _ tt s (extended s bytes c.args.aim) (state c.extend.new.self es c.extend.new.code) long (c.extend.ensures es)
