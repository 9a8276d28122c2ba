-- Closing, from what settling does.
use Rattle.std.proofs.Common.{◌≡◌, ℕ, Bool, false, cond, List, ℤ, Some, sym, subst}
use Rattle.refusal.specs.declared.Reason.TheVariants as why
use Rattle.refusal.specs.Refusals.{Answer, answered, unless, refused_at}
use Rattle.field.specs.Family.{Family}
use Rattle.book.specs.declared.target.Use.{Use}
use Rattle.book.specs.Labels.{place_of}
use Rattle.settle_law.specs.Settle.{uses_refusal, patched_all}
use Rattle.settle_law.specs.Settled.{Settles}
use Rattle.law.specs.Section.{State, Closes, other_buffer}

pub closed : (L S : Family) (s : State) (symbols : List ℤ) (us : List Use) {r : Answer} {code : List ℕ} → other_buffer s ≡ false → us ≡ s.books.uses
    → Settles L S s.books.labels symbols us s.code r code → Closes L S s symbols r code
closed L S s symbols us {r} {code} b e h =
    let k = subst (λ (vs : List Use). Settles L S s.books.labels symbols vs s.code r code) e h in
    let w = place_of s.books.labels symbols in
    let full = Some (refused_at s.books.len why.Buffer) in
    let rest = uses_refusal L S w s.code s.books.uses in
    record {
      answers = subst (λ (o : Bool). r ≡ answered (cond o full rest) tt) (sym b) k.answers;
      leaves = subst (λ (o : Bool). code ≡ unless (cond o full rest) (patched_all L S w s.code s.books.uses) s.code) (sym b) k.leaves;
    }
