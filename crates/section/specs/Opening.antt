-- Opening a section.
use Rattle.std.specs.Prelude.{◌≡◌, ℕ, ◌⊎◌, List, None, Err, Result}
use Rattle.refusal.specs.declared.Reason.TheVariants as why
use Rattle.refusal.specs.declared.Refusal.{Refusal}
use Rattle.refusal.specs.Refusals.{refused_at}
use Rattle.field.specs.Family.{Fields}
use Rattle.book.specs.Books.{Books}
use Rattle.law.specs.Section.{open_refusal, open_answer}

-- the law's answer; or MEMORY, where nothing else refuses it
abbrev pub Opening : Fields → Fields → List ℕ → Result Books Refusal → Type 0
Opening L S code r = (r ≡ open_answer L S code) ⊎ ((open_refusal L S code ≡ None) × (r ≡ Err (refused_at 0 why.Memory)))
