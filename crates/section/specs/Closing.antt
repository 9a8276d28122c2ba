-- Closing a section.
use Rattle.std.specs.Prelude.{◌≡◌, Ok, Err, Result}
use Rattle.refusal.specs.Refusals.{Answer}
use Rattle.section.specs.declared.section.Finished.{Finished}
use Rattle.section.specs.declared.section.Section.{Section}
use Rattle.section.specs.declared.section.Unclosed.{Unclosed}

-- the answer alone
abbrev pub closing : {L S : Type 0} → Result Finished (Unclosed L S) → Answer
closing (Ok f) = Ok tt
closing (Err u) = Err u.refusal

-- finished code is as long as what was written; refused, the section is handed back as it was
abbrev pub Ends : {L S : Type 0} → Section L S → Result Finished (Unclosed L S) → Type 0
Ends s (Ok f) = f.count ≡ s.len
Ends s (Err u) = u.section ≡ s
