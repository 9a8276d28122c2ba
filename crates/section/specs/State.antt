-- A section, with a catalogue's entries and a lent buffer, as the state that the calls' steps speak of.
use Rattle.std.specs.Prelude.{◌≡◌, ℕ, List, Ok, Err, Result}
use Rattle.refusal.specs.declared.Refusal.{Refusal}
use Rattle.form.specs.declared.instr.Entry.{Entry}
use Rattle.book.specs.Books.{Books}
use Rattle.book.specs.Listed.{labels_in, uses_in}
use Rattle.refusal.specs.Refusals.{Answer}
use Rattle.law.specs.Section.{State}
use Rattle.section.specs.declared.section.Section.{Section}
use Rattle.section.specs.declared.section.Promise.{Promise}
use Rattle.section.specs.declared.section.Unkept.{Unkept}

abbrev pub books_of : {L S : Type 0} → Section L S → Books
books_of s = record { room = s.room; len = s.len; labels = labels_in s.labels; uses = uses_in s.uses }

abbrev pub state : {L S : Type 0} → Section L S → List Entry → List ℕ → State
state s es code = record { entries = es; code = code; books = books_of s }

-- an answer that hands out a promise, by the label's number
abbrev pub numbered : Result Promise Refusal → Result ℕ Refusal
numbered (Ok p) = Ok p.label
numbered (Err e) = Err e

-- an answer that takes a promise, without the promise
abbrev pub plain : Result (Unit {0}) Unkept → Answer
plain (Ok u) = Ok u
plain (Err e) = Err e.refusal

-- refused, the promise is handed back
abbrev pub HandsBack : Promise → Result (Unit {0}) Unkept → Type 0
HandsBack p (Ok u) = Unit {0}
HandsBack p (Err e) = e.promise ≡ p
