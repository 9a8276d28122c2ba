-- One instruction more at the end of what is written, by its bytes.
use Rattle.std.specs.Prelude.{ℕ, ◌+◌, Bool, true, cond, not, ◌&&◌, List, [], ◌∷◌, ◌++◌, length, Some, None, Option, ◌==◌, nat_lt}
use Rattle.refusal.specs.declared.Reason.TheVariants as why
use Rattle.refusal.specs.Refusals.{Checks, ◌when◌}
use Rattle.book.specs.declared.target.Target.{Target}
use Rattle.book.specs.declared.target.Use.{Use}
use Rattle.book.specs.declared.target.Target.TheVariants.{Label as to_label}
use Rattle.book.specs.Books.{Books, uses_full, lost_label}
use Rattle.form.specs.declared.Form.{Form}
use Rattle.settle_law.specs.Settle.{write_at}
use Rattle.law.specs.Section.{State, branches}

-- FULL and ROOM: of n bytes, aimed or not
abbrev pub end_checks : Books → Bool → ℕ → Checks
end_checks b aimed n = why.Full when (aimed && uses_full b) ∷ why.Room when nat_lt b.room (b.len + n) ∷ []

-- FORM, LABEL, FULL and ROOM: of a form's n bytes, aimed at a label
abbrev pub aim_checks : Books → Form → ℕ → ℕ → Checks
aim_checks b f l n = why.Form when not (branches f) ∷ why.Label when lost_label b.labels (Some (to_label l)) ∷ end_checks b true n

-- the kind of field that an instruction of n bytes has
abbrev pub kind_by : ℕ → ℕ
kind_by n = cond (n == 4) 1 2

abbrev pub use_by : ℕ → ℕ → Option Target → List Use
use_by at n None = []
use_by at n (Some t) = record { place = at; kind = kind_by n; target = t } ∷ []

abbrev pub extended : State → List ℕ → Option Target → State
extended s bytes aim =
    record {
      entries = s.entries;
      code = write_at s.books.len bytes s.code;
      books =
          record {
            room = s.books.room;
            len = s.books.len + length bytes;
            labels = s.books.labels;
            uses = s.books.uses ++ use_by s.books.len (length bytes) aim;
          };
    }
