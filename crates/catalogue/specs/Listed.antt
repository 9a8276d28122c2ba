-- A catalogue as the list of its entries, and what reading takes of the bytes.
use Rattle.std.specs.Prelude.{ℕ, List, Option, Result}
use Rattle.refusal.specs.declared.Refusal.{Refusal}
use Rattle.form.specs.declared.instr.Entry.{Entry}
use Rattle.form.specs.declared.instr.Placed.{Placed}
use Rattle.catalogue_law.specs.Catalogue.{place_after}
use Rattle.catalogue.specs.declared.catalogue.Catalogue.{Catalogue}

abbrev pub entries_in : Catalogue → List Entry
entries_in c = c.entries

-- how many bytes an answer of reading has taken: those of the instruction; at the end and on a refusal, none
abbrev pub taken : Result (Option Placed) Refusal → ℕ
taken r = place_after 0 r
