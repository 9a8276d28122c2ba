-- The laws of a catalogue: entries are told apart by bytes, and writing and reading are inverse.
use Rattle.std.specs.Prelude.{◌≡◌, ℕ, ◌<◌, true, T, List, ◌++◌, take, Some, Ok}
use Rattle.std.specs.List.{AllByRecursion}
use Rattle.form.specs.declared.instr.Entry.{Entry}
use Rattle.form.specs.declared.instr.Instr.{Instr}
use Rattle.form.specs.declared.instr.Placed.{Placed}
use Rattle.form.specs.Form.{size}
use Rattle.form.specs.Instr.{bytes_of}
use Rattle.catalogue_law.specs.Catalogue.{sound, catalogued, Catalogued, matches, read_rest}

-- bytes belong to at most one entry
abbrev pub OneEntry : Type 0
OneEntry =
    (es : List Entry) (bytes : List ℕ) (d e : Entry) → sound es ≡ true → AllByRecursion (λ b. b < 256) bytes
    → T (catalogued es d.form d.opcode) → T (catalogued es e.form e.opcode) → matches bytes d ≡ true → matches bytes e ≡ true → d ≡ e

-- what is written is read back, whatever bytes follow it, also by a catalogue that has grown
abbrev pub WrittenIsReadBack : Type 0
WrittenIsReadBack =
    (es more : List Entry) (i : Instr) (at : ℕ) (rest : List ℕ) → sound (es ++ more) ≡ true → Catalogued es i
    → read_rest (es ++ more) at (bytes_of i ++ rest) ≡ Ok (Some (record { place = at; instr = i }))

-- what is read is a catalogued instruction, whose bytes are those that were read
abbrev pub ReadIsWrittenAgain : Type 0
ReadIsWrittenAgain =
    (es : List Entry) (at : ℕ) (bytes : List ℕ) (p : Placed) → AllByRecursion (λ b. b < 256) bytes → read_rest es at bytes ≡ Ok (Some p)
    → (p.place ≡ at) × Catalogued es p.instr × (bytes_of p.instr ≡ take (size p.instr.form) bytes)
