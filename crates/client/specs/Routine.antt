-- A routine of three instructions, and the opcodes that it is written with.
use Rattle.std.specs.Prelude.{◌≡◌, ℕ, List, [], ◌∷◌, ◌++◌, Result, MatchResult}
use Rattle.refusal.specs.declared.Reason.TheVariants as why
use Rattle.refusal.specs.declared.Refusal.{Refusal}
use Rattle.refusal.specs.Refusals.{refused_at}
use Rattle.form.specs.declared.Form.TheVariants.{RiC, RilB, Rr}
use Rattle.form.specs.declared.instr.Entry.{Entry}
use Rattle.catalogue_law.specs.Catalogue.{initial}
use Rattle.catalogue.specs.declared.catalogue.Catalogue.{Catalogue}
use Rattle.catalogue.specs.Listed.{entries_in}

-- BRC, LGRL and BCR behind the four that every catalogue has
abbrev pub routine_entries : List Entry
routine_entries =
    initial ++ record { form = RiC; opcode = 0xA74 }
    ∷ record { form = RilB; opcode = 0xC48 }
    ∷ record { form = Rr; opcode = 0x07 }
    ∷ []

-- these entries; or MEMORY
abbrev pub Opcodes : Result Catalogue Refusal → Type 0
Opcodes r = MatchResult r (λ c. entries_in c ≡ routine_entries) (λ e. e ≡ refused_at 0 why.Memory)

-- brc 8, .+10; lgrl %r2, .+20; bcr 15, %r14
abbrev pub routine_bytes : List ℕ
routine_bytes =
    0xA7 ∷ 0x84 ∷ 0x00 ∷ 0x05
    ∷ 0xC4 ∷ 0x28 ∷ 0x00 ∷ 0x00 ∷ 0x00 ∷ 0x0A
    ∷ 0x07 ∷ 0xFE
    ∷ []
