-- The catalogue of admitted opcodes, and reading instructions by it.
use Rattle.std.specs.Prelude.{◌≡◌, ℕ, ◌+◌, ◌-◌, ◌/◌, ◌^◌, Bool, true, false, cond, not, ◌&&◌, ◌||◌, T, leb, List, [], ◌∷◌, ◌++◌, length, take, drop, ℤ, Some, None, Ok, Err, Option, Result, ◌==◌, nat_le, nat_lt}
use Rattle.refusal.specs.declared.Reason.{Reason}
use Rattle.refusal.specs.declared.Reason.TheVariants.{Misfit, Clash, Opcode, Operand, Full, Cut, Unknown, Unused}
use Rattle.refusal.specs.declared.Refusal.{Refusal}
use Rattle.form.specs.declared.Form.{Form}
use Rattle.form.specs.declared.Form.TheVariants.{RilA, RilB, Rx, Rxy}
use Rattle.form.specs.declared.instr.Entry.{Entry}
use Rattle.form.specs.Form.{kinds, size, same_form, opcode_digits}
use Rattle.form.specs.Encode.{opcode_of, operands_of, clean, takes}
use Rattle.form.specs.declared.instr.Instr.{Instr}
use Rattle.form.specs.declared.instr.Placed.{Placed}
use Rattle.refusal.specs.Refusals.{Checks, ◌when◌, first_refusal, refused_at}
use Rattle.refusal.specs.Tests.{any, all}

-- Opcodes.

-- how many bytes an instruction has, by its first byte
abbrev pub length_by_first_byte : ℕ → ℕ
length_by_first_byte b = cond (nat_lt b 0x40) 2 (cond (nat_lt b 0xC0) 4 6)

-- the first byte, which is the opcode's first two digits in every row
abbrev pub first_byte : Form → ℕ → ℕ
first_byte f o = o / 16 ^ (length (opcode_digits f) - 2)

abbrev pub misfit : Form → ℕ → Bool
misfit f o = nat_le (16 ^ length (opcode_digits f)) o || not (length_by_first_byte (first_byte f o) == size f)

abbrev pub same_numbers : List ℕ → List ℕ → Bool
same_numbers [] [] = true
same_numbers [] (b ∷ bs) = false
same_numbers (a ∷ us) [] = false
same_numbers (a ∷ us) (b ∷ bs) = a == b && same_numbers us bs

abbrev pub clashes : Form → ℕ → Entry → Bool
clashes f o e =
    (first_byte e.form e.opcode == first_byte f o) && (not (same_numbers (opcode_digits e.form) (opcode_digits f)) || e.opcode == o)

-- Entries.

abbrev pub is_entry : Form → ℕ → Entry → Bool
is_entry f o e = same_form e.form f && e.opcode == o

abbrev pub catalogued : List Entry → Form → ℕ → Bool
catalogued es f o = any (is_entry f o) es

-- LGFI, LA, LAY, LARL
abbrev pub initial : List Entry
initial =
    record { form = RilA; opcode = 0xC01 }
    ∷ record { form = Rx; opcode = 0x41 }
    ∷ record { form = Rxy; opcode = 0xE371 }
    ∷ record { form = RilB; opcode = 0xC00 }
    ∷ []

abbrev pub most_entries : ℕ
most_entries = 512

abbrev pub admit_refusal : List Entry → Form → ℕ → Option Reason
admit_refusal es f o =
    first_refusal
    (Misfit when misfit f o
    ∷ Clash when any (clashes f o) es
    ∷ Full when leb most_entries (length es)
    ∷ [])

abbrev pub admitted : List Entry → Form → ℕ → List Entry
admitted es f o = es ++ record { form = f; opcode = o } ∷ []

-- A sound catalogue: the four first, at most 512, every entry fits and none clashes with one before it. It is a test, so that it can be a
-- fact of the catalogue's type; a new catalogue is sound, and admitting keeps it so.

abbrev pub begins : List Entry → List Entry → Bool
begins [] es = true
begins (d ∷ ds) [] = false
begins (d ∷ ds) (e ∷ es) = is_entry d.form d.opcode e && begins ds es

abbrev pub clashes_with : Entry → Entry → Bool
clashes_with e d = clashes d.form d.opcode e

abbrev pub apart : List Entry → Bool
apart [] = true
apart (e ∷ es) = not (any (clashes_with e) es) && apart es

abbrev pub fits : Entry → Bool
fits e = not (misfit e.form e.opcode)

abbrev pub sound : List Entry → Bool
sound es = begins initial es && nat_le (length es) most_entries && all fits es && apart es

abbrev pub SoundnessIsKept : Type 0
SoundnessIsKept = (sound initial ≡ true) × ((es : List Entry) (f : Form) (o : ℕ) → sound es ≡ true → admit_refusal es f o ≡ None → sound (admitted es f o) ≡ true)

-- Writing an instruction: its form, opcode and six operands.
abbrev pub put_checks : List Entry → Form → ℕ → List ℤ → Checks
put_checks es f o zs =
    Misfit when misfit f o
    ∷ Opcode when not (catalogued es f o)
    ∷ Operand when not (takes (kinds f) zs)
    ∷ []

-- Catalogued instructions.

-- an entry with operands that `put` takes
pub record Catalogued (es : List Entry) (i : Instr) : Type 0 where
  pub entry : T (catalogued es i.form i.opcode)
  pub six_operands : length i.operands ≡ 6
  pub in_kind : T (takes (kinds i.form) i.operands)

-- Reading.

-- whether these bytes, as many as their first one means, have the entry's digits
abbrev pub matches : List ℕ → Entry → Bool
matches bytes e = size e.form == length bytes && opcode_of e.form bytes == e.opcode

abbrev pub find : {X : Type 0} → (X → Bool) → List X → Option X
find p [] = None
find p (x ∷ xs) = cond (p x) (Some x) (find p xs)

abbrev pub read_as : ℕ → List ℕ → Option Entry → Result (Option Placed) Refusal
read_as at bytes None = Err (refused_at at Unknown)
read_as at bytes (Some e) =
    cond (clean e.form bytes)
    (Ok (Some (record { place = at; instr = record { form = e.form; opcode = e.opcode; operands = operands_of e.form bytes } })))
    (Err (refused_at at Unused))

abbrev pub read_rest : List Entry → ℕ → List ℕ → Result (Option Placed) Refusal
read_rest es at [] = Ok None
read_rest es at (b ∷ bs) =
    cond (nat_lt (length (b ∷ bs)) (length_by_first_byte b))
    (Err (refused_at at Cut))
    (read_as at (take (length_by_first_byte b) (b ∷ bs)) (find (matches (take (length_by_first_byte b) (b ∷ bs))) es))

-- the reader's answer at byte `at` of the code: the instruction there, none at the end, or a refusal
abbrev pub read : List Entry → List ℕ → ℕ → Result (Option Placed) Refusal
read es code at = read_rest es at (drop at code)

-- where the reader stands after an answer: behind the instruction; at the end and on a refusal it stays
abbrev pub place_after : ℕ → Result (Option Placed) Refusal → ℕ
place_after at (Ok None) = at
place_after at (Ok (Some i)) = at + size i.instr.form
place_after at (Err e) = at

-- one call of the reader that stands at byte `at`: its answer, and where it stands then
abbrev pub read_step : List Entry → List ℕ → ℕ → Result (Option Placed) Refusal × ℕ
read_step es code at = let r = read es code at in (r, place_after at r)

-- reading on from byte `at` gives these instructions, one after another, and then none
pub data Reads (es : List Entry) (code : List ℕ) : ℕ → List Placed → Type 0 where
  end : {at : ℕ} → read_step es code at ≡ (Ok None, at) → Reads es code at []
  next : {at to : ℕ} {i : Placed} {is : List Placed} → read_step es code at ≡ (Ok (Some i), to) → Reads es code to is → Reads es code at (i ∷ is)

-- instructions one after another, from this place on
abbrev pub Laid : ℕ → List Placed → Type 0
Laid at [] = Unit {0}
Laid at (i ∷ is) = (i.place ≡ at) × Laid (at + size i.instr.form) is
