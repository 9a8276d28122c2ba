-- Reading inverts writing, for every form.
use Rattle.std.specs.Prelude.{◌≡◌, ℕ, ◌^◌, ◌<◌, true, List, length, ℤ}
use Rattle.std.specs.List.{AllByRecursion}
use Rattle.form.specs.declared.Form.{Form}
use Rattle.form.specs.Form.{kinds, size, opcode_digits}
use Rattle.form.specs.Encode.{encode, operands_of, opcode_of, clean, takes}

-- what is written, of an opcode with no more digits than the row's and six operands that the form takes, is read back
abbrev pub WrittenIsReadAt : Form → Type 0
WrittenIsReadAt f =
    (o : ℕ) (zs : List ℤ) → o < 16 ^ length (opcode_digits f) → length zs ≡ 6 → takes (kinds f) zs ≡ true
    → (operands_of f (encode f o zs) ≡ zs)
    × (opcode_of f (encode f o zs) ≡ o)
    × (clean f (encode f o zs) ≡ true)
    × (length (encode f o zs) ≡ size f)

-- bytes with no unused digit set are what writing gives, of the opcode and the operands that are read, which the form takes
abbrev pub ReadIsWrittenAt : Form → Type 0
ReadIsWrittenAt f =
    (bytes : List ℕ) → length bytes ≡ size f → AllByRecursion (λ b. b < 256) bytes → clean f bytes ≡ true
    → (encode f (opcode_of f bytes) (operands_of f bytes) ≡ bytes)
    × (takes (kinds f) (operands_of f bytes) ≡ true)
    × (length (operands_of f bytes) ≡ 6)
    × (opcode_of f bytes < 16 ^ length (opcode_digits f))

abbrev pub WrittenIsRead : Type 0
WrittenIsRead = (f : Form) → WrittenIsReadAt f

abbrev pub ReadIsWritten : Type 0
ReadIsWritten = (f : Form) → ReadIsWrittenAt f

abbrev pub ReadingInvertsWriting : Type 0
ReadingInvertsWriting = WrittenIsRead × ReadIsWritten
