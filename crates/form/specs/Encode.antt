-- An instruction's bytes from its opcode and operands, and back.
use Rattle.std.specs.Prelude.{ℕ, suc, ◌+◌, ◌-◌, ◌*◌, ◌/◌, ◌%◌, ◌^◌, Bool, true, false, cond, ◌&&◌, ◌||◌, List, [], ◌∷◌, ◌++◌, map, length, replicate, ℤ, pos, ◌==◌, nat_lt, slice_index, slice_index_or, unsigned_abs}
use Rattle.form.specs.declared.Form.{Form}
use Rattle.form.specs.declared.OperandKind.{OperandKind}
use Rattle.form.specs.declared.OperandKind.TheVariants.{G, N, V, F, M, U8, U16, U32, S16, D12, D20, H16, H32}
use Rattle.form.specs.Form.{Digit, op, arg, vec, unused, rxb, row, kinds}
use Rattle.refusal.specs.Numbers.{Width, within, to_bits, from_bits, plain, twos, halves}

-- Numbers and fields.

abbrev pub width : OperandKind → Width
width G = plain 4
width N = plain 4
width V = plain 5
width F = plain 4
width M = plain 4
width U8 = plain 8
width U16 = plain 16
width U32 = plain 32
width S16 = twos 16
width D12 = plain 12
width D20 = twos 20
width H16 = halves 16
width H32 = halves 32

-- whether z is of kind k
abbrev pub In : OperandKind → ℤ → Bool
In k z = within (width k) z

-- what z's digits spell, cut to them
abbrev pub operand_bits : OperandKind → ℤ → ℕ
operand_bits k z = to_bits (width k) z

abbrev pub operands_bits : List OperandKind → List ℤ → List ℕ
operands_bits [] zs = []
operands_bits (k ∷ ks) [] = 0 ∷ operands_bits ks []
operands_bits (k ∷ ks) (z ∷ zs) = operand_bits k z ∷ operands_bits ks zs

-- Encoding.

-- digit k of n
abbrev pub nibble : ℕ → ℕ → ℕ
nibble n k = n / 16 ^ k % 16

-- 1 for a register above 15
abbrev pub above : ℕ → ℕ
above n = cond (nat_lt 15 n) 1 0

abbrev pub high : List ℕ → Digit → ℕ
high xs (op k) = 0
high xs (arg i k) = 0
high xs (vec i) = above (slice_index xs i)
high xs unused = 0
high xs rxb = 0

-- the digit RXB: its bits 8, 4, 2 and 1 are for the digits 2, 3, 4 and 8 of the row
abbrev pub rxb_digit : List Digit → List ℕ → ℕ
rxb_digit ds xs = 8 * high xs (slice_index_or ds 2 unused) + 4 * high xs (slice_index_or ds 3 unused) + 2 * high xs (slice_index_or ds 4 unused) + high xs (slice_index_or ds 8 unused)

-- what a digit holds, in an instruction with opcode o and fields xs
abbrev pub value : List Digit → ℕ → List ℕ → Digit → ℕ
value ds o xs (op k) = nibble o k
value ds o xs (arg i k) = nibble (slice_index xs i) k
value ds o xs (vec i) = nibble (slice_index xs i) 0
value ds o xs unused = 0
value ds o xs rxb = rxb_digit ds xs

-- two digits to a byte
abbrev pub pairs : List ℕ → List ℕ
pairs [] = []
pairs (x ∷ []) = []
pairs (x ∷ y ∷ xs) = (16 * x + y) ∷ pairs xs

abbrev pub encode : Form → ℕ → List ℤ → List ℕ
encode f o zs = pairs (map (value (row f) o (operands_bits (kinds f) zs)) (row f))

-- Decoding.

-- the two digits of each byte
abbrev pub nibbles : List ℕ → List ℕ
nibbles [] = []
nibbles (b ∷ bs) = (b / 16) ∷ (b % 16) ∷ nibbles bs

-- the sum of what each digit of a row says, w, about the digit x that stands there
abbrev pub gather : (Digit → ℕ → ℕ) → List Digit → List ℕ → ℕ
gather w [] xs = 0
gather w (d ∷ ds) [] = 0
gather w (d ∷ ds) (x ∷ xs) = w d x + gather w ds xs

abbrev pub opcode_part : Digit → ℕ → ℕ
opcode_part (op k) x = x * 16 ^ k
opcode_part (arg i k) x = 0
opcode_part (vec i) x = 0
opcode_part unused x = 0
opcode_part rxb x = 0

abbrev pub operand_part : ℕ → Digit → ℕ → ℕ
operand_part i (op k) x = 0
operand_part i (arg j k) x = cond (i == j) (x * 16 ^ k) 0
operand_part i (vec j) x = cond (i == j) x 0
operand_part i unused x = 0
operand_part i rxb x = 0

-- b, where the digit is the low one of the vector register i
abbrev pub bit_part : ℕ → Digit → ℕ → ℕ
bit_part i (op k) b = 0
bit_part i (arg j k) b = 0
bit_part i (vec j) b = cond (i == j) b 0
bit_part i unused b = 0
bit_part i rxb b = 0

-- operand i's bit in the digit RXB, which is x
abbrev pub bit_of : ℕ → List Digit → ℕ → ℕ
bit_of i ds x =
    bit_part i (slice_index_or ds 2 unused) (x / 8 % 2) + bit_part i (slice_index_or ds 3 unused) (x / 4 % 2) + bit_part i (slice_index_or ds 4 unused) (x / 2 % 2) + bit_part i (slice_index_or ds 8 unused) (x % 2)

-- operand i's field; the digit RXB is digit 9 wherever a row has one
abbrev pub field_of : ℕ → List Digit → List ℕ → ℕ
field_of i ds xs = gather (operand_part i) ds xs + 16 * bit_of i ds (slice_index xs 9)

abbrev pub operands_from : ℕ → List OperandKind → List Digit → List ℕ → List ℤ
operands_from i [] ds xs = []
operands_from i (k ∷ ks) ds xs = from_bits (width k) (field_of i ds xs) ∷ operands_from (suc i) ks ds xs

-- six operands, the unused ones 0
abbrev pub six : List ℤ → List ℤ
six zs = zs ++ replicate (6 - length zs) (pos 0)

abbrev pub opcode_of : Form → List ℕ → ℕ
opcode_of f bytes = gather opcode_part (row f) (nibbles bytes)

abbrev pub operands_of : Form → List ℕ → List ℤ
operands_of f bytes = six (operands_from 0 (kinds f) (row f) (nibbles bytes))

-- Unused digits.

abbrev pub is_vec : Digit → Bool
is_vec (op k) = false
is_vec (arg i k) = false
is_vec (vec i) = true
is_vec unused = false
is_vec rxb = false

-- no bit of RXB is set but those of vector registers
abbrev pub rxb_clean : List Digit → ℕ → Bool
rxb_clean ds x =
    (is_vec (slice_index_or ds 2 unused) || x / 8 % 2 == 0) && (is_vec (slice_index_or ds 3 unused) || x / 4 % 2 == 0) && (is_vec (slice_index_or ds 4 unused) || x / 2 % 2 == 0) && (is_vec (slice_index_or ds 8 unused) || x % 2 == 0)

abbrev pub digit_clean : List Digit → Digit → ℕ → Bool
digit_clean ds (op k) x = true
digit_clean ds (arg i k) x = true
digit_clean ds (vec i) x = true
digit_clean ds unused x = x == 0
digit_clean ds rxb x = rxb_clean ds x

abbrev pub all_clean : List Digit → List Digit → List ℕ → Bool
all_clean row [] xs = true
all_clean row (d ∷ ds) [] = true
all_clean row (d ∷ ds) (x ∷ xs) = digit_clean row d x && all_clean row ds xs

-- no unused digit is set
abbrev pub clean : Form → List ℕ → Bool
clean f bytes = all_clean (row f) (row f) (nibbles bytes)

-- Operands as a call takes them: each of its kind, the unused ones 0.
abbrev pub takes : List OperandKind → List ℤ → Bool
takes [] [] = true
takes [] (z ∷ zs) = unsigned_abs z == 0 && takes [] zs
takes (k ∷ ks) [] = false
takes (k ∷ ks) (z ∷ zs) = In k z && takes ks zs
