-- The instruction forms. Each has a row of hexadecimal digits and the kinds of its operands.
--
-- In a row o and p are the opcode's digits, a to f those of the operands, each from high to low; an operand of 20 bits has its low twelve
-- bits in small letters and its high eight in capitals; 0 is unused and zero; x is RXB, which says which vector registers are above 15.
--
-- Kinds: G an integer register; N a register of either class, 0 to 15; V a vector register, 0 to 31; F a float register, 0 to 15; M a mask;
-- U8, U16, U32 unsigned and S16 signed numbers; D12 an unsigned, D20 a signed displacement; H16, H32 even distances, written halved.
use Rattle.std.specs.Prelude.{ℕ, suc, ◌+◌, ◌-◌, ◌/◌, Bool, cond, List, [], ◌∷◌, length, codes, ◌==◌, nat_le, slice_index_or}
use Prim.Native.String.{String}
use Rattle.form.specs.declared.Form.{Form}
use Rattle.form.specs.declared.Form.TheVariants.{E, RiA, RiB, RiC, RieA, RieD, RieF, RieG, RilA, RilB, RilC, Rr, Rrd, Rre, RrfAb, RrfCde, Rs, Rsy, Rx, Rxy, Si, Sil, Siy, VriA, VriB, VriC, VriK, VrrA, VrrB, VrrC, VrrD, VrrE, VrrF, VrsA, VrsB, VrsC, Vrx}
use Rattle.form.specs.declared.OperandKind.{OperandKind}
use Rattle.form.specs.declared.OperandKind.TheVariants.{G, N, V, F, M, U8, U16, U32, S16, D12, D20, H16, H32}

abbrev pub shape : Form → String × List OperandKind
shape E = ("oopp", [])
shape RiA = ("ooapbbbb", G ∷ U16 ∷ [])
shape RiB = ("ooapbbbb", G ∷ H16 ∷ [])
shape RiC = ("ooapbbbb", M ∷ H16 ∷ [])
shape RieA = ("ooa0bbbbc0pp", G ∷ U16 ∷ M ∷ [])
shape RieD = ("ooabcccc00pp", G ∷ G ∷ U16 ∷ [])
shape RieF = ("ooabccddeepp", G ∷ G ∷ U8 ∷ U8 ∷ U8 ∷ [])
shape RieG = ("ooacbbbb00pp", G ∷ U16 ∷ M ∷ [])
shape RilA = ("ooapbbbbbbbb", G ∷ U32 ∷ [])
shape RilB = ("ooapbbbbbbbb", G ∷ H32 ∷ [])
shape RilC = ("ooapbbbbbbbb", M ∷ H32 ∷ [])
shape Rr = ("ooab", N ∷ N ∷ [])
shape Rrd = ("ooppa0cb", F ∷ F ∷ F ∷ [])
shape Rre = ("oopp00ab", N ∷ N ∷ [])
shape RrfAb = ("ooppcdab", N ∷ N ∷ N ∷ M ∷ [])
shape RrfCde = ("ooppcdab", N ∷ N ∷ M ∷ M ∷ [])
shape Rs = ("ooabcddd", N ∷ N ∷ G ∷ D12 ∷ [])
shape Rsy = ("ooabcdddDDpp", N ∷ N ∷ G ∷ D20 ∷ [])
shape Rx = ("ooacbddd", N ∷ G ∷ G ∷ D12 ∷ [])
shape Rxy = ("ooacbdddDDpp", N ∷ G ∷ G ∷ D20 ∷ [])
shape Si = ("ooccabbb", G ∷ D12 ∷ U8 ∷ [])
shape Sil = ("ooppabbbcccc", G ∷ D12 ∷ S16 ∷ [])
shape Siy = ("ooccabbbBBpp", G ∷ D20 ∷ U8 ∷ [])
shape VriA = ("ooa0bbbbcxpp", V ∷ U16 ∷ M ∷ [])
shape VriB = ("ooa0bbccdxpp", V ∷ U8 ∷ U8 ∷ M ∷ [])
shape VriC = ("ooacbbbbdxpp", V ∷ U16 ∷ V ∷ M ∷ [])
shape VriK = ("oobcd0aaexpp", U8 ∷ V ∷ V ∷ V ∷ V ∷ [])
shape VrrA = ("ooab00edcxpp", V ∷ V ∷ M ∷ M ∷ M ∷ [])
shape VrrB = ("ooabc0e0dxpp", V ∷ V ∷ V ∷ M ∷ M ∷ [])
shape VrrC = ("ooabc0fedxpp", V ∷ V ∷ V ∷ M ∷ M ∷ M ∷ [])
shape VrrD = ("ooabcef0dxpp", V ∷ V ∷ V ∷ V ∷ M ∷ M ∷ [])
shape VrrE = ("ooabcf0edxpp", V ∷ V ∷ V ∷ V ∷ M ∷ M ∷ [])
shape VrrF = ("ooabc0000xpp", V ∷ G ∷ G ∷ [])
shape VrsA = ("ooadbcccexpp", V ∷ G ∷ D12 ∷ V ∷ M ∷ [])
shape VrsB = ("ooadbcccexpp", V ∷ G ∷ D12 ∷ G ∷ M ∷ [])
shape VrsC = ("ooadbcccexpp", G ∷ G ∷ D12 ∷ V ∷ M ∷ [])
shape Vrx = ("ooacbdddexpp", V ∷ G ∷ G ∷ D12 ∷ M ∷ [])

abbrev pub kinds : Form → List OperandKind
kinds f = (shape f).1

-- what stands at one place of a row
pub data Digit : Type 0 where
  op : ℕ → Digit  -- the opcode's digit k, counted from the low end
  arg : ℕ → ℕ → Digit  -- operand i's digit k
  vec : ℕ → Digit  -- the low digit of operand i, a vector register
  unused : Digit  -- unused: zero
  rxb : Digit  -- which vector registers are above 15

-- the letters, by their codes

abbrev pub count : ℕ → List ℕ → ℕ
count c [] = 0
count c (d ∷ ds) = cond (c == d) 1 0 + count c ds

abbrev pub register_or_digit : OperandKind → ℕ → ℕ → Digit
register_or_digit V i k = vec i
register_or_digit G i k = arg i k
register_or_digit N i k = arg i k
register_or_digit F i k = arg i k
register_or_digit M i k = arg i k
register_or_digit U8 i k = arg i k
register_or_digit U16 i k = arg i k
register_or_digit U32 i k = arg i k
register_or_digit S16 i k = arg i k
register_or_digit D12 i k = arg i k
register_or_digit D20 i k = arg i k
register_or_digit H16 i k = arg i k
register_or_digit H32 i k = arg i k

-- the digit for a letter, before the letters of the rest: as many of its own as follow are below it, and twelve bits are three digits
abbrev pub digit : List OperandKind → ℕ → List ℕ → Digit
digit ks c rest =
    cond (c == 48) unused  -- 0
    (cond (c == 120) rxb  -- x
    (cond (nat_le 111 c) (op (count 111 rest + count 112 rest))  -- o, p
    (cond (nat_le 97 c) (register_or_digit (slice_index_or ks (c - 97) M) (c - 97) (count c rest))  -- a to f
    (arg (c - 65) (3 + count c rest)))))  -- A to F

abbrev pub digits : List OperandKind → List ℕ → List Digit
digits ks [] = []
digits ks (c ∷ cs) = digit ks c cs ∷ digits ks cs

abbrev pub row : Form → List Digit
row f = digits (kinds f) (codes (shape f).0)

-- how many bytes it has
abbrev pub size : Form → ℕ
size f = length (row f) / 2

-- the places of the opcode's digits in a row
abbrev pub opcode_place : Digit → ℕ → List ℕ → List ℕ
opcode_place (op k) i is = i ∷ is
opcode_place (arg j k) i is = is
opcode_place (vec j) i is = is
opcode_place unused i is = is
opcode_place rxb i is = is

abbrev pub opcode_places : ℕ → List Digit → List ℕ
opcode_places i [] = []
opcode_places i (d ∷ ds) = opcode_place d i (opcode_places (suc i) ds)

abbrev pub opcode_digits : Form → List ℕ
opcode_digits f = opcode_places 0 (row f)

-- forms are told apart by their numbers
abbrev pub form_number : Form → ℕ
form_number E = 0
form_number RiA = 1
form_number RiB = 2
form_number RiC = 3
form_number RieA = 4
form_number RieD = 5
form_number RieF = 6
form_number RieG = 7
form_number RilA = 8
form_number RilB = 9
form_number RilC = 10
form_number Rr = 11
form_number Rrd = 12
form_number Rre = 13
form_number RrfAb = 14
form_number RrfCde = 15
form_number Rs = 16
form_number Rsy = 17
form_number Rx = 18
form_number Rxy = 19
form_number Si = 20
form_number Sil = 21
form_number Siy = 22
form_number VriA = 23
form_number VriB = 24
form_number VriC = 25
form_number VriK = 26
form_number VrrA = 27
form_number VrrB = 28
form_number VrrC = 29
form_number VrrD = 30
form_number VrrE = 31
form_number VrrF = 32
form_number VrsA = 33
form_number VrsB = 34
form_number VrsC = 35
form_number Vrx = 36

abbrev pub same_form : Form → Form → Bool
same_form f g = form_number f == form_number g
