-- What encoding gives for every form: its length, its first byte, and that it is of bytes.
use Rattle.std.proofs.Common.{◌≡◌, ℕ, zero, suc, ◌+◌, ◌-◌, ◌*◌, ◌/◌, ◌^◌, ◌<◌, ◌≤◌, Bool, true, false, cond, ◌&&◌, eqb, ltb, List, [], ◌∷◌, map, length, get_or, drop, ℤ, sym, refl, ap, ◌∙◌, zero-add, arith, drop-cons}
use Rattle.std.specs.List.{AllByRecursion}
use Rattle.std.proofs.lemmas.Bool.{and_parts, eqb-true}
use Rattle.form.specs.declared.Form.{Form}
use Rattle.form.specs.declared.Form.TheVariants.{E, RiA, RiB, RiC, RieA, RieD, RieF, RieG, RilA, RilB, RilC, Rr, Rrd, Rre, RrfAb, RrfCde, Rs, Rsy, Rx, Rxy, Si, Sil, Siy, VriA, VriB, VriC, VriK, VrrA, VrrB, VrrC, VrrD, VrrE, VrrF, VrsA, VrsB, VrsC, Vrx}
use Rattle.form.specs.Form.{Digit, op, arg, vec, unused, rxb, row, kinds, size, form_number, same_form, opcode_place, opcode_places, opcode_digits}
use Rattle.form.specs.Encode.{encode, operands_bits, value, nibble, above, high, pairs, nibbles, gather, opcode_part, opcode_of}
use Rattle.catalogue_law.specs.Catalogue.{first_byte}

-- Bytes.

nibble_small : (n k : ℕ) → nibble n k < 16
nibble_small n k = omega arith

above_small : (n : ℕ) → above n ≤ 1
above_small n = go (ltb 15 n)
  where
    go : (b : Bool) → cond b 1 0 ≤ 1
    go true = omega arith
    go false = omega arith

high_small : (xs : List ℕ) (d : Digit) → high xs d ≤ 1
high_small xs (op k) = omega arith
high_small xs (arg i k) = omega arith
high_small xs (vec i) = above_small (get_or xs i 0)
high_small xs unused = omega arith
high_small xs rxb = omega arith

value_small : (ds : List Digit) (o : ℕ) (xs : List ℕ) (d : Digit) → value ds o xs d < 16
value_small ds o xs (op k) = nibble_small o k
value_small ds o xs (arg i k) = nibble_small (get_or xs i 0) k
value_small ds o xs (vec i) = nibble_small (get_or xs i 0) 0
value_small ds o xs unused = omega arith
value_small ds o xs rxb =
    let a = high_small xs (get_or ds 2 unused) in
    let b = high_small xs (get_or ds 3 unused) in
    let c = high_small xs (get_or ds 4 unused) in
    let d = high_small xs (get_or ds 8 unused) in
    omega arith

pairs_small : (w : Digit → ℕ) → ((d : Digit) → w d < 16) → (ds : List Digit) → AllByRecursion (λ b. b < 256) (pairs (map w ds))
pairs_small w h [] = tt
pairs_small w h (d ∷ []) = tt
pairs_small w h (d ∷ e ∷ ds) = (let p = h d in let q = h e in omega arith, pairs_small w h ds)

pub encode_bytes : (f : Form) (o : ℕ) (zs : List ℤ) → AllByRecursion (λ b. b < 256) (encode f o zs)
encode_bytes f o zs = pairs_small (value (row f) o (operands_bits (kinds f) zs)) (value_small (row f) o (operands_bits (kinds f) zs)) (row f)

-- The length and the first byte.

pub encode_length : (f : Form) (o : ℕ) (zs : List ℤ) → length (encode f o zs) ≡ size f
encode_length E o zs = refl
encode_length RiA o zs = refl
encode_length RiB o zs = refl
encode_length RiC o zs = refl
encode_length RieA o zs = refl
encode_length RieD o zs = refl
encode_length RieF o zs = refl
encode_length RieG o zs = refl
encode_length RilA o zs = refl
encode_length RilB o zs = refl
encode_length RilC o zs = refl
encode_length Rr o zs = refl
encode_length Rrd o zs = refl
encode_length Rre o zs = refl
encode_length RrfAb o zs = refl
encode_length RrfCde o zs = refl
encode_length Rs o zs = refl
encode_length Rsy o zs = refl
encode_length Rx o zs = refl
encode_length Rxy o zs = refl
encode_length Si o zs = refl
encode_length Sil o zs = refl
encode_length Siy o zs = refl
encode_length VriA o zs = refl
encode_length VriB o zs = refl
encode_length VriC o zs = refl
encode_length VriK o zs = refl
encode_length VrrA o zs = refl
encode_length VrrB o zs = refl
encode_length VrrC o zs = refl
encode_length VrrD o zs = refl
encode_length VrrE o zs = refl
encode_length VrrF o zs = refl
encode_length VrsA o zs = refl
encode_length VrsB o zs = refl
encode_length VrsC o zs = refl
encode_length Vrx o zs = refl

abbrev pub head : List ℕ → ℕ
head [] = 0
head (b ∷ bs) = b

two : (o : ℕ) → o < 16 ^ 2 → 16 * nibble o 1 + nibble o 0 ≡ o / 16 ^ 0
two o h = omega arith

three : (o : ℕ) → o < 16 ^ 3 → 16 * nibble o 2 + nibble o 1 ≡ o / 16 ^ 1
three o h = omega arith

four : (o : ℕ) → o < 16 ^ 4 → 16 * nibble o 3 + nibble o 2 ≡ o / 16 ^ 2
four o h = omega arith

pub encode_head : (f : Form) (o : ℕ) (zs : List ℤ) → o < 16 ^ length (opcode_digits f) → head (encode f o zs) ≡ first_byte f o
encode_head E o zs h = four o h
encode_head RiA o zs h = three o h
encode_head RiB o zs h = three o h
encode_head RiC o zs h = three o h
encode_head RieA o zs h = four o h
encode_head RieD o zs h = four o h
encode_head RieF o zs h = four o h
encode_head RieG o zs h = four o h
encode_head RilA o zs h = three o h
encode_head RilB o zs h = three o h
encode_head RilC o zs h = three o h
encode_head Rr o zs h = two o h
encode_head Rrd o zs h = four o h
encode_head Rre o zs h = four o h
encode_head RrfAb o zs h = four o h
encode_head RrfCde o zs h = four o h
encode_head Rs o zs h = two o h
encode_head Rsy o zs h = four o h
encode_head Rx o zs h = two o h
encode_head Rxy o zs h = four o h
encode_head Si o zs h = two o h
encode_head Sil o zs h = four o h
encode_head Siy o zs h = four o h
encode_head VriA o zs h = four o h
encode_head VriB o zs h = four o h
encode_head VriC o zs h = four o h
encode_head VriK o zs h = four o h
encode_head VrrA o zs h = four o h
encode_head VrrB o zs h = four o h
encode_head VrrC o zs h = four o h
encode_head VrrD o zs h = four o h
encode_head VrrE o zs h = four o h
encode_head VrrF o zs h = four o h
encode_head VrsA o zs h = four o h
encode_head VrsB o zs h = four o h
encode_head VrsC o zs h = four o h
encode_head Vrx o zs h = four o h

pub size_least : (f : Form) → 2 ≤ size f
size_least E = omega arith
size_least RiA = omega arith
size_least RiB = omega arith
size_least RiC = omega arith
size_least RieA = omega arith
size_least RieD = omega arith
size_least RieF = omega arith
size_least RieG = omega arith
size_least RilA = omega arith
size_least RilB = omega arith
size_least RilC = omega arith
size_least Rr = omega arith
size_least Rrd = omega arith
size_least Rre = omega arith
size_least RrfAb = omega arith
size_least RrfCde = omega arith
size_least Rs = omega arith
size_least Rsy = omega arith
size_least Rx = omega arith
size_least Rxy = omega arith
size_least Si = omega arith
size_least Sil = omega arith
size_least Siy = omega arith
size_least VriA = omega arith
size_least VriB = omega arith
size_least VriC = omega arith
size_least VriK = omega arith
size_least VrrA = omega arith
size_least VrrB = omega arith
size_least VrrC = omega arith
size_least VrrD = omega arith
size_least VrrE = omega arith
size_least VrrF = omega arith
size_least VrsA = omega arith
size_least VrsB = omega arith
size_least VrsC = omega arith
size_least Vrx = omega arith

-- The opcode that is read, by the places of its digits.

-- the number that the digits at these places spell
abbrev pub spelled : List ℕ → List ℕ → ℕ
spelled [] xs = 0
spelled (p ∷ ps) xs = get_or xs p 0 * 16 ^ length ps + spelled ps xs

abbrev numbered_digit : Digit → ℕ → Bool
numbered_digit (op k) n = eqb k n
numbered_digit (arg i k) n = true
numbered_digit (vec i) n = true
numbered_digit unused n = true
numbered_digit rxb n = true

-- the opcode's digits are counted from the low end
abbrev numbered : ℕ → List Digit → Bool
numbered i [] = true
numbered i (d ∷ ds) = numbered_digit d (length (opcode_places (suc i) ds)) && numbered (suc i) ds

row_numbered : (f : Form) → numbered 0 (row f) ≡ true
row_numbered E = refl
row_numbered RiA = refl
row_numbered RiB = refl
row_numbered RiC = refl
row_numbered RieA = refl
row_numbered RieD = refl
row_numbered RieF = refl
row_numbered RieG = refl
row_numbered RilA = refl
row_numbered RilB = refl
row_numbered RilC = refl
row_numbered Rr = refl
row_numbered Rrd = refl
row_numbered Rre = refl
row_numbered RrfAb = refl
row_numbered RrfCde = refl
row_numbered Rs = refl
row_numbered Rsy = refl
row_numbered Rx = refl
row_numbered Rxy = refl
row_numbered Si = refl
row_numbered Sil = refl
row_numbered Siy = refl
row_numbered VriA = refl
row_numbered VriB = refl
row_numbered VriC = refl
row_numbered VriK = refl
row_numbered VrrA = refl
row_numbered VrrB = refl
row_numbered VrrC = refl
row_numbered VrrD = refl
row_numbered VrrE = refl
row_numbered VrrF = refl
row_numbered VrsA = refl
row_numbered VrsB = refl
row_numbered VrsC = refl
row_numbered Vrx = refl

row_length : (f : Form) → length (row f) ≡ 2 * size f
row_length E = refl
row_length RiA = refl
row_length RiB = refl
row_length RiC = refl
row_length RieA = refl
row_length RieD = refl
row_length RieF = refl
row_length RieG = refl
row_length RilA = refl
row_length RilB = refl
row_length RilC = refl
row_length Rr = refl
row_length Rrd = refl
row_length Rre = refl
row_length RrfAb = refl
row_length RrfCde = refl
row_length Rs = refl
row_length Rsy = refl
row_length Rx = refl
row_length Rxy = refl
row_length Si = refl
row_length Sil = refl
row_length Siy = refl
row_length VriA = refl
row_length VriB = refl
row_length VriC = refl
row_length VriK = refl
row_length VrrA = refl
row_length VrrB = refl
row_length VrrC = refl
row_length VrrD = refl
row_length VrrE = refl
row_length VrrF = refl
row_length VrsA = refl
row_length VrsB = refl
row_length VrsC = refl
row_length Vrx = refl

nibbles_length : (bs : List ℕ) → length (nibbles bs) ≡ 2 * length bs
nibbles_length [] = refl
nibbles_length (b ∷ bs) = let e = nibbles_length bs in omega arith

gather_spelled : (ys : List ℕ) (i : ℕ) (ds : List Digit) → length ys ≡ i + length ds → numbered i ds ≡ true → gather opcode_part ds (drop i ys) ≡ spelled (opcode_places i ds) ys
gather_spelled ys i [] h n = refl
gather_spelled ys i (d ∷ ds) h n =
    let s : i < length ys = omega arith in
    let parts = and_parts (numbered_digit d (length (opcode_places (suc i) ds))) (numbered (suc i) ds) n in
    let e = gather_spelled ys (suc i) ds (omega arith) parts.1 in
    ap (gather opcode_part (d ∷ ds)) (drop-cons ys i 0 s) ∙ go d parts.0 e
  where
    go : (d : Digit) → numbered_digit d (length (opcode_places (suc i) ds)) ≡ true → gather opcode_part ds (drop (suc i) ys) ≡ spelled (opcode_places (suc i) ds) ys → opcode_part d (get_or ys i 0) + gather opcode_part ds (drop (suc i) ys) ≡ spelled (opcode_place d i (opcode_places (suc i) ds)) ys
    go (op k) p e = let q = eqb-true k (length (opcode_places (suc i) ds)) p in cc
    go (arg j k) p e = zero-add _ ∙ e
    go (vec j) p e = zero-add _ ∙ e
    go unused p e = zero-add _ ∙ e
    go rxb p e = zero-add _ ∙ e

pub opcode_spelled : (f : Form) (bs : List ℕ) → length bs ≡ size f → opcode_of f bs ≡ spelled (opcode_digits f) (nibbles bs)
opcode_spelled f bs h = gather_spelled (nibbles bs) 0 (row f) (nibbles_length bs ∙ let e = row_length f in omega arith) (row_numbered f)

-- The first byte is that of the opcode that is read.

nibbles_small : (bs : List ℕ) → AllByRecursion (λ b. b < 256) bs → AllByRecursion (λ x. x < 16) (nibbles bs)
nibbles_small [] h = tt
nibbles_small (b ∷ bs) h = (let s : b < 256 = h.0 in omega arith, (omega arith, nibbles_small bs h.1))

get_or_small : (xs : List ℕ) (i : ℕ) → AllByRecursion (λ x. x < 16) xs → get_or xs i 0 < 16
get_or_small [] i h = omega arith
get_or_small (x ∷ xs) zero h = h.0
get_or_small (x ∷ xs) (suc i) h = get_or_small xs i h.1

head_whole : (bs : List ℕ) → 16 * get_or (nibbles bs) 0 0 + get_or (nibbles bs) 1 0 ≡ head bs
head_whole [] = refl
head_whole (b ∷ bs) = omega arith

read_two : (a b : ℕ) → (a * 16 ^ 1 + (b * 16 ^ 0 + 0)) / 16 ^ 0 ≡ 16 * a + b
read_two a b = omega arith

read_three : (a b c : ℕ) → b < 16 → c < 16 → (a * 16 ^ 2 + (b * 16 ^ 1 + (c * 16 ^ 0 + 0))) / 16 ^ 1 ≡ 16 * a + b
read_three a b c h k = omega arith

read_four : (a b c d : ℕ) → b < 16 → c < 16 → d < 16 → (a * 16 ^ 3 + (b * 16 ^ 2 + (c * 16 ^ 1 + (d * 16 ^ 0 + 0)))) / 16 ^ 2 ≡ 16 * a + b
read_four a b c d h k l = omega arith

first_spelled : (f : Form) (xs : List ℕ) → AllByRecursion (λ x. x < 16) xs → spelled (opcode_digits f) xs / 16 ^ (length (opcode_digits f) - 2) ≡ 16 * get_or xs 0 0 + get_or xs 1 0
first_spelled E xs h = read_four (get_or xs 0 0) (get_or xs 1 0) (get_or xs 2 0) (get_or xs 3 0) (get_or_small xs 1 h) (get_or_small xs 2 h) (get_or_small xs 3 h)
first_spelled RiA xs h = read_three (get_or xs 0 0) (get_or xs 1 0) (get_or xs 3 0) (get_or_small xs 1 h) (get_or_small xs 3 h)
first_spelled RiB xs h = read_three (get_or xs 0 0) (get_or xs 1 0) (get_or xs 3 0) (get_or_small xs 1 h) (get_or_small xs 3 h)
first_spelled RiC xs h = read_three (get_or xs 0 0) (get_or xs 1 0) (get_or xs 3 0) (get_or_small xs 1 h) (get_or_small xs 3 h)
first_spelled RieA xs h = read_four (get_or xs 0 0) (get_or xs 1 0) (get_or xs 10 0) (get_or xs 11 0) (get_or_small xs 1 h) (get_or_small xs 10 h) (get_or_small xs 11 h)
first_spelled RieD xs h = read_four (get_or xs 0 0) (get_or xs 1 0) (get_or xs 10 0) (get_or xs 11 0) (get_or_small xs 1 h) (get_or_small xs 10 h) (get_or_small xs 11 h)
first_spelled RieF xs h = read_four (get_or xs 0 0) (get_or xs 1 0) (get_or xs 10 0) (get_or xs 11 0) (get_or_small xs 1 h) (get_or_small xs 10 h) (get_or_small xs 11 h)
first_spelled RieG xs h = read_four (get_or xs 0 0) (get_or xs 1 0) (get_or xs 10 0) (get_or xs 11 0) (get_or_small xs 1 h) (get_or_small xs 10 h) (get_or_small xs 11 h)
first_spelled RilA xs h = read_three (get_or xs 0 0) (get_or xs 1 0) (get_or xs 3 0) (get_or_small xs 1 h) (get_or_small xs 3 h)
first_spelled RilB xs h = read_three (get_or xs 0 0) (get_or xs 1 0) (get_or xs 3 0) (get_or_small xs 1 h) (get_or_small xs 3 h)
first_spelled RilC xs h = read_three (get_or xs 0 0) (get_or xs 1 0) (get_or xs 3 0) (get_or_small xs 1 h) (get_or_small xs 3 h)
first_spelled Rr xs h = read_two (get_or xs 0 0) (get_or xs 1 0)
first_spelled Rrd xs h = read_four (get_or xs 0 0) (get_or xs 1 0) (get_or xs 2 0) (get_or xs 3 0) (get_or_small xs 1 h) (get_or_small xs 2 h) (get_or_small xs 3 h)
first_spelled Rre xs h = read_four (get_or xs 0 0) (get_or xs 1 0) (get_or xs 2 0) (get_or xs 3 0) (get_or_small xs 1 h) (get_or_small xs 2 h) (get_or_small xs 3 h)
first_spelled RrfAb xs h = read_four (get_or xs 0 0) (get_or xs 1 0) (get_or xs 2 0) (get_or xs 3 0) (get_or_small xs 1 h) (get_or_small xs 2 h) (get_or_small xs 3 h)
first_spelled RrfCde xs h = read_four (get_or xs 0 0) (get_or xs 1 0) (get_or xs 2 0) (get_or xs 3 0) (get_or_small xs 1 h) (get_or_small xs 2 h) (get_or_small xs 3 h)
first_spelled Rs xs h = read_two (get_or xs 0 0) (get_or xs 1 0)
first_spelled Rsy xs h = read_four (get_or xs 0 0) (get_or xs 1 0) (get_or xs 10 0) (get_or xs 11 0) (get_or_small xs 1 h) (get_or_small xs 10 h) (get_or_small xs 11 h)
first_spelled Rx xs h = read_two (get_or xs 0 0) (get_or xs 1 0)
first_spelled Rxy xs h = read_four (get_or xs 0 0) (get_or xs 1 0) (get_or xs 10 0) (get_or xs 11 0) (get_or_small xs 1 h) (get_or_small xs 10 h) (get_or_small xs 11 h)
first_spelled Si xs h = read_two (get_or xs 0 0) (get_or xs 1 0)
first_spelled Sil xs h = read_four (get_or xs 0 0) (get_or xs 1 0) (get_or xs 2 0) (get_or xs 3 0) (get_or_small xs 1 h) (get_or_small xs 2 h) (get_or_small xs 3 h)
first_spelled Siy xs h = read_four (get_or xs 0 0) (get_or xs 1 0) (get_or xs 10 0) (get_or xs 11 0) (get_or_small xs 1 h) (get_or_small xs 10 h) (get_or_small xs 11 h)
first_spelled VriA xs h = read_four (get_or xs 0 0) (get_or xs 1 0) (get_or xs 10 0) (get_or xs 11 0) (get_or_small xs 1 h) (get_or_small xs 10 h) (get_or_small xs 11 h)
first_spelled VriB xs h = read_four (get_or xs 0 0) (get_or xs 1 0) (get_or xs 10 0) (get_or xs 11 0) (get_or_small xs 1 h) (get_or_small xs 10 h) (get_or_small xs 11 h)
first_spelled VriC xs h = read_four (get_or xs 0 0) (get_or xs 1 0) (get_or xs 10 0) (get_or xs 11 0) (get_or_small xs 1 h) (get_or_small xs 10 h) (get_or_small xs 11 h)
first_spelled VriK xs h = read_four (get_or xs 0 0) (get_or xs 1 0) (get_or xs 10 0) (get_or xs 11 0) (get_or_small xs 1 h) (get_or_small xs 10 h) (get_or_small xs 11 h)
first_spelled VrrA xs h = read_four (get_or xs 0 0) (get_or xs 1 0) (get_or xs 10 0) (get_or xs 11 0) (get_or_small xs 1 h) (get_or_small xs 10 h) (get_or_small xs 11 h)
first_spelled VrrB xs h = read_four (get_or xs 0 0) (get_or xs 1 0) (get_or xs 10 0) (get_or xs 11 0) (get_or_small xs 1 h) (get_or_small xs 10 h) (get_or_small xs 11 h)
first_spelled VrrC xs h = read_four (get_or xs 0 0) (get_or xs 1 0) (get_or xs 10 0) (get_or xs 11 0) (get_or_small xs 1 h) (get_or_small xs 10 h) (get_or_small xs 11 h)
first_spelled VrrD xs h = read_four (get_or xs 0 0) (get_or xs 1 0) (get_or xs 10 0) (get_or xs 11 0) (get_or_small xs 1 h) (get_or_small xs 10 h) (get_or_small xs 11 h)
first_spelled VrrE xs h = read_four (get_or xs 0 0) (get_or xs 1 0) (get_or xs 10 0) (get_or xs 11 0) (get_or_small xs 1 h) (get_or_small xs 10 h) (get_or_small xs 11 h)
first_spelled VrrF xs h = read_four (get_or xs 0 0) (get_or xs 1 0) (get_or xs 10 0) (get_or xs 11 0) (get_or_small xs 1 h) (get_or_small xs 10 h) (get_or_small xs 11 h)
first_spelled VrsA xs h = read_four (get_or xs 0 0) (get_or xs 1 0) (get_or xs 10 0) (get_or xs 11 0) (get_or_small xs 1 h) (get_or_small xs 10 h) (get_or_small xs 11 h)
first_spelled VrsB xs h = read_four (get_or xs 0 0) (get_or xs 1 0) (get_or xs 10 0) (get_or xs 11 0) (get_or_small xs 1 h) (get_or_small xs 10 h) (get_or_small xs 11 h)
first_spelled VrsC xs h = read_four (get_or xs 0 0) (get_or xs 1 0) (get_or xs 10 0) (get_or xs 11 0) (get_or_small xs 1 h) (get_or_small xs 10 h) (get_or_small xs 11 h)
first_spelled Vrx xs h = read_four (get_or xs 0 0) (get_or xs 1 0) (get_or xs 10 0) (get_or xs 11 0) (get_or_small xs 1 h) (get_or_small xs 10 h) (get_or_small xs 11 h)

pub first_of_opcode : (f : Form) (bs : List ℕ) → length bs ≡ size f → AllByRecursion (λ b. b < 256) bs → first_byte f (opcode_of f bs) ≡ head bs
first_of_opcode f bs h s =
    ap (λ (n : ℕ). n / 16 ^ (length (opcode_digits f) - 2)) (opcode_spelled f bs h) ∙ first_spelled f (nibbles bs) (nibbles_small bs s) ∙ head_whole bs

-- Forms are told apart by their numbers.

abbrev numbered_form : ℕ → Form
numbered_form n = get_or (E ∷ RiA ∷ RiB ∷ RiC ∷ RieA ∷ RieD ∷ RieF ∷ RieG ∷ RilA ∷ RilB ∷ RilC ∷ Rr ∷ Rrd ∷ Rre ∷ RrfAb ∷ RrfCde ∷ Rs ∷ Rsy ∷ Rx ∷ Rxy ∷ Si ∷ Sil ∷ Siy ∷ VriA ∷ VriB ∷ VriC ∷ VriK ∷ VrrA ∷ VrrB ∷ VrrC ∷ VrrD ∷ VrrE ∷ VrrF ∷ VrsA ∷ VrsB ∷ VrsC ∷ Vrx ∷ []) n E

form_again : (f : Form) → numbered_form (form_number f) ≡ f
form_again E = refl
form_again RiA = refl
form_again RiB = refl
form_again RiC = refl
form_again RieA = refl
form_again RieD = refl
form_again RieF = refl
form_again RieG = refl
form_again RilA = refl
form_again RilB = refl
form_again RilC = refl
form_again Rr = refl
form_again Rrd = refl
form_again Rre = refl
form_again RrfAb = refl
form_again RrfCde = refl
form_again Rs = refl
form_again Rsy = refl
form_again Rx = refl
form_again Rxy = refl
form_again Si = refl
form_again Sil = refl
form_again Siy = refl
form_again VriA = refl
form_again VriB = refl
form_again VriC = refl
form_again VriK = refl
form_again VrrA = refl
form_again VrrB = refl
form_again VrrC = refl
form_again VrrD = refl
form_again VrrE = refl
form_again VrrF = refl
form_again VrsA = refl
form_again VrsB = refl
form_again VrsC = refl
form_again Vrx = refl

pub same_form_is : (f g : Form) → same_form f g ≡ true → f ≡ g
same_form_is f g h = let e = eqb-true (form_number f) (form_number g) h in sym (form_again f) ∙ ap numbered_form e ∙ form_again g
