-- Conditions on two integers: what each means, and which other conditions follow from one.
use Rattle.std.specs.Prelude.{◌≡◌, ℕ, Bool, true, false, cond, not, List, [], ◌∷◌, length, ℤ, pos, codes, Result, MatchResult, ◌≢◌, int_lt, slice_index_or}
use Rattle.std.specs.declared.cmp.Ordering.{Ordering}
use Rattle.std.specs.Ordering.{is_eq, is_ne, is_lt, is_gt, is_le, is_ge}
use Rattle.std.specs.declared.cmp.Ordering.TheVariants as ordering
use Rattle.refusal.specs.Numbers.{signed}
use Rattle.condition.specs.declared.condcodes.IntCC.{IntCC}
use Rattle.condition.specs.declared.condcodes.IntCC.TheVariants.{Equal, NotEqual, SignedLessThan, SignedGreaterThanOrEqual, SignedGreaterThan, SignedLessThanOrEqual, UnsignedLessThan, UnsignedGreaterThanOrEqual, UnsignedGreaterThan, UnsignedLessThanOrEqual}

-- how two numbers stand to each other
abbrev pub order : ℤ → ℤ → Ordering
order x y = cond (int_lt x y) ordering.Less (cond (int_lt y x) ordering.Greater ordering.Equal)

-- how they have to stand for a condition to hold
abbrev pub relation : IntCC → Ordering → Bool
relation Equal = is_eq
relation NotEqual = is_ne
relation SignedLessThan = is_lt
relation SignedGreaterThanOrEqual = is_ge
relation SignedGreaterThan = is_gt
relation SignedLessThanOrEqual = is_le
relation UnsignedLessThan = is_lt
relation UnsignedGreaterThanOrEqual = is_ge
relation UnsignedGreaterThan = is_gt
relation UnsignedLessThanOrEqual = is_le

-- the number that w bits are: in two's complement, or unsigned
pub data Reading : Type 0 where
  arithmetic : Reading
  logical : Reading

abbrev pub read_as : Reading → ℕ → ℕ → ℤ
read_as arithmetic w a = signed w a
read_as logical w a = pos a

abbrev pub is_arithmetic : Reading → Bool
is_arithmetic arithmetic = true
is_arithmetic logical = false

-- how a condition may read its operands: for equality, either way
abbrev pub serves : IntCC → Reading → Bool
serves Equal m = true
serves NotEqual m = true
serves SignedLessThan m = is_arithmetic m
serves SignedGreaterThanOrEqual m = is_arithmetic m
serves SignedGreaterThan m = is_arithmetic m
serves SignedLessThanOrEqual m = is_arithmetic m
serves UnsignedLessThan m = not (is_arithmetic m)
serves UnsignedGreaterThanOrEqual m = not (is_arithmetic m)
serves UnsignedGreaterThan m = not (is_arithmetic m)
serves UnsignedLessThanOrEqual m = not (is_arithmetic m)

abbrev pub reading : IntCC → Reading
reading c = cond (serves c logical) logical arithmetic

-- whether a condition holds of two operands of w bits
abbrev pub holds : ℕ → IntCC → ℕ → ℕ → Bool
holds w c a b = relation c (order (read_as (reading c) w a) (read_as (reading c) w b))

-- holds where this one does not
abbrev pub complement_of : IntCC → IntCC
complement_of Equal = NotEqual
complement_of NotEqual = Equal
complement_of SignedLessThan = SignedGreaterThanOrEqual
complement_of SignedGreaterThanOrEqual = SignedLessThan
complement_of SignedGreaterThan = SignedLessThanOrEqual
complement_of SignedLessThanOrEqual = SignedGreaterThan
complement_of UnsignedLessThan = UnsignedGreaterThanOrEqual
complement_of UnsignedGreaterThanOrEqual = UnsignedLessThan
complement_of UnsignedGreaterThan = UnsignedLessThanOrEqual
complement_of UnsignedLessThanOrEqual = UnsignedGreaterThan

-- holds of b and a where this one holds of a and b
abbrev pub swapped_of : IntCC → IntCC
swapped_of Equal = Equal
swapped_of NotEqual = NotEqual
swapped_of SignedLessThan = SignedGreaterThan
swapped_of SignedGreaterThanOrEqual = SignedLessThanOrEqual
swapped_of SignedGreaterThan = SignedLessThan
swapped_of SignedLessThanOrEqual = SignedGreaterThanOrEqual
swapped_of UnsignedLessThan = UnsignedGreaterThan
swapped_of UnsignedGreaterThanOrEqual = UnsignedLessThanOrEqual
swapped_of UnsignedGreaterThan = UnsignedLessThan
swapped_of UnsignedLessThanOrEqual = UnsignedGreaterThanOrEqual

-- an ordering made strict
abbrev pub without_equal_of : IntCC → IntCC
without_equal_of Equal = Equal
without_equal_of NotEqual = NotEqual
without_equal_of SignedLessThan = SignedLessThan
without_equal_of SignedGreaterThanOrEqual = SignedGreaterThan
without_equal_of SignedGreaterThan = SignedGreaterThan
without_equal_of SignedLessThanOrEqual = SignedLessThan
without_equal_of UnsignedLessThan = UnsignedLessThan
without_equal_of UnsignedGreaterThanOrEqual = UnsignedGreaterThan
without_equal_of UnsignedGreaterThan = UnsignedGreaterThan
without_equal_of UnsignedLessThanOrEqual = UnsignedLessThan

-- the same of unsigned numbers
abbrev pub unsigned_of : IntCC → IntCC
unsigned_of Equal = Equal
unsigned_of NotEqual = NotEqual
unsigned_of SignedLessThan = UnsignedLessThan
unsigned_of SignedGreaterThanOrEqual = UnsignedGreaterThanOrEqual
unsigned_of SignedGreaterThan = UnsignedGreaterThan
unsigned_of SignedLessThanOrEqual = UnsignedLessThanOrEqual
unsigned_of UnsignedLessThan = UnsignedLessThan
unsigned_of UnsignedGreaterThanOrEqual = UnsignedGreaterThanOrEqual
unsigned_of UnsignedGreaterThan = UnsignedGreaterThan
unsigned_of UnsignedLessThanOrEqual = UnsignedLessThanOrEqual

-- every condition, in the order of their declaration
abbrev pub conditions : List IntCC
conditions =
    Equal ∷ NotEqual ∷ SignedLessThan ∷ SignedGreaterThanOrEqual ∷ SignedGreaterThan ∷ SignedLessThanOrEqual ∷ UnsignedLessThan ∷ UnsignedGreaterThanOrEqual ∷ UnsignedGreaterThan ∷ UnsignedLessThanOrEqual ∷ []

-- where a condition stands among them
abbrev pub place_of : IntCC → ℕ
place_of Equal = 0
place_of NotEqual = 1
place_of SignedLessThan = 2
place_of SignedGreaterThanOrEqual = 3
place_of SignedGreaterThan = 4
place_of SignedLessThanOrEqual = 5
place_of UnsignedLessThan = 6
place_of UnsignedGreaterThanOrEqual = 7
place_of UnsignedGreaterThan = 8
place_of UnsignedLessThanOrEqual = 9

-- each condition once, at its place
abbrev pub Complete : List IntCC → Type 0
Complete xs = (length xs ≡ 10) × ((c : IntCC) → slice_index_or xs (place_of c) Equal ≡ c)

-- the name of a condition
abbrev pub name_of : IntCC → List ℕ
name_of Equal = codes "eq"
name_of NotEqual = codes "ne"
name_of SignedLessThan = codes "slt"
name_of SignedGreaterThanOrEqual = codes "sge"
name_of SignedGreaterThan = codes "sgt"
name_of SignedLessThanOrEqual = codes "sle"
name_of UnsignedLessThan = codes "ult"
name_of UnsignedGreaterThanOrEqual = codes "uge"
name_of UnsignedGreaterThan = codes "ugt"
name_of UnsignedLessThanOrEqual = codes "ule"

-- what a text is read as: the condition of that name; an error, if no condition has it
abbrev pub Named : List ℕ → Result IntCC (Unit {0}) → Type 0
Named text r = MatchResult r (λ c. text ≡ name_of c) (λ _. (c : IntCC) → text ≢ name_of c)
