-- Masks of branches: the condition codes that a mask selects, and the code that a comparison sets.
use Rattle.std.specs.Prelude.{ℕ, ◌+◌, ◌-◌, ◌/◌, ◌%◌, ◌^◌, Bool, cond, not, ◌&&◌, List, [], ◌∷◌, Ok, Err, codes, Option, Result, ◌==◌, nat_lt, slice_index_or}
use Rattle.std.specs.declared.cmp.Ordering.TheVariants.{Less, Equal, Greater}
use Rattle.std.specs.declared.cmp.Ordering.{Ordering}
use Rattle.refusal.specs.Refusals.{◌when◌, first_refusal}
use Rattle.refusal.specs.declared.Reason.{Reason}
use Rattle.refusal.specs.declared.Reason.TheVariants.{Operand}
use Rattle.refusal.specs.declared.Refusal.{Refusal}
use Rattle.condition.specs.declared.cond.Cond.{Cond}
use Rattle.condition.specs.declared.condcodes.IntCC.{IntCC}
use Rattle.condition.specs.Conditions.{Reading, read_as, order, relation}

-- bits 8, 4, 2 and 1 of a mask select condition codes 0, 1, 2 and 3
abbrev pub selects : ℕ → ℕ → Bool
selects m code = m / 2 ^ (3 - code) % 2 == 1

-- the condition code of a comparison: 0 equal, 1 first operand low, 2 first operand high; never 3
abbrev pub code_of : Ordering → ℕ
code_of Equal = 0
code_of Less = 1
code_of Greater = 2

-- of two operands of w bits: by COMPARE if arithmetic, by COMPARE LOGICAL if logical
abbrev pub compared : Reading → ℕ → ℕ → ℕ → ℕ
compared m w a b = code_of (order (read_as m w a) (read_as m w b))

-- the codes on which a condition holds
abbrev pub mask_of : IntCC → ℕ
mask_of c = cond (relation c Equal) 8 0 + cond (relation c Less) 4 0 + cond (relation c Greater) 2 0

-- a mask that selects some codes and not all
abbrev pub proper : ℕ → Bool
proper m = nat_lt 0 m && nat_lt m 15

abbrev pub mask_refusal : ℕ → Option Reason
mask_refusal m = first_refusal (Operand when not (proper m) ∷ [])

-- an answer with the condition's mask
abbrev pub masked : Result Cond Refusal → Result ℕ Refusal
masked (Ok c) = Ok c.mask
masked (Err e) = Err e

-- the suffix of a branch's mnemonic, by mask
abbrev pub suffixes : List (List ℕ)
suffixes =
    codes "never" ∷ codes "o" ∷ codes "h" ∷ codes "nle" ∷ codes "l" ∷ codes "nhe" ∷ codes "lh" ∷ codes "ne" ∷ codes "e" ∷ codes "nlh" ∷ codes "he" ∷ codes "nl" ∷ codes "le" ∷ codes "nh" ∷ codes "no" ∷ codes "always" ∷ []

abbrev pub suffix_of : ℕ → List ℕ
suffix_of m = slice_index_or suffixes m []
