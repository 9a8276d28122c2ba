-- What settling does to the code, by the families' laws alone.
use Rattle.std.specs.Prelude.{◌≡◌, ℕ, ◌+◌, ◌<◌, ◌≤◌, ◌⊎◌, List, ◌∷◌, ◌++◌, length, ℤ, pos, ◌-ℤ◌, Some, None, Ok, Option, slice_index}
use Rattle.std.specs.List.{AllByRecursion}
use Rattle.refusal.specs.Numbers.{big_endian}
use Rattle.field.specs.Family.{FieldInfo, Family, Lawful, field_bytes}
use Rattle.refusal.specs.Refusals.{Answer, answered, unless}
use Rattle.book.specs.declared.target.Target.{Target}
use Rattle.book.specs.declared.target.Slot.{Slot}
use Rattle.book.specs.Labels.{place_of}
use Rattle.book.specs.declared.target.Use.{Use}
use Rattle.settle_law.specs.Settle.{family_for, held_at, window_of, uses_refusal, patched_all}

abbrev pub Bytes : List ℕ → Type 0
Bytes xs = AllByRecursion (λ b. b < 256) xs

-- what the family of a use's target tells of its kind
abbrev pub info_of : Family → Family → Use → Option FieldInfo
info_of L S u = (family_for L S u.target).fields.table u.kind

-- a use's field in the code: from this byte up to, and without, that one
abbrev pub field_from : FieldInfo → Use → ℕ
field_from i u = u.place + i.lead + i.first

abbrev pub field_past : FieldInfo → Use → ℕ
field_past i u = u.place + i.lead + i.past

-- byte k is none of the use's field
abbrev pub Outside : Family → Family → ℕ → Use → Type 0
Outside L S k u = (i : FieldInfo) → info_of L S u ≡ Some i → (k < field_from i u) ⊎ (field_past i u ≤ k)

-- two fields have no byte in common
abbrev pub Apart : Family → Family → Use → Use → Type 0
Apart L S u v = (i j : FieldInfo) → info_of L S u ≡ Some i → info_of L S v ≡ Some j → (field_past i u ≤ field_from j v) ⊎ (field_past j v ≤ field_from i u)

abbrev pub Zero : Family → Family → List ℕ → Use → Type 0
Zero L S code u = (i : FieldInfo) → info_of L S u ≡ Some i → big_endian 0 (field_bytes i (window_of (Some i) u.place code)) ≡ 0

-- the use's family reads the distance from the use's instruction to its target
abbrev pub Holds : Family → Family → (Target → Option ℤ) → List ℕ → Use → Type 0
Holds L S where_is code u = (p : ℤ) → where_is u.target ≡ Some p → held_at (family_for L S u.target).fields u.kind u.place code ≡ Ok (p -ℤ pos u.place)

-- What was in the code, and what is: no byte outside the fields is changed, and each field that was zero, and has no byte in common with
-- another use's, holds its distance.
pub record Settled (L S : Family) (where_is : Target → Option ℤ) (us : List Use) (old new : List ℕ) : Type 0 where
  pub same_length : length new ≡ length old
  pub bytes : Bytes new
  pub untouched : (k : ℕ) → AllByRecursion (Outside L S k) us → slice_index new k ≡ slice_index old k
  pub holds : (before after : List Use) (u : Use) → us ≡ before ++ u ∷ after → AllByRecursion (Apart L S u) before → AllByRecursion (Apart L S u) after → Zero L S old u → Holds L S where_is new u

-- Settling answers r and leaves `new`: the first refusal and the code as it was, or nothing and every field filled.
pub record Settles (L S : Family) (labels : List Slot) (symbols : List ℤ) (us : List Use) (old : List ℕ) (r : Answer) (new : List ℕ) : Type 0 where
  pub answers : r ≡ answered (uses_refusal L S (place_of labels symbols) old us) tt
  pub leaves : new ≡ unless (uses_refusal L S (place_of labels symbols) old us) (patched_all L S (place_of labels symbols) old us) old
  pub fills : r ≡ Ok tt → Settled L S (place_of labels symbols) us old new

-- for any two lawful families
abbrev pub SettlingFills : Type 0
SettlingFills =
    (L S : Family) → Lawful L → Lawful S → (where_is : Target → Option ℤ) (code : List ℕ) (us : List Use) → Bytes code →
    uses_refusal L S where_is code us ≡ None → Settled L S where_is us code (patched_all L S where_is code us)
