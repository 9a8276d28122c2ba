-- Settling: every field to be filled is checked, in the order recorded, and then each is patched, by any two families.
use Rattle.std.specs.Prelude.{ℕ, ◌+◌, List, [], ◌∷◌, length, ℤ, pos, ◌-ℤ◌, Some, None, Option, Result}
use Rattle.std.proofs.Math.Seq.{paste}
use Rattle.std.specs.List.{between}
use Rattle.refusal.specs.declared.Reason.TheVariants as why
use Rattle.refusal.specs.declared.Refusal.{Refusal}
use Rattle.refusal.specs.Refusals.{when_some, refused_at}
use Rattle.field.specs.declared.verdict.FieldRefusal.{FieldRefusal}
use Rattle.field.specs.Family.{FieldInfo, Fields, Family, field_refused_at, held, refuses, after_patch}
use Rattle.book.specs.declared.target.Target.{Target}
use Rattle.book.specs.declared.target.Target.TheVariants.{Label as to_label, Symbol as to_symbol}
use Rattle.book.specs.declared.target.Use.{Use}

-- these bytes over the code's, from `at` on
abbrev pub write_at : ℕ → List ℕ → List ℕ → List ℕ
write_at at bytes code = paste code at bytes (length bytes)

-- labels have one family, symbols the other
abbrev pub family_for : Family → Family → Target → Family
family_for L S (to_label l) = L
family_for L S (to_symbol n offset) = S

-- the family's bytes for an instruction at this place
abbrev pub window_of : Option FieldInfo → ℕ → List ℕ → List ℕ
window_of None at code = []
window_of (Some i) at code = between (at + i.lead) (at + i.lead + i.size) code

-- the distance that a family reads at an instruction's place
abbrev pub held_at : Fields → ℕ → ℕ → List ℕ → Result ℤ FieldRefusal
held_at F k at code = held F k (window_of (F.table k) at code)

abbrev pub window_start : Option FieldInfo → ℕ → ℕ
window_start None at = at
window_start (Some i) at = at + i.lead

abbrev pub first_of : {X : Type 0} → Option X → Option X → Option X
first_of (Some x) o = Some x
first_of None o = o

-- why a field cannot be filled: its target has no place, or the family refuses the distance
abbrev pub distance_refused : Fields → Use → List ℕ → Option ℤ → Option Refusal
distance_refused F u code None = Some (refused_at u.place why.Unbound)
distance_refused F u code (Some p) =
    when_some (field_refused_at u.place) (refuses F u.kind (length (window_of (F.table u.kind) u.place code)) (p -ℤ pos u.place))

abbrev pub uses_refusal : Family → Family → (Target → Option ℤ) → List ℕ → List Use → Option Refusal
uses_refusal L S where_is code [] = None
uses_refusal L S where_is code (u ∷ us) =
    first_of (distance_refused (family_for L S u.target).fields u code (where_is u.target)) (uses_refusal L S where_is code us)

abbrev pub patched_to : Family → Use → List ℕ → Option ℤ → List ℕ
patched_to F u code None = code
patched_to F u code (Some p) =
    write_at (window_start (F.fields.table u.kind) u.place) (after_patch F u.kind (window_of (F.fields.table u.kind) u.place code) (p -ℤ pos u.place)) code

abbrev pub patched_all : Family → Family → (Target → Option ℤ) → List ℕ → List Use → List ℕ
patched_all L S where_is code [] = code
patched_all L S where_is code (u ∷ us) =
    patched_all L S where_is (patched_to (family_for L S u.target) u code (where_is u.target)) us
