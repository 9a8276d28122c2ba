-- How the code gets there: where a family's bytes lie, and the distance that a use gets.
use Rattle.std.specs.Prelude.{ℕ, ◌+◌, ◌-◌, min, List, ℤ, pos, ◌-ℤ◌, Some, None, Err, Option, Result}
use Rattle.refusal.specs.declared.Reason.TheVariants as why
use Rattle.refusal.specs.declared.Refusal.{Refusal}
use Rattle.refusal.specs.Refusals.{when_some, answered, refused_at}
use Rattle.field.specs.Family.{FieldInfo, Fields, Family, refuses, after_patch, field_refused_at}
use Rattle.book.specs.declared.target.Use.{Use}
use Rattle.settle_law.specs.Settle.{window_of, window_start, write_at}

-- the distance to a place from an instruction's
abbrev pub distance_from : ℕ → Option ℤ → Option ℤ
distance_from at None = None
distance_from at (Some p) = Some (p -ℤ pos at)

-- where the family's bytes lie in n bytes of code, as far as they reach
abbrev pub window_from : Option FieldInfo → ℕ → ℕ → ℕ
window_from o at n = min (window_start o at) n

abbrev pub window_size : Option FieldInfo → ℕ
window_size None = 0
window_size (Some i) = i.size

abbrev pub window_past : Option FieldInfo → ℕ → ℕ → ℕ
window_past o at n = min (window_start o at + window_size o) n

-- the distance that a use gets of the one that is wanted, in n bytes of code, or why it gets none
abbrev pub planned : Fields → Use → ℕ → Option ℤ → Result ℤ Refusal
planned F u n None = Err (refused_at u.place why.Unbound)
planned F u n (Some d) =
    answered
    (when_some (field_refused_at u.place) (refuses F u.kind (window_past (F.table u.kind) u.place n - window_from (F.table u.kind) u.place n) d))
    d

-- the code after one use's field was filled with the distance that is wanted
abbrev pub filled : Family → Use → List ℕ → Option ℤ → List ℕ
filled F u code None = code
filled F u code (Some d) =
    write_at (window_start (F.fields.table u.kind) u.place) (after_patch F u.kind (window_of (F.fields.table u.kind) u.place code) d) code
