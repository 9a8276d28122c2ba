-- Families of fields that hold a distance. A family has numbered kinds of fields; it reads and writes the field in bytes that it is given.
use Rattle.std.specs.Prelude.{◌≡◌, ℕ, ◌+◌, ◌-◌, ◌*◌, ◌%◌, ◌^◌, ◌<◌, ◌≤◌, Bool, true, false, cond, not, ◌&&◌, ◌||◌, ltb, List, [], ◌∷◌, ◌++◌, length, take, drop, ℤ, pos, ◌*ℤ◌, neg_ℤ, Some, None, Ok, Err, Option, Result, ◌==◌, int_le, int_lt, nat_lt, unsigned_abs}
use Rattle.std.specs.Int.Signed.{mag, shr_z}
use Rattle.std.specs.List.{AllByRecursion}
use Rattle.refusal.specs.declared.Reason.{Reason}
use Rattle.refusal.specs.declared.Reason.TheVariants as why
use Rattle.refusal.specs.declared.Refusal.{Refusal}
use Rattle.refusal.specs.Refusals.{distance_refused_at, unless}
use Rattle.refusal.specs.Numbers.{signed, wrap, big_endian, bytes_of_number}
use Rattle.field.specs.declared.info.FieldInfo as info
use Rattle.field.specs.declared.verdict.FieldRefusal.{FieldRefusal}
use Rattle.field.specs.declared.verdict.FieldRefusal.TheVariants.{Kind, Far, Odd}

-- A family's refusals among all reasons, which have the numbers; the layer is the field's.

abbrev pub reason_of : FieldRefusal → Reason
reason_of Kind = why.Kind
reason_of Far = why.Far
reason_of Odd = why.Odd

abbrev pub field_refused_at : ℕ → FieldRefusal → Refusal
field_refused_at place e = distance_refused_at place (reason_of e)

-- a decision list: the first whose test holds
infix 70 ◌when◌
abbrev pub ◌when◌ : FieldRefusal → Bool → FieldRefusal × Bool
e when b = (e, b)

abbrev pub first_refused : List (FieldRefusal × Bool) → Option FieldRefusal
first_refused [] = None
first_refused (t ∷ ts) = cond t.1 (Some t.0) (first_refused ts)

-- what a family tells of one kind: where its bytes lie, where the field lies among them, and the least and the greatest distance
abbrev pub FieldInfo : Type 0
FieldInfo = info.FieldInfo

-- what the reading interface tells
pub record Fields : Type 0 where
  pub align : ℕ
  pub table : ℕ → Option FieldInfo

-- what the patching interface adds
pub record Family : Type 0 where
  pub fields : Fields
  pub patched : ℕ → List ℕ → ℤ → List ℕ  -- what an accepted patch leaves, by kind, bytes and distance

abbrev pub family : Fields → (ℕ → List ℕ → ℤ → List ℕ) → Family
family F p = record { fields = F; patched = p }

-- Reading.

abbrev pub field_bytes : FieldInfo → List ℕ → List ℕ
field_bytes i bytes = take (i.past - i.first) (drop i.first bytes)

abbrev pub field_value : FieldInfo → List ℕ → ℤ
field_value i bytes = signed (8 * (i.past - i.first)) (big_endian 0 (field_bytes i bytes))

abbrev pub held_by : ℕ → Option FieldInfo → List ℕ → Result ℤ FieldRefusal
held_by a None bytes = Err Kind
held_by a (Some i) bytes = cond (nat_lt (length bytes) i.size) (Err Kind) (Ok (pos a *ℤ field_value i bytes))

-- the distance that the bytes hold
abbrev pub held : Fields → ℕ → List ℕ → Result ℤ FieldRefusal
held F k bytes = held_by F.align (F.table k) bytes

-- a family's other answers are read off its table
abbrev pub told : {X : Type 0} → (FieldInfo → X) → Option FieldInfo → Result X FieldRefusal
told answer None = Err Kind
told answer (Some i) = Ok (answer i)

-- the field of a kind is zero in these bytes
abbrev pub ZeroField : Option FieldInfo → List ℕ → Type 0
ZeroField None bytes = Unit {0}
ZeroField (Some i) bytes = big_endian 0 (field_bytes i bytes) ≡ 0

-- Patching.

abbrev pub multiple : ℕ → ℤ → Bool
multiple a d = unsigned_abs d % a == 0

-- why a distance cannot be held, of n bytes given
abbrev pub refuses_by : ℕ → Option FieldInfo → ℕ → ℤ → Option FieldRefusal
refuses_by a None n d = Some Kind
refuses_by a (Some i) n d =
    first_refused
    (Kind when ltb n i.size
    ∷ Far when (int_lt d i.least || int_lt i.greatest d)
    ∷ Odd when not (multiple a d)
    ∷ [])

abbrev pub refuses : Fields → ℕ → ℕ → ℤ → Option FieldRefusal
refuses F k n d = refuses_by F.align (F.table k) n d

-- the bytes after a patch
abbrev pub after_patch : Family → ℕ → List ℕ → ℤ → List ℕ
after_patch F k bytes d = unless (refuses F.fields k (length bytes) d) (F.patched k bytes d) bytes

-- Laws.

pub record Shape (i : FieldInfo) : Type 0 where
  pub lead_small : i.lead ≤ 16
  pub size_small : i.size ≤ 16
  pub inside : i.past ≤ i.size

-- a kind whose field is wide enough for its range
pub record Fits (a : ℕ) (i : FieldInfo) : Type 0 where
  pub shape : Shape i
  pub some : i.first < i.past
  pub low : mag i.least < 2 ^ (8 * (i.past - i.first) - 1) * a
  pub high : mag i.greatest < 2 ^ (8 * (i.past - i.first) - 1) * a

-- and the numbers that the field can hold, in units of a, are of 64 bits
pub record FitsWord (a : ℕ) (i : FieldInfo) : Type 0 where
  pub fits : Fits a i
  pub narrow : 2 ^ (8 * (i.past - i.first) - 1) * a ≤ 2 ^ 63

-- What an accepted patch of bytes does: it leaves bytes, as many as there were, and the same ones outside the field; a field that was zero
-- then holds the distance. Of a field that was not zero, and of numbers that are no bytes, no more is said.
pub record Patches (a : ℕ) (i : FieldInfo) (d : ℤ) (old new : List ℕ) : Type 0 where
  pub same_length : length new ≡ length old
  pub before : take i.first new ≡ take i.first old
  pub after : drop i.past new ≡ drop i.past old
  pub bytes : AllByRecursion (λ b. b < 256) new
  pub holds : big_endian 0 (field_bytes i old) ≡ 0 → pos a *ℤ field_value i new ≡ d

pub record LawfulFields (F : Fields) : Type 0 where
  pub aligned : 1 ≤ F.align
  pub shaped : (k : ℕ) (i : FieldInfo) → F.table k ≡ Some i → Shape i

pub record Lawful (F : Family) : Type 0 where
  pub reads : LawfulFields F.fields
  pub patches : (k : ℕ) (i : FieldInfo) (bytes : List ℕ) (d : ℤ) → AllByRecursion (λ b. b < 256) bytes → F.fields.table k ≡ Some i → refuses F.fields k (length bytes) d ≡ None → Patches F.fields.align i d bytes (F.patched k bytes d)

-- What a section asks of a family: kinds 1 and 2 have their fields at instruction bytes 2 to 3 and 2 to 5.

abbrev pub spans : ℕ → ℤ → ℤ → Option FieldInfo → Bool
spans n least greatest None = false
spans n least greatest (Some i) =
    (i.lead + i.size == n) && i.lead + i.first == 2 && i.lead + i.past == n && int_le i.least least && int_le greatest i.greatest

abbrev pub serves : Fields → Bool
serves F =
    (F.align == 2)
    && spans 4 (neg_ℤ (pos 65536)) (pos 65534) (F.table 1)
    && spans 6 (neg_ℤ (pos 4294967295)) (pos 4294967294) (F.table 2)

-- The label family and the relocation family. Both overwrite the field.

abbrev pub two_kinds : FieldInfo → FieldInfo → ℕ → Option FieldInfo
two_kinds short long k = cond (k == 1) (Some short) (cond (k == 2) (Some long) None)

-- BranchRI, BranchRIL
abbrev pub label_table : ℕ → Option FieldInfo
label_table =
    two_kinds
    (record { lead = 0; size = 4; first = 2; past = 4; least = neg_ℤ (pos 65536); greatest = pos 65534 })
    (record { lead = 0; size = 6; first = 2; past = 6; least = neg_ℤ (pos 4294967295); greatest = pos 4294967294 })

-- R_390_PC16DBL, R_390_PC32DBL
abbrev pub relocation_table : ℕ → Option FieldInfo
relocation_table =
    two_kinds
    (record { lead = 2; size = 2; first = 0; past = 2; least = neg_ℤ (pos 65536); greatest = pos 65534 })
    (record { lead = 2; size = 4; first = 0; past = 4; least = neg_ℤ (pos 4294967296); greatest = pos 4294967294 })

-- n bytes from `at` on are the low ones of d in units of a
abbrev pub overwrite : ℕ → ℕ → ℕ → List ℕ → ℤ → List ℕ
overwrite a at n bytes d = take at bytes ++ bytes_of_number n (wrap (8 * n) (shr_z d a)) ++ drop (at + n) bytes

abbrev pub overwritten : ℕ → Option FieldInfo → List ℕ → ℤ → List ℕ
overwritten a None bytes d = bytes
overwritten a (Some i) bytes d =
    take i.first bytes ++ bytes_of_number (i.past - i.first) (wrap (8 * (i.past - i.first)) (shr_z d a)) ++ drop i.past bytes

abbrev pub label_family : Family
label_family = record { fields = record { align = 2; table = label_table }; patched = λ k. overwritten 2 (label_table k) }

abbrev pub relocation_family : Family
relocation_family = record { fields = record { align = 2; table = relocation_table }; patched = λ k. overwritten 2 (relocation_table k) }

-- both are lawful, and a section takes them
abbrev pub BothFamiliesServe : Type 0
BothFamiliesServe = Lawful label_family × Lawful relocation_family × (serves label_family.fields ≡ true) × (serves relocation_family.fields ≡ true)
