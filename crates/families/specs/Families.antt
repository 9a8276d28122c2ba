-- The label family and the relocation family are lawful, and serve a section.
use Rattle.std.specs.Prelude.{◌≡◌, ℕ, Bool, true, false, cond, pos, neg_ℤ, Some, None, ◌==◌, refl}
use Rattle.std.proofs.Common.{sym, subst, arith}
use Rattle.field.specs.Family.{FieldInfo, FitsWord, Lawful, serves, two_kinds, label_table, relocation_table, label_family, relocation_family}
use Rattle.field.proofs.Laws.{never_none, same_some, overwriting}

-- what is so of each of two kinds is so of a table of the two
two_fit : (P : FieldInfo → Type 0) (short long : FieldInfo) → P short → P long → (k : ℕ) (i : FieldInfo) → two_kinds short long k ≡ Some i → P i
two_fit P short long f g k i e = go (k == 1) (k == 2) e
  where
    go : (b c : Bool) → cond b (Some short) (cond c (Some long) None) ≡ Some i → P i
    go true c e = subst P (same_some e) f
    go false true e = subst P (same_some e) g
    go false false e = never_none i (sym e)

abbrev pub label_short : FieldInfo
label_short = record { lead = 0; size = 4; first = 2; past = 4; least = neg_ℤ (pos 65536); greatest = pos 65534 }

abbrev pub label_long : FieldInfo
label_long = record { lead = 0; size = 6; first = 2; past = 6; least = neg_ℤ (pos 4294967295); greatest = pos 4294967294 }

abbrev pub relocation_short : FieldInfo
relocation_short = record { lead = 2; size = 2; first = 0; past = 2; least = neg_ℤ (pos 65536); greatest = pos 65534 }

abbrev pub relocation_long : FieldInfo
relocation_long = record { lead = 2; size = 4; first = 0; past = 4; least = neg_ℤ (pos 4294967296); greatest = pos 4294967294 }

pub label_fits : (k : ℕ) (i : FieldInfo) → label_table k ≡ Some i → FitsWord 2 i
label_fits = two_fit (FitsWord 2) label_short label_long (omega arith) (omega arith)

pub label_lawful : Lawful label_family
label_lawful = overwriting 2 label_table (omega arith) (λ k i e. (label_fits k i e).fits)

pub relocation_fits : (k : ℕ) (i : FieldInfo) → relocation_table k ≡ Some i → FitsWord 2 i
relocation_fits = two_fit (FitsWord 2) relocation_short relocation_long (omega arith) (omega arith)

pub relocation_lawful : Lawful relocation_family
relocation_lawful = overwriting 2 relocation_table (omega arith) (λ k i e. (relocation_fits k i e).fits)

pub both_serve : (serves label_family.fields ≡ true) × (serves relocation_family.fields ≡ true)
both_serve = (refl, refl)
