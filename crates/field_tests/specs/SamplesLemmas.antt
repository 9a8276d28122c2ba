-- Both families are lawful.
use Rattle.std.specs.Prelude.{◌≡◌, ℕ, ◌+◌, ◌%◌, ◌<◌, Bool, true, false, cond, List, [], ◌∷◌, length, ℤ, pos, negsuc, ◌*ℤ◌, neg_ℤ, Some, None, Option, ◌==◌, refl}
use Rattle.std.proofs.Common.{sym, ap, subst, ◌∙◌, arith}
use Rattle.std.specs.Int.Signed.{mag}
use Rattle.std.specs.List.{AllByRecursion}
use Rattle.std.proofs.lemmas.Int.{ints}
use Rattle.refusal.specs.Numbers.{wrap, signed}
use Rattle.field.specs.Family.{FieldInfo, refuses_by, FitsWord, Patches, Lawful}
use Rattle.field.proofs.Numbers.{signed_wrap, wrap_below}
use Rattle.field.proofs.Laws.{Accepted, accepted, never_none, same_some, near, overwriting}
use Rattle.field_tests.specs.Samples.{one_kind, added_info, added, added_family, quarter_info, quarter_family}

one_is : (n : ℕ) (i : FieldInfo) (k : ℕ) (j : FieldInfo) → one_kind n i k ≡ Some j → i ≡ j
one_is n i k j e = go (k == n) e
  where
    go : (b : Bool) → cond b (Some i) None ≡ Some j → i ≡ j
    go true e = same_some e
    go false e = never_none j (sym e)

-- The family that overwrites two bytes.

pub quarter_fits : (k : ℕ) (i : FieldInfo) → one_kind 0 quarter_info k ≡ Some i → FitsWord 4 i
quarter_fits k i e = subst (FitsWord 4) (one_is 0 quarter_info k i e) (omega arith)

pub quarter_lawful : Lawful quarter_family
quarter_lawful = overwriting 4 (one_kind 0 quarter_info) (omega arith) (λ k i e. (quarter_fits k i e).fits)

-- The family that adds to one.

pub added_fits : (k : ℕ) (i : FieldInfo) → one_kind 7 added_info k ≡ Some i → FitsWord 1 i
added_fits k i e = subst (FitsWord 1) (one_is 7 added_info k i e) (omega arith)

unit : (z : ℤ) → pos 1 *ℤ z ≡ z
unit (pos n) = ap pos (omega arith)
unit (negsuc n) = omega (arith, ints)

abbrev Adds : FieldInfo → Type 0
Adds i = (k : ℕ) (bytes : List ℕ) (d : ℤ) → AllByRecursion (λ b. b < 256) bytes → Accepted 1 i (length bytes) d → Patches 1 i d bytes (added k bytes d)

adds : Adds added_info
adds k [] d h a = let e = a.enough in absurd (omega arith)
adds k (b ∷ bs) d h a =
    record {
      same_length = refl;
      before = refl;
      after = refl;
      bytes = ((let x : ℕ = b + wrap 8 d in let y : x % 256 < 256 = omega arith in y), h.1);
      holds = λ z.
          let s : wrap 8 d < 256 = wrap_below 8 d in
          let e : 0 + (b + wrap 8 d) % 256 ≡ wrap 8 d = omega arith in
          let l : mag d < 128 = near (neg_ℤ (pos 128)) (pos 127) d 128 (omega arith) (omega arith) a.not_below a.not_above in
          ap (λ (v : ℕ). pos 1 *ℤ signed 8 v) e ∙ ap (λ (x : ℤ). pos 1 *ℤ x) (signed_wrap 8 d (omega arith) l) ∙ unit d;
    }

pub added_lawful : Lawful added_family
added_lawful =
    record {
      reads = record { aligned = omega arith; shaped = λ k i e. (added_fits k i e).fits.shape };
      patches = λ k i bytes d bs e ok.
          subst Adds (one_is 7 added_info k i e) adds k bytes d bs
          (accepted 1 i (length bytes) d (subst (λ (o : Option FieldInfo). refuses_by 1 o (length bytes) d ≡ None) e ok));
    }
