-- Two families that are not ours. They show what the laws of a family leave open.
use Rattle.std.specs.Prelude.{ℕ, ◌+◌, ◌%◌, cond, List, [], ◌∷◌, ℤ, pos, neg_ℤ, Some, None, Option, ◌==◌}
use Rattle.refusal.specs.Numbers.{wrap}
use Rattle.field.specs.Family.{FieldInfo, Family, overwritten}

abbrev pub one_kind : ℕ → FieldInfo → ℕ → Option FieldInfo
one_kind n i k = cond (k == n) (Some i) None

-- One byte, any distance, behind one byte of opcode; a patch adds to what the field holds.

abbrev pub added_info : FieldInfo
added_info = record { lead = 1; size = 1; first = 0; past = 1; least = neg_ℤ (pos 128); greatest = pos 127 }

abbrev pub added : ℕ → List ℕ → ℤ → List ℕ
added k [] d = []
added k (b ∷ bs) d = ((b + wrap 8 d) % 256) ∷ bs

abbrev pub added_family : Family
added_family = record { fields = record { align = 1; table = one_kind 7 added_info }; patched = added }

-- Two bytes in the middle of four, from the third byte of the instruction on, in units of four; a patch overwrites them.

abbrev pub quarter_info : FieldInfo
quarter_info = record { lead = 3; size = 4; first = 1; past = 3; least = neg_ℤ (pos 131072); greatest = pos 131068 }

abbrev pub quarter_family : Family
quarter_family = record { fields = record { align = 4; table = one_kind 0 quarter_info }; patched = λ k. overwritten 4 (one_kind 0 quarter_info k) }
