use Rattle.std.proofs.Common.{◌≡◌, ℕ, ◌≤◌, List, [], ◌∷◌, ◌++◌, length, take, drop, sym, ap, rules}
use Rattle.std.proofs.Math.Seq.{take-append_seam}
use Rattle.std.proofs.lemmas.List.{drop-replicate}
use Rattle.codec.specs.Padded.{padded}
use Rattle.codec.proofs.encode.Encoded.new.Goals as goal

is_padded : (xs : List ℕ) (n : ℕ) → n ≤ 6 → length xs ≡ n → let ys = xs ++ drop n (0 ∷ 0 ∷ 0 ∷ 0 ∷ 0 ∷ 0 ∷ []) in padded (take n ys) ≡ record { bytes = ys; count = n }
is_padded xs n h e = rw (← e) (rw (take-append_seam xs (drop (length xs) (0 ∷ 0 ∷ 0 ∷ 0 ∷ 0 ∷ 0 ∷ []))) (ap (λ (zs : List ℕ). record { bytes = xs ++ zs; count = length xs }) (sym (drop-replicate (length xs) 6 0))))

pub invariant_of-result : goal.invariant_of-result
invariant_of-result g c = (c.requires, is_padded c.copy_from_slice.new.self g.row.N c.requires (search rules))
