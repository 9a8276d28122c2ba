-- Lists of at most so many items.
use Rattle.std.specs.Prelude.{ℕ, List, [], ◌∷◌, length, Option, nat_le}
use Rattle.refusal.specs.declared.Reason.{Reason}
use Rattle.refusal.specs.declared.Reason.TheVariants.{Full}
use Rattle.refusal.specs.Refusals.{◌when◌, first_refusal}

-- why no item is added to a list
abbrev pub full_refusal : {X : Type 0} → ℕ → List X → Option Reason
full_refusal most xs = first_refusal (Full when nat_le most (length xs) ∷ [])
