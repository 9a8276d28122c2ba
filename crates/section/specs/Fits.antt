-- Instructions that can be written at the end, with no further test.
use Rattle.std.specs.Prelude.{◌≡◌, ℕ, ◌+◌, ◌≤◌, true, List, [], ◌∷◌, length, Some, None, Option}
use Rattle.std.specs.List.{AllByRecursion}
use Rattle.form.specs.Form.{kinds}
use Rattle.form.specs.Encode.{takes}
use Rattle.book.specs.declared.target.Target.{Target}
use Rattle.address.specs.declared.access.Aimed.{Aimed}
use Rattle.address.specs.Aimed.{size_of_all}
use Rattle.law.specs.Section.{State}

-- how many are aimed
abbrev pub one_aim : Option Target → ℕ
one_aim None = 0
one_aim (Some t) = 1

abbrev pub aims : List Aimed → ℕ
aims [] = 0
aims (w ∷ ws) = one_aim w.aim + aims ws

pub record Fits (s : State) (ws : List Aimed) : Type 0 where
  pub ours : length s.code ≡ s.books.room
  pub room : s.books.len + size_of_all ws ≤ s.books.room
  pub in_kind : AllByRecursion (λ w. takes (kinds w.instr.form) w.instr.operands ≡ true) ws
  pub uses : length s.books.uses + aims ws ≤ 1024
