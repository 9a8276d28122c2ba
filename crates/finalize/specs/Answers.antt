-- What is promised of an answer of finalizing.
use Rattle.std.specs.Prelude.{◌≡◌, Some}
use Rattle.address.specs.declared.args.MemArg.{MemArg}
use Rattle.address.specs.declared.args.MemInstType.{MemInstType}
use Rattle.address.specs.declared.args.Helpers as pair
use Rattle.address.specs.Convention.{Convention}
use Rattle.address.specs.Address.{Address, Mode, Helpers, list_of}
use Rattle.address.specs.Held.{answer_in}
use Rattle.address_law.specs.Standing.{StandsFor}

-- its form is permitted and, after its helpers, names the place that md names
pub record Stands (C : Convention) (mi : MemInstType) (md : Mode) (p : pair.Helpers × MemArg) : Type 0 where
  pub helpers : Helpers
  pub left : Address
  pub are : answer_in p ≡ Some (helpers, left)
  pub stands : StandsFor C mi md (list_of helpers) left
