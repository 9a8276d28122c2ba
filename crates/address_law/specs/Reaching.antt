-- The theorem on accesses: what an accepted access writes reaches the place that it names.
use Rattle.std.specs.Prelude.{◌≡◌, ℕ, Bool, true, List, map, ℤ, Some, None, Option}
use Rattle.form.specs.declared.instr.Placed.{Placed}
use Rattle.book.specs.declared.target.Target.{Target}
use Rattle.address.specs.declared.args.MemArg.{MemArg}
use Rattle.address.specs.declared.frame.Frame.{Frame}
use Rattle.address.specs.declared.access.Access.{Access}
use Rattle.address.specs.declared.access.Aimed.{Aimed}
use Rattle.address.specs.Convention.{Convention, lawful_convention}
use Rattle.address.specs.Address.{Mode, mode, target_of}
use Rattle.address.specs.Access.{plan, planning_refusal}
use Rattle.address.specs.Machine.{Reaches}
use Rattle.address_law.specs.Items.{placed_from, filled, as_placed}

-- a target, if there is one, has a place
abbrev pub AimFound : (Target → Option ℤ) → Option Target → Type 0
AimFound where_is None = Unit {0}
AimFound where_is (Some t) = (p : ℤ) × (where_is t ≡ Some p)

-- instructions one after another, from this place on, each distance filled in
abbrev pub laid_out : (Target → Option ℤ) → ℕ → List Aimed → List Placed
laid_out where_is from ws = map as_placed (map (filled where_is) (placed_from from ws))

-- wherever its target lies, and from whatever place on they stand, the instructions reach the place that is named
abbrev pub Reaching : Convention → Mode → List Aimed → Type 0
Reaching C md ws = (where_is : Target → Option ℤ) → AimFound where_is (target_of md) → (from : ℕ) → Reaches C where_is md (laid_out where_is from ws)

abbrev pub AccessesReach : Type 0
AccessesReach =
    (C : Convention) → lawful_convention C ≡ true →
    (a : Access) (may_trap : Bool) (m : MemArg) (fr : Frame) (lost : Bool) → planning_refusal C (plan C a may_trap m fr) lost ≡ None →
    Reaching C (mode C fr m) (plan C a may_trap m fr).items
