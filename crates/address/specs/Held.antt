-- The addresses and helpers that the code hands over, as the definitions have them.
use Rattle.std.specs.Prelude.{List, [], ◌∷◌, ◌++◌, pos, Some, None, Ok, Err, Option, Result}
use Rattle.refusal.specs.Refusals.{when_some}
use Rattle.address.specs.declared.args.MemArg.{MemArg}
use Rattle.address.specs.declared.args.MemArg.TheVariants.{BXD12, BXD20, Label, Constant, Symbol, RegOffset, InitialSPOffset, IncomingArgOffset, OutgoingArgOffset, SlotOffset, SpillOffset}
use Rattle.address.specs.declared.args.Helper as args
use Rattle.address.specs.declared.args.Helper.TheVariants.{Lgfi, LoadAddr}
use Rattle.address.specs.declared.args.Helpers as pair
use Rattle.address.specs.declared.access.Aimed.{Aimed}
use Rattle.address.specs.declared.access.AccessPlan.{AccessPlan}
use Rattle.address.specs.declared.args.Offset.{Offset}
use Rattle.address.specs.Address.{Address, bxd12, bxd20, label, constant, symbol, Mode, real, virtual, Helper, lgfi, load_address, Helpers, no_helper, one_helper, two_helpers}

-- An address as an instruction can hold it; an offset of any size is none.
abbrev pub held : MemArg → Option Address
held (BXD12 base index disp flags) = Some (bxd12 base index (pos disp.value) flags)
held (BXD20 base index disp flags) = Some (bxd20 base index disp.value flags)
held (Label target) = Some (label target)
held (Constant number) = Some (constant number)
held (Symbol name offset flags) = Some (symbol name offset flags)
held (RegOffset reg off flags) = None
held (InitialSPOffset off) = None
held (IncomingArgOffset off) = None
held (OutgoingArgOffset off) = None
held (SlotOffset off) = None
held (SpillOffset off) = None

-- the offset of any size that a mode is, if it is one
abbrev pub offset_of : Mode → Option Offset
offset_of (real a) = None
offset_of (virtual v) = Some v

-- a helper, if what it loads is such an address
abbrev pub helper_of : args.Helper → Option Helper
helper_of (Lgfi rd imm) = Some (lgfi rd imm)
helper_of (LoadAddr rd mem) = when_some (load_address rd) (held mem)

abbrev pub both : {X Y Z : Type 0} → (X → Y → Z) → Option X → Option Y → Option Z
both f None y = None
both f (Some x) y = when_some (f x) y

-- at most two, none without a first
abbrev pub helpers_in : Option args.Helper → Option args.Helper → Option Helpers
helpers_in None None = Some no_helper
helpers_in None (Some k) = None
helpers_in (Some h) None = when_some one_helper (helper_of h)
helpers_in (Some h) (Some k) = both two_helpers (helper_of h) (helper_of k)

-- what finalizing answers: helpers, and the address that is left
abbrev pub answer_in : pair.Helpers × MemArg → Option (Helpers × Address)
answer_in p = both (λ hs a. (hs, a)) (helpers_in p.0.first p.0.second) (held p.1)

-- an accepted answer through f
abbrev pub when_ok : {X Y E : Type 0} → (X → Y) → Result X E → Result Y E
when_ok f (Ok x) = Ok (f x)
when_ok f (Err e) = Err e

abbrev pub listed : {X : Type 0} → Option X → List X
listed None = []
listed (Some x) = x ∷ []

-- those that are there, in order
abbrev pub all_listed : {X : Type 0} → List (Option X) → List X
all_listed [] = []
all_listed (o ∷ os) = listed o ++ all_listed os

-- the instructions of a plan, in order
abbrev pub items_of : AccessPlan → List Aimed
items_of p = listed p.first ++ listed p.second ++ p.access ∷ []
