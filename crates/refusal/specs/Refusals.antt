-- Why calls are refused. A call's reasons are a list of tests in the order of their numbers, and the first that holds is the answer.
use Rattle.std.specs.Prelude.{ℕ, Bool, cond, List, [], ◌∷◌, Some, None, Ok, Err, Option, Result}
use Rattle.refusal.specs.declared.Reason.{Reason}
use Rattle.refusal.specs.declared.Reason.TheVariants.{Buffer, Kind, Misfit, Clash, Opcode, Operand, Frame, Temporary, Unbound, Far, Form, Label, Odd, Constant, Full, Room, Cut, Unknown, Unused, Memory}
use Rattle.refusal.specs.declared.Layer.{Layer}
use Rattle.refusal.specs.declared.Layer.TheVariants as layer
use Rattle.refusal.specs.declared.Refusal.{Refusal}

-- each reason's number: 1 to 19 in the order in which a call checks, and 100 for want of memory
abbrev pub number_of : Reason → ℕ
number_of Buffer = 1
number_of Kind = 2
number_of Misfit = 3
number_of Clash = 4
number_of Opcode = 5
number_of Operand = 6
number_of Frame = 7
number_of Temporary = 8
number_of Unbound = 9
number_of Far = 10
number_of Form = 11
number_of Label = 12
number_of Odd = 13
number_of Constant = 14
number_of Full = 15
number_of Room = 16
number_of Cut = 17
number_of Unknown = 18
number_of Unused = 19
number_of Memory = 100

-- the layer of a reason, where no distance is refused
abbrev pub layer_of : Reason → Layer
layer_of Buffer = layer.Section
layer_of Kind = layer.Field
layer_of Misfit = layer.Form
layer_of Clash = layer.Form
layer_of Opcode = layer.Form
layer_of Operand = layer.Form
layer_of Frame = layer.Address
layer_of Temporary = layer.Address
layer_of Unbound = layer.Address
layer_of Far = layer.Address
layer_of Form = layer.Address
layer_of Label = layer.Address
layer_of Odd = layer.Address
layer_of Constant = layer.Address
layer_of Full = layer.Section
layer_of Room = layer.Section
layer_of Cut = layer.Reading
layer_of Unknown = layer.Reading
layer_of Unused = layer.Reading
layer_of Memory = layer.Section

-- refused for this reason at this place, where no distance is refused
abbrev pub refused_at : ℕ → Reason → Refusal
refused_at place r = record { reason = r; place = place; layer = layer_of r }

-- a distance refused for this reason at this place
abbrev pub distance_refused_at : ℕ → Reason → Refusal
distance_refused_at place r = record { reason = r; place = place; layer = layer.Field }

infix 70 ◌when◌
abbrev pub ◌when◌ : Reason → Bool → Reason × Bool
r when b = (r, b)

-- a decision list: reasons in the order in which they are tried, each with its test
abbrev pub Checks : Type 0
Checks = List (Reason × Bool)

abbrev pub first_refusal : Checks → Option Reason
first_refusal [] = None
first_refusal (t ∷ ts) = cond t.1 (Some t.0) (first_refusal ts)

-- the value, if there is one, through f
abbrev pub when_some : {X Y : Type 0} → (X → Y) → Option X → Option Y
when_some f None = None
when_some f (Some x) = Some (f x)

-- what a call answers, and what it leaves: refused, why and what it found; else x and what it has made
abbrev pub answered : {E X : Type 0} → Option E → X → Result X E
answered None x = Ok x
answered (Some e) x = Err e

abbrev pub unless : {E X : Type 0} → Option E → X → X → X
unless None done found = done
unless (Some e) done found = found

-- the answer of a call that gives nothing else
abbrev pub Answer : Type 0
Answer = Result (Unit {0}) Refusal

-- a call's answer: refused at this place, or x
abbrev pub answer : {X : Type 0} → ℕ → Option Reason → X → Result X Refusal
answer place o x = answered (when_some (refused_at place) o) x
