use Rattle.std.proofs.Common.{◌≡◌, ◌-◌, ◌/◌}
use Rattle.operand.specs.Imms.{shift_from, least_shift}
use Rattle.operand.proofs.imms.Shifted.maybe_from_u64.Given as goal

-- no digit at a lower shift is the value
abbrev pub invariant-loop-shift : goal.invariant-loop-shift
invariant-loop-shift g l =
    let w = g.T.Digit.width in
    shift_from w (64 / w - l.shift) l.shift l.value ≡ least_shift w (64 / w) l.value
