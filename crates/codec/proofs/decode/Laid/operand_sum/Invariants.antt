use Rattle.std.proofs.Common.{◌≡◌, ◌+◌, ◌*◌, ◌^◌, ◌≤◌, true, map, length}
use Rattle.std.specs.Iterator.Adapters.{zip_first, zip_second}
use Rattle.std.specs.Slice.Iter.{iter_rest}
use Rattle.form.specs.Form.{row}
use Rattle.form.specs.Encode.{gather, operand_part}
use Rattle.refusal.specs.Tests.{all}
use Rattle.codec.specs.Digits.{digit_of, low}
use Rattle.codec.proofs.decode.Laid.operand_sum.Given as goal

-- the rest of the sum is that over the digits which are left
abbrev pub invariant-loop-d : goal.invariant-loop-d
invariant-loop-d l =
    ((goal.iterator-loop-d).can_next l.d-iterator × (goal.iterator-loop-d).is_finite l.d-iterator)
    × (l.total + gather (operand_part l.i) (map digit_of (iter_rest (zip_first l.d-iterator))) (iter_rest (zip_second l.d-iterator)) ≡ gather (operand_part l.i) (row l.self.form) l.self.digits)
    × (all low (iter_rest (zip_first l.d-iterator)) ≡ true)
    × (l.total + length (iter_rest (zip_second l.d-iterator)) * 2 ^ 36 ≤ 12 * 2 ^ 36)
