use Rattle.std.proofs.Common.{arith}
use Rattle.std.proofs.lemmas.Slice.Zip.{either_empty_from_Zip}
use Rattle.std.specs.Iterator.Adapters.{zip_first, zip_second}
use Rattle.std.specs.Slice.Iter.{iter_rest}
use Rattle.form.specs.Encode.{operand_part}
use Rattle.codec.proofs.Sums.{gather_none}
use Rattle.codec.proofs.decode.Laid.operand_sum.Goals as goal

pub returns-clause-is : goal.returns-clause-is
returns-clause-is c =
    let e = either_empty_from_Zip c.loop-d.d-iterator c.next.new.self c.next.result c.in-None.is c.next.ensures.steps in
    let n = gather_none (operand_part c.args.i) (iter_rest (zip_first c.loop-d.d-iterator)) (iter_rest (zip_second c.loop-d.d-iterator)) e in
    let v = c.loop-d.invariant.1 in
    omega (arith, n, v)
