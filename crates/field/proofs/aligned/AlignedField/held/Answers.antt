use Rattle.std.proofs.Common.{◌*ℤ◌, w64, SFits, rules}
use Rattle.std.proofs.lemmas.Int.{to_z-of_z}
use Rattle.field.proofs.Field.{part_few, distance_fits, distance_held}
use Rattle.field.proofs.aligned.AlignedField.held.Goals as goal

pub signed_number-requires-clause-few : goal.signed_number-requires-clause-few
signed_number-requires-clause-few c = part_few c.args.self.align c.args.self.info c.args.bytes.now c.args.self.above c.args.self.fits c.if-bytes-self.false

pub overflow_mul-result : goal.overflow_mul-result
overflow_mul-result c =
    let a : SFits w64 c.args.self.align = search rules in
    let n : SFits w64 c.signed_number.result = search rules in
    simp to_z-of_z (distance_fits c.args.self.align c.args.self.info c.args.bytes.now c.args.self.above c.args.self.fits c.if-bytes-self.false c.signed_number.result c.signed_number.ensures)

pub returns : goal.returns
returns c =
    let a : SFits w64 c.args.self.align = search rules in
    let n : SFits w64 c.signed_number.result = search rules in
    let f : SFits w64 (c.args.self.align *ℤ c.signed_number.result) = distance_fits c.args.self.align c.args.self.info c.args.bytes.now c.args.self.above c.args.self.fits c.if-bytes-self.false c.signed_number.result c.signed_number.ensures in
    simp to_z-of_z (distance_held c.args.self.align c.args.self.info c.args.bytes.now c.args.self.above c.args.self.fits c.if-bytes-self.false c.signed_number.result c.signed_number.ensures)
