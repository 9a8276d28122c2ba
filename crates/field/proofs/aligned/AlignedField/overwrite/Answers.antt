use Rattle.std.proofs.Common.{◌≡◌, ◌∙◌, ◌++◌, ◌-◌, ◌*◌, List, ℕ, take, drop, ℤ, Ok, Err, Result, length, nat_abs, sym, w64, SFits, Some, rules}
use mir.Syntax.{w128}
use lib.Signed.{quot_z}
use Rattle.std.proofs.lemmas.Int.{to_z-of_z}
use Rattle.refusal.specs.Refusals.{answered}
use Rattle.refusal.specs.Numbers.{wrap, bytes_of_number}
use Rattle.field.specs.declared.verdict.FieldRefusal.{FieldRefusal}
use Rattle.field.specs.Family.{FieldInfo, field_bytes, refuses_by, overwritten}
use Rattle.field.proofs.Laws.{not_accepted, refused_leaves}
use Rattle.field.proofs.Field.{field_few, units_fit, put, leaves, answers, holds}
use Rattle.field.proofs.aligned.AlignedField.overwrite.Goals as goal

pub returns-in_err-distance : goal.returns-in_err-distance
returns-in_err-distance c =
    let i : FieldInfo = c.args.self.info in
    let a : ℕ = nat_abs c.args.self.align in
    let d : ℤ = c.args.distance in
    let bytes : List ℕ = c.args.bytes.now in
    let f : SFits w64 d = c.ranges.distance in
    let f' : SFits w128 d = search rules in
    let fa : SFits w64 c.args.self.align = search rules in
    let e : FieldRefusal = c.in_err-distance.field-0.0 in
    let h : ◌≡◌ {A = Result ℤ FieldRefusal} (Err e) (answered (refuses_by a (Some i) (length bytes) d) d) = simp to_z-of_z at (sym c.in_err-distance.was ∙ c.checked_distance.ensures) in
    record {
      answers = search rules;
      leaves = refused_leaves (refuses_by a (Some i) (length bytes) d) d e h (overwritten a (Some i) bytes d) bytes;
      holds = λ r. not_accepted c.from_residual.result c.from_residual.ensures.0 r;
    }

pub nonzero_div-distance : goal.nonzero_div-distance
nonzero_div-distance c =
    let f : SFits w64 c.args.distance = c.ranges.distance in
    let f' : SFits w128 c.args.distance = search rules in
    let fa : SFits w64 c.args.self.align = search rules in
    let fx : SFits w64 c.in_ok-distance.distance = search rules in
    let h : ◌≡◌ {A = Result ℤ FieldRefusal} (Ok c.in_ok-distance.distance) (answered (refuses_by (nat_abs c.args.self.align) (Some c.args.self.info) (length c.args.bytes.now) c.args.distance) c.args.distance) = simp to_z-of_z at c.in_ok-distance.ensures in
    simp to_z-of_z (units_fit c.args.self.align c.args.self.info c.args.bytes.now c.args.distance c.in_ok-distance.distance c.args.self.above c.args.self.fits h fx)

pub put_number-requires : goal.put_number-requires
put_number-requires c =
    let f : SFits w64 c.args.distance = c.ranges.distance in
    let f' : SFits w128 c.args.distance = search rules in
    let fa : SFits w64 c.args.self.align = search rules in
    let h : ◌≡◌ {A = Result ℤ FieldRefusal} (Ok c.in_ok-distance.distance) (answered (refuses_by (nat_abs c.args.self.align) (Some c.args.self.info) (length c.args.bytes.now) c.args.distance) c.args.distance) = simp to_z-of_z at c.in_ok-distance.ensures in
    field_few c.args.self.align c.args.self.info c.args.bytes.now c.args.distance c.in_ok-distance.distance c.args.self.above c.args.self.fits h

pub returns : goal.returns
returns c =
    let i : FieldInfo = c.args.self.info in
    let a : ℕ = nat_abs c.args.self.align in
    let d : ℤ = c.args.distance in
    let x : ℤ = c.in_ok-distance.distance in
    let bytes : List ℕ = c.args.bytes.now in
    let f : SFits w64 d = c.ranges.distance in
    let f' : SFits w128 d = search rules in
    let fa : SFits w64 c.args.self.align = search rules in
    let fx : SFits w64 x = search rules in
    let h : ◌≡◌ {A = Result ℤ FieldRefusal} (Ok x) (answered (refuses_by a (Some i) (length bytes) d) d) = simp to_z-of_z at c.in_ok-distance.ensures in
    let q : SFits w64 (quot_z x c.args.self.align) = (units_fit c.args.self.align i bytes d x c.args.self.above c.args.self.fits h fx).1 in
    let e : c.put_number.new.bytes ≡ bytes_of_number (length (field_bytes i bytes)) (wrap (8 * length (field_bytes i bytes)) (quot_z x c.args.self.align)) = simp to_z-of_z at c.put_number.ensures in
    let new : List ℕ = take i.first bytes ++ (c.put_number.new.bytes ++ drop (i.past - i.first) (drop i.first bytes)) in
    let w : new ≡ overwritten a (Some i) bytes d = put c.args.self.align i bytes d x c.args.self.above c.args.self.fits h c.put_number.new.bytes e in
    record {
      answers = answers c.args.self.align i bytes d x c.args.self.above c.args.self.fits h;
      leaves = leaves c.args.self.align i bytes d x c.args.self.above c.args.self.fits h new w;
      holds = λ _. holds c.args.self.align i bytes d x c.args.self.above c.args.self.fits h new w;
    }
