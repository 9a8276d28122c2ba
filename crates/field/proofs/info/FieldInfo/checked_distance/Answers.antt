use Rattle.std.proofs.Common.{◌≡◌, ℤ, Some, None, cond, ◌||◌, true, false, nat_abs, sym, ◌∙◌, w64, SFits, rules}
use mir.Syntax.{w128}
use lib.Signed.{lt_z}
use Rattle.std.proofs.lemmas.Int.{to_z-of_z}
use Rattle.field.specs.Family.{FieldInfo, multiple}
use Rattle.field.proofs.InRange.{reached_ok, reached_odd}
use Rattle.field.proofs.info.FieldInfo.checked_distance.Goals as goal

pub returns-then-not-divides : goal.returns-then-not-divides
returns-then-not-divides c =
    let i : FieldInfo = c.args.self in
    let d : ℤ = c.args.distance in
    let f : SFits w128 d = c.ranges.distance in
    let a : SFits w64 c.args.align = c.ranges.align in
    let n : SFits w64 c.in_ok-near.near = search rules in
    let r : c.in_range.result ≡ cond (lt_z d i.least || lt_z i.greatest d) None (Some d) = simp to_z-of_z at c.in_range.ensures in
    let m : false ≡ multiple (nat_abs c.args.align) c.in_ok-near.near = simp to_z-of_z at (sym c.if-not-divides.true ∙ c.divides.ensures) in
    reached_odd (nat_abs c.args.align) c.args.given d c.in_ok-near.near i c.in_range.result c.if-given-self.false r (sym c.ok_or.ensures.value ∙ c.in_ok-near.was) m

pub returns : goal.returns
returns c =
    let i : FieldInfo = c.args.self in
    let d : ℤ = c.args.distance in
    let f : SFits w128 d = c.ranges.distance in
    let a : SFits w64 c.args.align = c.ranges.align in
    let n : SFits w64 c.in_ok-near.near = search rules in
    let r : c.in_range.result ≡ cond (lt_z d i.least || lt_z i.greatest d) None (Some d) = simp to_z-of_z at c.in_range.ensures in
    let m : true ≡ multiple (nat_abs c.args.align) c.in_ok-near.near = simp to_z-of_z at (sym c.if-not-divides.false ∙ c.divides.ensures) in
    simp to_z-of_z (reached_ok (nat_abs c.args.align) c.args.given d c.in_ok-near.near i c.in_range.result c.if-given-self.false r (sym c.ok_or.ensures.value ∙ c.in_ok-near.was) m)
