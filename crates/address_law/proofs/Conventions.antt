-- A lawful convention's parts.
use Rattle.std.proofs.Common.{◌≡◌, true, false, not, ◌&&◌, eqb, ltb, leb}
use Rattle.std.proofs.lemmas.Bool.{and_parts, not-true}
use Rattle.address.specs.Convention.{zero_reg, Convention, lawful_convention}

pub record Parts (c : Convention) : Type 0 where
  pub stack_small : ltb c.stack 16 ≡ true
  pub temporary_small : ltb c.temporary 16 ≡ true
  pub temporary_some : eqb c.temporary zero_reg ≡ false

pub convention_parts : (c : Convention) → lawful_convention c ≡ true → Parts c
convention_parts c h =
    let p5 = and_parts _ (leb c.save_area 4096) h in
    let p4 = and_parts _ (not (eqb c.stack c.temporary)) p5.0 in
    let p3 = and_parts _ (not (eqb c.temporary zero_reg)) p4.0 in
    let p2 = and_parts (ltb c.stack 16 && ltb c.temporary 16) (not (eqb c.stack zero_reg)) p3.0 in
    let p1 = and_parts (ltb c.stack 16) (ltb c.temporary 16) p2.0 in
    record { stack_small = p1.0; temporary_small = p1.1; temporary_some = not-true (eqb c.temporary zero_reg) p3.1 }
