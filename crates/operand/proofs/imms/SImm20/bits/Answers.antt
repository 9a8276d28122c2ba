use Rattle.std.proofs.Common.{◌≡◌, ◌%◌, ◌^◌, ℤ, pos, negsuc, ap, ◌∙◌, arith, w32, SFits, of_z, rules}
use Rattle.std.proofs.lemmas.Nat.{and_mask}
use Rattle.std.proofs.lemmas.Int.{to_z-of_z}
use Rattle.refusal.specs.Numbers.{wrap}
use Rattle.operand.proofs.imms.SImm20.bits.Goals as goal

-- the low 20 bits of a number in 32
low : (z : ℤ) → SFits w32 z → of_z w32 z % 2 ^ 20 ≡ wrap 20 z
low (pos n) h = omega arith
low (negsuc n) h = omega arith

pub returns : goal.returns
returns c =
    let z = c.args.self.now.value in
    let f : SFits w32 z = search rules in
    and_mask c.cast_unsigned-encoded.result 20 ∙ (ap (λ n. n % 2 ^ 20) (c.cast_unsigned-encoded.ensures ∙ ap (of_z w32) (to_z-of_z w32 z f)) ∙ low z f)
