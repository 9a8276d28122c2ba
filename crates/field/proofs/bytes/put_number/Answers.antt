use Rattle.std.proofs.Common.{◌≡◌, ◌∙◌, ◌-◌, List, ℕ, ap, take, drop, length, w64, SFits, of_z}
use Rattle.std.specs.Int.{to_be_bytes}
use Rattle.std.proofs.lemmas.Int.{to_z-of_z}
use Rattle.field.proofs.Wide.{low_bytes}
use Rattle.field.proofs.bytes.put_number.Goals as goal

pub returns-in_default : goal.returns-in_default
returns-in_default c =
    let n : ℕ = length c.args.bytes.now in
    let f : SFits w64 c.args.number = c.ranges.number in
    let e : c.to_be_bytes-wide.result ≡ to_be_bytes w64 (of_z w64 c.args.number) = c.to_be_bytes-wide.ensures ∙ ap (λ z. to_be_bytes w64 (of_z w64 z)) (to_z-of_z w64 c.args.number f) in
    c.copy_from_slice-in_default.ensures.after
    ∙ ap (λ (xs : List ℕ). take (8 - (8 - n)) (drop (8 - n) xs)) e
    ∙ low_bytes n c.args.number c.requires f
