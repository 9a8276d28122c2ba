use Rattle.std.proofs.Common.{◌≡◌, ◌∙◌, ◌<◌, ℕ, List, ap, get_or, to_z, w64, Fits, w8, rules, arith}
use Rattle.std.specs.Int.{from_be_bytes}
use Rattle.std.proofs.lemmas.Int.{to_z-of_z}
use Rattle.field.proofs.Wide.{written, filled, positive, negative}
use Rattle.field.proofs.bytes.signed_number.Goals as goal
use Rattle.field.proofs.bytes.signed_number.Goals.{then-bytes-lt128, else-bytes-lt128}

pub returns : goal.returns
returns c =
    let bs : List ℕ = c.args.bytes.now in
    let range : ((k : ℕ) → get_or bs k 0 < 256) = λ k. (let r : Fits w8 (get_or bs k 0) = c.type_inv.bytes k in omega arith) in
    let q : c.from_be_bytes.result ≡ to_z w64 (from_be_bytes w64 (filled c.if-bytes-lt128.fill bs)) =
    c.from_be_bytes.ensures ∙ ap (λ (ys : List ℕ). to_z w64 (from_be_bytes w64 (written c.if-bytes-lt128.fill bs ys))) c.copy_from_slice.ensures.after in
    to_z-of_z w64 c.from_be_bytes.result (search rules)
    ∙ q
    ∙ elim c.if-bytes-lt128.branch [
      | then-bytes-lt128 w ↦ ap (λ (x : ℕ). to_z w64 (from_be_bytes w64 (filled x bs))) w.fill-is ∙ positive bs range c.requires.some c.requires.few w.if-bytes-lt128.true
      | else-bytes-lt128 w ↦ ap (λ (x : ℕ). to_z w64 (from_be_bytes w64 (filled x bs))) w.fill-is ∙ negative bs range c.requires.some c.requires.few w.if-bytes-lt128.false
    ]
