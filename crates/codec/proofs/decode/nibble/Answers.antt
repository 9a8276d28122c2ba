use Rattle.std.proofs.Common.{◌≡◌, ℕ, ◌/◌, ◌%◌, sym, ap, ◌∙◌, get_or, rules}
use Rattle.codec.proofs.Sums.{nib_at_even, nib_at_odd}
use Rattle.codec.proofs.decode.nibble.Goals as goal

pub returns-then-i-eq0 : goal.returns-then-i-eq0
returns-then-i-eq0 c =
    let e : c.unwrap_or-byte.result ≡ get_or c.args.bytes.now (c.args.i / 2) 0 = search rules in
    ap (λ (n : ℕ). n / 16) e ∙ sym (nib_at_even c.args.bytes.now c.args.i c.if-i-eq0.true)

pub returns-else-i-eq0 : goal.returns-else-i-eq0
returns-else-i-eq0 c =
    let e : c.unwrap_or-byte.result ≡ get_or c.args.bytes.now (c.args.i / 2) 0 = search rules in
    ap (λ (n : ℕ). n % 16) e ∙ sym (nib_at_odd c.args.bytes.now c.args.i c.if-i-eq0.false)
