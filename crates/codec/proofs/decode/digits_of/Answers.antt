use Rattle.std.proofs.Common.{rules, arith}
use Rattle.form.specs.Encode.{nibbles}
use Rattle.codec.proofs.Gathered.{nibbles_len}
use Rattle.codec.proofs.Sums.{twelve_is}
use Rattle.codec.proofs.decode.digits_of.Goals as goal

pub returns : goal.returns
returns c =
    twelve_is c.from_fn.result (nibbles c.args.bytes.now) c.from_fn.ensures.items.long (let n = nibbles_len c.args.bytes.now in omega (arith, c.requires))
    (λ i h. let r = c.from_fn.ensures.items.at i 0 h in let k = r.2 in search rules)
