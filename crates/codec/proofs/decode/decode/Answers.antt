use Rattle.std.proofs.Common.{◌≡◌, length, true, false, ◌∙◌, sym, arith, rules}
use Rattle.form.specs.Form.{size}
use Rattle.form.specs.Encode.{clean, operands_of}
use Rattle.codec.proofs.Sums.{few_bytes, clean_of, operands_in}
use Rattle.codec.proofs.decode.decode.Goals as goal

pub new-laid-requires : goal.new-laid-requires
new-laid-requires c = let h = few_bytes c.args.form in omega (arith, h, c.size.ensures, c.if-bytes-size.false)

pub returns-then-not-is_clean : goal.returns-then-not-is_clean
returns-then-not-is_clean c =
    let s : length c.args.bytes.now ≡ size c.args.form = c.if-bytes-size.false ∙ c.size.ensures in
    let e = clean_of c.new-laid.result.form c.args.form c.new-laid.result.digits c.args.bytes.now c.new-laid.ensures.form c.new-laid.ensures.digits s in
    let k : clean c.args.form c.args.bytes.now ≡ false = sym e ∙ sym c.is_clean.ensures ∙ c.if-not-is_clean.true in
    search rules

pub returns : goal.returns
returns c =
    let s : length c.args.bytes.now ≡ size c.args.form = c.if-bytes-size.false ∙ c.size.ensures in
    let e = clean_of c.new-laid.result.form c.args.form c.new-laid.result.digits c.args.bytes.now c.new-laid.ensures.form c.new-laid.ensures.digits s in
    let k : clean c.args.form c.args.bytes.now ≡ true = sym e ∙ sym c.is_clean.ensures ∙ c.if-not-is_clean.false in
    let o = operands_in c.new-laid.result.form c.args.form c.new-laid.result.digits c.args.bytes.now c.new-laid.ensures.form c.new-laid.ensures.digits s in
    let z : c.operands.result ≡ operands_of c.args.form c.args.bytes.now = c.operands.ensures ∙ o in
    search rules
