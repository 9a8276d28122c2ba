use Rattle.std.proofs.Common.{◌∙◌, rules}
use Rattle.std.proofs.lemmas.Iterator.{YieldsList-from_slice}
use Rattle.std.proofs.lemmas.Iterator.Consumers.{YieldsList-from_enumerate}
use Rattle.std.proofs.lemmas.Iterator.Search.{all_from_yields_List}
use Rattle.form.specs.Form.{kinds as kinds_of}
use Rattle.codec.specs.Digits.{taken_at}
use Rattle.codec.proofs.Sums.{few_kinds}
use Rattle.codec.proofs.Taking.{taken_is}
use Rattle.codec.proofs.operands.takes.Goals as goal

pub returns : goal.returns
returns c =
    all_from_yields_List (λ p. taken_at (kinds_of c.args.form) p.0 p.1) _ _ c.all.result c.all.ensures.ran (YieldsList-from_enumerate (YieldsList-from_slice c.args.operands.now cc) (cc)) (λ x b q k. search rules)
    ∙ taken_is (kinds_of c.args.form) c.args.operands.now (rw c.told-operands (few_kinds c.args.form))
