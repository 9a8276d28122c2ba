use Rattle.std.proofs.Common.{◌∙◌, rules, sym, ap}
use Rattle.std.proofs.lemmas.Iterator.{YieldsList-from_slice, YieldsList-from_zip}
use Rattle.std.proofs.lemmas.Iterator.Search.{all_from_yields_List}
use Rattle.form.specs.Form as form
use Rattle.form.specs.Encode.{digit_clean, all_clean}
use Rattle.codec.specs.Digits.{digit_of}
use Rattle.codec.proofs.Sums.{clean_is}
use Rattle.codec.proofs.decode.Laid.is_clean.Goals as goal

pub returns : goal.returns
returns c =
    all_from_yields_List (λ p. digit_clean (form.row c.args.self.now.form) (digit_of p.0) p.1) c.all.new.self _ c.all.result c.all.ensures.ran
    (YieldsList-from_zip {s = c.zip.result} (YieldsList-from_slice c.args.self.now.row.now cc) (YieldsList-from_slice c.args.self.now.digits cc)) (λ x b q k. search rules)
    ∙ sym (clean_is (form.row c.args.self.now.form) c.args.self.now.row.now c.args.self.now.digits)
    ∙ ap (λ ds. all_clean (form.row c.args.self.now.form) ds c.args.self.now.digits) c.args.self.now.is
