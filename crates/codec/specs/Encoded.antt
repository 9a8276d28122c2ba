-- Why operands are not encoded.
use Rattle.std.specs.Prelude.{not, List, [], ◌∷◌, ℤ, Option}
use Rattle.refusal.specs.declared.Reason.{Reason}
use Rattle.refusal.specs.declared.Reason.TheVariants.{Operand}
use Rattle.refusal.specs.Refusals.{◌when◌, first_refusal}
use Rattle.form.specs.declared.Form.{Form}
use Rattle.form.specs.Form.{kinds}
use Rattle.form.specs.Encode.{takes}

abbrev pub operand_refusal : Form → List ℤ → Option Reason
operand_refusal f zs = first_refusal (Operand when not (takes (kinds f) zs) ∷ [])
