-- The encoders, one to a form: what each answers, of an opcode and its operands in the row's order.
use Rattle.std.specs.Prelude.{ℕ, Bool, true, false, not, ◌&&◌, List, [], ◌∷◌, map, length, replicate, ℤ, pos, Some, None, Option}
use Rattle.refusal.specs.declared.Reason.{Reason}
use Rattle.refusal.specs.declared.Reason.TheVariants as why
use Rattle.form.specs.declared.Form.{Form}
use Rattle.form.specs.declared.OperandKind.{OperandKind}
use Rattle.form.specs.declared.OperandKind.TheVariants.{G, N, V, F, M, U8, U16, U32, S16, D12, D20, H16, H32}
use Rattle.operand.specs.declared.reg.Reg.{Reg}
use Rattle.refusal.specs.Refusals.{number_of, ◌when◌, first_refusal}
use Rattle.form.specs.Form.{kinds}
use Rattle.form.specs.Encode.{encode}
use Rattle.operand.specs.Registers.{gpr, gpr_or_fpr, vr, fpr}

pub data Operand : Type 0 where
  register : Reg → Operand
  numeral : ℤ → Operand  -- a mask, an immediate, a displacement or a distance

abbrev pub value_of : Operand → ℤ
value_of (register r) = pos r.number
value_of (numeral z) = z

-- the registers of a kind; the other kinds have none
abbrev pub register_of_kind : OperandKind → Reg → Bool
register_of_kind G r = gpr r
register_of_kind N r = gpr_or_fpr r
register_of_kind V r = vr r
register_of_kind F r = fpr r
register_of_kind M r = false
register_of_kind U8 r = false
register_of_kind U16 r = false
register_of_kind U32 r = false
register_of_kind S16 r = false
register_of_kind D12 r = false
register_of_kind D20 r = false
register_of_kind H16 r = false
register_of_kind H32 r = false

-- a numeral is cut to its digits, and never refused
abbrev pub of_kind : OperandKind → Operand → Bool
of_kind k (register r) = register_of_kind k r
of_kind k (numeral z) = true

abbrev pub of_kinds : List OperandKind → List Operand → Bool
of_kinds [] xs = true
of_kinds (k ∷ ks) [] = true
of_kinds (k ∷ ks) (x ∷ xs) = of_kind k x && of_kinds ks xs

abbrev pub encoder_refusal : Form → List Operand → Option Reason
encoder_refusal f xs = first_refusal (why.Operand when not (of_kinds (kinds f) xs) ∷ [])

-- the bytes and 0, or so many zero bytes and the reason's number
abbrev pub encoder_answer : Option Reason → List ℕ → List ℕ × ℕ
encoder_answer None bytes = (bytes, 0)
encoder_answer (Some r) bytes = (replicate (length bytes) 0, number_of r)

abbrev pub encoder : Form → ℕ → List Operand → List ℕ × ℕ
encoder f o xs = encoder_answer (encoder_refusal f xs) (encode f o (map value_of xs))
