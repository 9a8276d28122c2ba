-- Accesses: what each kind permits, what it writes, and why it is refused.
use Rattle.std.specs.Prelude.{ℕ, Bool, true, false, cond, not, ◌&&◌, List, [], ◌∷◌, ◌++◌, pos, Some, None, Option}
use Rattle.refusal.specs.declared.Reason.{Reason}
use Rattle.refusal.specs.declared.Reason.TheVariants as why
use Rattle.refusal.specs.Refusals.{Checks, ◌when◌, first_refusal}
use Rattle.refusal.specs.Numbers.{wrap, even}
use Rattle.form.specs.declared.Form.{Form}
use Rattle.form.specs.declared.Form.TheVariants.{RilA, RilB, Rs, Rsy, Rx, Rxy, Si, Sil, Siy, Vrx}
use Rattle.form.specs.declared.OperandKind.TheVariants as kind
use Rattle.form.specs.declared.instr.Entry.{Entry}
use Rattle.form.specs.Encode.{In}
use Rattle.form.specs.Instr.{instr}
use Rattle.operand.specs.declared.reg.Reg.{Reg}
use Rattle.operand.specs.Registers.{gpr, gpr_or_fpr, vr}
use Rattle.book.specs.declared.target.Target.{Target}
use Rattle.book.specs.declared.target.Target.TheVariants.{Label as to_label, Symbol as to_symbol}
use Rattle.address.specs.declared.args.MemArg.{MemArg}
use Rattle.address.specs.declared.frame.Frame.{Frame}
use Rattle.address.specs.declared.args.MemInstType.{MemInstType}
use Rattle.address.specs.declared.access.Access.{Access}
use Rattle.address.specs.declared.access.Access.TheVariants.{Mem, MemRs, MemImm8, MemImm16, MemVrx}
use Rattle.address.specs.declared.access.Aimed.{Aimed}
use Rattle.address.specs.Convention.{Convention}
use Rattle.address.specs.Aimed.{by}
use Rattle.address.specs.Address.{Address, bxd12, bxd20, label, constant, symbol, Mode, mode, Helper, lgfi, load_address, list_of, finalize, registers_fit, displaced, mode_checks, form_checks, target_of, is_constant}

abbrev pub given : Option ℕ → Bool
given None = false
given (Some o) = true

abbrev pub permitted : Access → Bool → MemInstType
permitted (Mem rd rx rxy ril) may_trap =
    record { have_d12 = given rx; have_d20 = given rxy; have_pcrel = given ril; have_unaligned_pcrel = given ril && not may_trap; have_index = true }
permitted (MemRs rd rn rs rsy) may_trap =
    record { have_d12 = given rs; have_d20 = given rsy; have_pcrel = false; have_unaligned_pcrel = false; have_index = false }
permitted (MemImm8 imm si siy) may_trap =
    record { have_d12 = true; have_d20 = true; have_pcrel = false; have_unaligned_pcrel = false; have_index = false }
permitted (MemImm16 imm sil) may_trap =
    record { have_d12 = true; have_d20 = false; have_pcrel = false; have_unaligned_pcrel = false; have_index = false }
permitted (MemVrx rd opcode m3) may_trap =
    record { have_d12 = true; have_d20 = false; have_pcrel = false; have_unaligned_pcrel = false; have_index = true }

abbrev pub entry_for : Form → Option ℕ → List Entry
entry_for f None = []
entry_for f (Some o) = record { form = f; opcode = o } ∷ []

-- the opcodes given to an access, under their forms
abbrev pub opcodes : Access → List Entry
opcodes (Mem rd rx rxy ril) = entry_for Rx rx ++ entry_for Rxy rxy ++ entry_for RilB ril
opcodes (MemRs rd rn rs rsy) = entry_for Rs rs ++ entry_for Rsy rsy
opcodes (MemImm8 imm si siy) = entry_for Si (Some si) ++ entry_for Siy (Some siy)
opcodes (MemImm16 imm sil) = entry_for Sil (Some sil)
opcodes (MemVrx rd opcode m3) = entry_for Vrx (Some opcode)

-- the access itself, at the address that is left; it has no other forms
abbrev pub access_instr : Access → Address → List Aimed
access_instr (Mem rd rx rxy ril) (bxd12 b x d _) = by rx None (λ o. instr Rx o (pos rd.number ∷ pos b.number ∷ pos x.number ∷ d ∷ []))
access_instr (Mem rd rx rxy ril) (bxd20 b x d _) = by rxy None (λ o. instr Rxy o (pos rd.number ∷ pos b.number ∷ pos x.number ∷ d ∷ []))
access_instr (Mem rd rx rxy ril) (label l) = by ril (Some (to_label l)) (λ o. instr RilB o (pos rd.number ∷ []))
access_instr (Mem rd rx rxy ril) (constant c) = []
access_instr (Mem rd rx rxy ril) (symbol n offset _) = by ril (Some (to_symbol n offset)) (λ o. instr RilB o (pos rd.number ∷ []))
access_instr (MemRs rd rn rs rsy) (bxd12 b x d _) = by rs None (λ o. instr Rs o (pos rd.number ∷ pos rn.number ∷ pos b.number ∷ d ∷ []))
access_instr (MemRs rd rn rs rsy) (bxd20 b x d _) = by rsy None (λ o. instr Rsy o (pos rd.number ∷ pos rn.number ∷ pos b.number ∷ d ∷ []))
access_instr (MemRs rd rn rs rsy) (label l) = []
access_instr (MemRs rd rn rs rsy) (constant c) = []
access_instr (MemRs rd rn rs rsy) (symbol n offset _) = []
access_instr (MemImm8 imm si siy) (bxd12 b x d _) = by (Some si) None (λ o. instr Si o (pos b.number ∷ d ∷ pos imm ∷ []))
access_instr (MemImm8 imm si siy) (bxd20 b x d _) = by (Some siy) None (λ o. instr Siy o (pos b.number ∷ d ∷ pos imm ∷ []))
access_instr (MemImm8 imm si siy) (label l) = []
access_instr (MemImm8 imm si siy) (constant c) = []
access_instr (MemImm8 imm si siy) (symbol n offset _) = []
access_instr (MemImm16 imm sil) (bxd12 b x d _) = by (Some sil) None (λ o. instr Sil o (pos b.number ∷ d ∷ imm ∷ []))
access_instr (MemImm16 imm sil) (bxd20 b x d _) = []
access_instr (MemImm16 imm sil) (label l) = []
access_instr (MemImm16 imm sil) (constant c) = []
access_instr (MemImm16 imm sil) (symbol n offset _) = []
access_instr (MemVrx rd opcode m3) (bxd12 b x d _) = by (Some opcode) None (λ o. instr Vrx o (pos rd.number ∷ pos b.number ∷ pos x.number ∷ d ∷ pos m3 ∷ []))
access_instr (MemVrx rd opcode m3) (bxd20 b x d _) = []
access_instr (MemVrx rd opcode m3) (label l) = []
access_instr (MemVrx rd opcode m3) (constant c) = []
access_instr (MemVrx rd opcode m3) (symbol n offset _) = []

-- LA, LAY or LARL
abbrev pub load_address_access : Reg → Access
load_address_access rd = Mem rd (Some 0x41) (Some 0xE371) (Some 0xC00)

abbrev pub helper_instr : Helper → List Aimed
helper_instr (lgfi rd n) = by (Some 0xC01) None (λ o. instr RilA o (pos rd.number ∷ pos (wrap 32 n) ∷ []))
helper_instr (load_address rd a) = access_instr (load_address_access rd) a

abbrev pub helper_instrs : List Helper → List Aimed
helper_instrs [] = []
helper_instrs (h ∷ hs) = helper_instr h ++ helper_instrs hs

-- the access's own operands, by the row that is written; a number's type in the code already keeps it to U8 or S16
abbrev pub data_fits : Access → Bool → Bool
data_fits (Mem rd rx rxy ril) relative = cond relative (gpr rd) (gpr_or_fpr rd)
data_fits (MemRs rd rn rs rsy) relative = gpr_or_fpr rd && gpr_or_fpr rn
data_fits (MemImm8 imm si siy) relative = In kind.U8 (pos imm)
data_fits (MemImm16 imm sil) relative = In kind.S16 imm
data_fits (MemVrx rd opcode m3) relative = vr rd && In kind.M (pos m3)

abbrev pub odd_symbol : Option Target → Bool
odd_symbol None = false
odd_symbol (Some (to_label l)) = false
odd_symbol (Some (to_symbol n offset)) = not (even offset)

-- The plan of an access, made without a section: all that the calls and the inventory ask of it.
pub record Plan : Type 0 where
  pub mode : Mode  -- the address that the access names
  pub target : Option Target  -- what that aims at
  pub opcodes : List Entry  -- the opcodes given
  pub permits : MemInstType  -- the addressing that they permit
  pub final : Address  -- the address that is left for the access, with its flags
  pub fits : Bool  -- whether registers and numbers are of their kinds, by the row that is written
  pub items : List Aimed  -- what is written: the helpers, then the access

abbrev pub plan : Convention → Access → Bool → MemArg → Frame → Plan
plan C a may_trap m fr =
    let mi = permitted a may_trap in
    let f = finalize C mi fr m in
    record {
      mode = mode C fr m;
      target = target_of (mode C fr m);
      opcodes = opcodes a;
      permits = mi;
      final = f.1;
      fits = registers_fit m && data_fits a (not (displaced f.1));
      items = helper_instrs (list_of f.0) ++ access_instr a f.1;
    }

-- The decision lists of an access, as far as neither a catalogue nor a section matters: those that come before the label that it names is looked up, and those that come after.

-- OPERAND to FORM
abbrev pub address_checks : Convention → Plan → Checks
address_checks C p = why.Operand when not p.fits ∷ (mode_checks C p.mode ++ form_checks p.permits p.final)

-- ODD and CONSTANT
abbrev pub target_checks : Plan → Checks
target_checks p =
    why.Odd when odd_symbol p.target
    ∷ why.Constant when is_constant p.mode
    ∷ []

-- why an access is not planned; `lost`: it names a label that is not reserved, or given up
abbrev pub planning_refusal : Convention → Plan → Bool → Option Reason
planning_refusal C p lost = first_refusal (address_checks C p ++ why.Label when lost ∷ target_checks p)
