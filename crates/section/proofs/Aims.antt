-- An access is aimed at most once, and only if it names a target.
use Rattle.std.proofs.Common.{ℕ, ◌+◌, ◌≤◌, Bool, true, false, cond, List, [], ◌∷◌, pos, Some, None, Option, arith}
use Rattle.refusal.specs.Numbers.{plain, twos, within}
use Rattle.form.specs.declared.instr.Instr.{Instr}
use Rattle.book.specs.declared.target.Target.{Target}
use Rattle.book.specs.declared.target.Target.TheVariants.{Label as to_label, Symbol as to_symbol}
use Rattle.address.specs.declared.args.MemArg.{MemArg}
use Rattle.address.specs.declared.args.MemInstType.{MemInstType}
use Rattle.address.specs.declared.frame.Frame.{Frame}
use Rattle.address.specs.declared.access.Access.{Access}
use Rattle.address.specs.declared.access.Access.TheVariants.{Mem, MemRs, MemImm8, MemImm16, MemVrx}
use Rattle.address.specs.Convention.{Convention, zero_reg, int_reg}
use Rattle.address.specs.Aimed.{by}
use Rattle.address.specs.Address.{Address, bxd12, bxd20, label, constant, symbol, total, Mode, real, virtual, mode, Helper, lgfi, load_address, Helpers, list_of, only, also, resolved, must_load, flags_of, loaded, widened, target_of}
use Rattle.address.specs.Access.{permitted, access_instr, load_address_access, helper_instr, helper_instrs, plan}
use Rattle.section.specs.Fits.{one_aim, aims}
use Rattle.section.proofs.Fitting.{aims_append}

by_aims : (q : Option ℕ) (t : Option Target) (i : ℕ → Instr) → aims (by q t i) ≤ one_aim t
by_aims None t i = omega arith
by_aims (Some o) t i = omega arith

abbrev aim_of : Address → ℕ
aim_of (bxd12 b x d fl) = 0
aim_of (bxd20 b x d fl) = 0
aim_of (label l) = 1
aim_of (constant c) = 0
aim_of (symbol n offset fl) = 1

access_aims : (a : Access) (x : Address) → aims (access_instr a x) ≤ aim_of x
access_aims (Mem rd rx rxy ril) (bxd12 b x d fl) = by_aims rx None _
access_aims (Mem rd rx rxy ril) (bxd20 b x d fl) = by_aims rxy None _
access_aims (Mem rd rx rxy ril) (label l) = by_aims ril (Some (to_label l)) _
access_aims (Mem rd rx rxy ril) (constant c) = omega arith
access_aims (Mem rd rx rxy ril) (symbol n offset fl) = by_aims ril (Some (to_symbol n offset)) _
access_aims (MemRs rd rn rs rsy) (bxd12 b x d fl) = by_aims rs None _
access_aims (MemRs rd rn rs rsy) (bxd20 b x d fl) = by_aims rsy None _
access_aims (MemRs rd rn rs rsy) (label l) = omega arith
access_aims (MemRs rd rn rs rsy) (constant c) = omega arith
access_aims (MemRs rd rn rs rsy) (symbol n offset fl) = omega arith
access_aims (MemImm8 imm si siy) (bxd12 b x d fl) = omega arith
access_aims (MemImm8 imm si siy) (bxd20 b x d fl) = omega arith
access_aims (MemImm8 imm si siy) (label l) = omega arith
access_aims (MemImm8 imm si siy) (constant c) = omega arith
access_aims (MemImm8 imm si siy) (symbol n offset fl) = omega arith
access_aims (MemImm16 imm sil) (bxd12 b x d fl) = omega arith
access_aims (MemImm16 imm sil) (bxd20 b x d fl) = omega arith
access_aims (MemImm16 imm sil) (label l) = omega arith
access_aims (MemImm16 imm sil) (constant c) = omega arith
access_aims (MemImm16 imm sil) (symbol n offset fl) = omega arith
access_aims (MemVrx rd opcode m3) (bxd12 b x d fl) = omega arith
access_aims (MemVrx rd opcode m3) (bxd20 b x d fl) = omega arith
access_aims (MemVrx rd opcode m3) (label l) = omega arith
access_aims (MemVrx rd opcode m3) (constant c) = omega arith
access_aims (MemVrx rd opcode m3) (symbol n offset fl) = omega arith

abbrev helper_aim : Helper → ℕ
helper_aim (lgfi rd n) = 0
helper_aim (load_address rd a) = aim_of a

abbrev helpers_aim : List Helper → ℕ
helpers_aim [] = 0
helpers_aim (h ∷ hs) = helper_aim h + helpers_aim hs

helper_aims : (h : Helper) → aims (helper_instr h) ≤ helper_aim h
helper_aims (lgfi rd n) = omega arith
helper_aims (load_address rd a) = access_aims (load_address_access rd) a

helpers_aims : (hs : List Helper) → aims (helper_instrs hs) ≤ helpers_aim hs
helpers_aims [] = omega arith
helpers_aims (h ∷ hs) = let a = helper_aims h in let b = helpers_aims hs in let e = aims_append (helper_instr h) (helper_instrs hs) in omega arith

widened_aim : (mi : MemInstType) (a : Address) → aim_of (widened mi a) ≤ aim_of a
widened_aim mi (bxd12 b x d fl) = go mi.have_d12
  where
    go : (c : Bool) → aim_of (cond c (bxd12 b x d fl) (bxd20 b x d fl)) ≤ 0
    go true = omega arith
    go false = omega arith
widened_aim mi (bxd20 b x d fl) = omega arith
widened_aim mi (label l) = omega arith
widened_aim mi (constant c) = omega arith
widened_aim mi (symbol n offset fl) = omega arith

module _ (C : Convention) where
  real_aim : (a : Address) → aim_of a ≤ one_aim (target_of (real a))
  real_aim (bxd12 b x d fl) = omega arith
  real_aim (bxd20 b x d fl) = omega arith
  real_aim (label l) = omega arith
  real_aim (constant c) = omega arith
  real_aim (symbol n offset fl) = omega arith

  abbrev both_aim : Option Helper × Address → ℕ
  both_aim p = helpers_aim (list_of (only p.0)) + aim_of p.1

  resolved_aim : (md : Mode) → both_aim (resolved C md) ≤ one_aim (target_of md)
  resolved_aim (real a) = let h = real_aim a in omega arith
  resolved_aim (virtual v) = go (within (plain 12) (total v)) (within (twos 20) (total v))
    where
      go : (a b : Bool) → both_aim (cond a (None, bxd12 v.base (int_reg zero_reg) (total v) v.flags) (cond b (None, bxd20 v.base (int_reg zero_reg) (total v) v.flags) (Some (lgfi (int_reg C.temporary) (total v)), bxd12 v.base (int_reg C.temporary) (pos 0) v.flags))) ≤ 0
      go true b = omega arith
      go false true = omega arith
      go false false = omega arith

  abbrev planned_aim : Helpers × Address → ℕ
  planned_aim p = helpers_aim (list_of p.0) + aim_of p.1

  loaded_aim : (mi : MemInstType) (h : Option Helper) (a : Address) → planned_aim (loaded C mi h a) ≤ both_aim (h, a)
  loaded_aim mi h a = go (must_load mi a) h
    where
      go : (b : Bool) (k : Option Helper) → planned_aim (cond b (also k (load_address (int_reg C.temporary) a), bxd12 (int_reg C.temporary) (int_reg zero_reg) (pos 0) (flags_of a)) (only k, a)) ≤ both_aim (k, a)
      go true None = omega arith
      go true (Some x) = omega arith
      go false k = omega arith

  pub plan_aims : (a : Access) (may_trap : Bool) (m : MemArg) (fr : Frame) → aims (plan C a may_trap m fr).items ≤ one_aim (plan C a may_trap m fr).target
  plan_aims a may_trap m fr =
      let mi = permitted a may_trap in
      let md = mode C fr m in
      let r = resolved C md in
      let l = loaded C mi r.0 r.1 in
      let e = aims_append (helper_instrs (list_of l.0)) (access_instr a (widened mi l.1)) in
      let h = helpers_aims (list_of l.0) in
      let k = access_aims a (widened mi l.1) in
      let w = widened_aim mi l.1 in
      let x = loaded_aim mi r.0 r.1 in
      let y = resolved_aim md in
      omega arith
