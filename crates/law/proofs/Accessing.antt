-- What an accepted access writes is catalogued, and its operands are of their kinds.
use Rattle.std.proofs.Common.{◌≡◌, ℕ, suc, ◌-◌, ◌%◌, ◌^◌, Bool, true, false, cond, not, ◌&&◌, ltb, leb, List, [], ◌∷◌, ◌++◌, length, ℤ, pos, negsuc, Some, None, Option, refl, arith}
use lib.Dec.{leb-zero}
use lib.Signed.{le_z, lt_z}
use Rattle.std.specs.List.{AllByRecursion}
use Rattle.std.proofs.lemmas.Bool.{and_parts, and_from, or_left, or_right, ltb-true, lt-ltb}
use Rattle.form.specs.declared.Form.{Form}
use Rattle.form.specs.declared.Form.TheVariants.{RilA, RilB, Rs, Rsy, Rx, Rxy, Si, Sil, Siy, Vrx}
use Rattle.form.specs.declared.instr.Entry.{Entry}
use Rattle.operand.specs.declared.reg.Reg.{Reg}
use Rattle.address.specs.declared.args.MemArg.{MemArg}
use Rattle.address.specs.declared.args.MemArg.TheVariants.{BXD12, BXD20, Label, Constant, Symbol, RegOffset, InitialSPOffset, IncomingArgOffset, OutgoingArgOffset, SlotOffset, SpillOffset}
use Rattle.address.specs.declared.frame.Frame.{Frame}
use Rattle.address.specs.declared.args.MemInstType.{MemInstType}
use Rattle.address.specs.declared.access.Access.{Access}
use Rattle.address.specs.declared.access.Access.TheVariants.{Mem, MemRs, MemImm8, MemImm16, MemVrx}
use Rattle.form.specs.Form.{kinds}
use Rattle.form.specs.Encode.{six, takes}
use Rattle.refusal.specs.Tests.{all}
use Rattle.catalogue_law.specs.Catalogue.{is_entry, catalogued, initial, begins, sound}
use Rattle.catalogue_law.proofs.Sound.{sound_parts}
use Rattle.address_law.proofs.Conventions.{convention_parts}
use Rattle.law.proofs.Accepted.{AccessAccepted}
use Rattle.operand.specs.Registers.{is_int, gpr, gpr_or_fpr, vr, is_float}
use Rattle.address.specs.Convention.{zero_reg, int_reg, Convention, lawful_convention}
use Rattle.address.specs.Address.{Address, bxd12, bxd20, label, constant, symbol, total, Mode, real, virtual, mode, Helper, lgfi, load_address, Helpers, list_of, only, also, resolved, must_load, loaded, widened, finalize, registers_fit, displaced}
use Rattle.address.specs.Access.{permitted, entry_for, opcodes, access_instr, load_address_access, helper_instr, helper_instrs, plan, data_fits}
use Rattle.law.specs.Section.{State}
use Rattle.catalogue_law.proofs.Basics.{T_true, true_T, differ, all_append}
use Rattle.law.specs.Matching.{AimSound}
use Rattle.law.proofs.Matching.{SoundAimed}
use Rattle.form.specs.Instr.{instr}
use Rattle.refusal.specs.Numbers.{plain, twos, within, wrap}
use Rattle.book.specs.declared.target.Target.{Target}
use Rattle.book.specs.declared.target.Target.TheVariants.{Label as to_label, Symbol as to_symbol}
use Rattle.address.specs.Aimed.{by}

-- Entries that are catalogued.

abbrev in_es : List Entry → Entry → Bool
in_es es e = catalogued es e.form e.opcode

all_parts : {X : Type 0} (p : X → Bool) (xs ys : List X) → all p (xs ++ ys) ≡ true → (all p xs ≡ true) × (all p ys ≡ true)
all_parts p [] ys h = (refl, h)
all_parts p (x ∷ xs) ys h =
    let a = and_parts (p x) (all p (xs ++ ys)) h in
    let b = all_parts p xs ys a.1 in
    (and_from (p x) (all p xs) a.0 b.0, b.1)

-- what a list begins with is in it
begins_there : (ds es xs : List Entry) → begins ds es ≡ true → ((e : Entry) → in_es es e ≡ true → in_es xs e ≡ true) → all (in_es xs) ds ≡ true
begins_there [] es xs h k = refl
begins_there (d ∷ ds) [] xs h k = absurd (differ h refl)
begins_there (d ∷ ds) (e ∷ es) xs h k =
    let p = and_parts (is_entry d.form d.opcode e) (begins ds es) h in
    and_from (in_es xs d) (all (in_es xs) ds) (k d (or_left (is_entry d.form d.opcode e) (in_es es d) p.0))
    (begins_there ds es xs p.1 (λ x q. k x (or_right (is_entry x.form x.opcode e) (in_es es x) q)))

initial_there : (es : List Entry) → sound es ≡ true → all (in_es es) initial ≡ true
initial_there es h = begins_there initial es es (sound_parts es h).begins (λ e q. q)

-- Numbers in their kinds.

plain_in : (w n : ℕ) → ltb n (2 ^ w) ≡ true → within (plain w) (pos n) ≡ true
plain_in w n h = and_from (leb 0 n) (ltb n (2 ^ w)) (leb-zero n) h

gpr_small : (r : Reg) → gpr r ≡ true → ltb r.number 16 ≡ true
unfolding gpr
gpr_small r h = (and_parts (is_int r.class) (ltb r.number 16) h).1

vr_small : (r : Reg) → vr r ≡ true → ltb r.number 32 ≡ true
unfolding vr
vr_small r h = (and_parts (is_float r.class) (ltb r.number 32) h).1

wider : (z : ℤ) → within (plain 12) z ≡ true → within (twos 20) z ≡ true
wider (pos n) h = lt-ltb n 524288 (let p = ltb-true n 4096 (and_parts (leb 0 n) (ltb n 4096) h).1 in omega arith)
wider (negsuc n) h = absurd (differ h refl)

wrap_in : (z : ℤ) → ltb (wrap 32 z) (2 ^ 32) ≡ true
wrap_in (pos n) = lt-ltb (n % 2 ^ 32) (2 ^ 32) (omega arith)
wrap_in (negsuc n) = lt-ltb (2 ^ 32 - suc (n % 2 ^ 32)) (2 ^ 32) (omega arith)

-- Addresses whose parts are in their kinds.

abbrev Good : Address → Type 0
Good (bxd12 b x d _) = (ltb b.number 16 ≡ true) × (ltb x.number 16 ≡ true) × (within (plain 12) d ≡ true)
Good (bxd20 b x d _) = (ltb b.number 16 ≡ true) × (ltb x.number 16 ≡ true) × (within (twos 20) d ≡ true)
Good (label l) = Unit {0}
Good (constant c) = Unit {0}
Good (symbol n offset _) = Unit {0}

abbrev GoodMode : Mode → Type 0
GoodMode (real a) = Good a
GoodMode (virtual v) = ltb v.base.number 16 ≡ true

abbrev GoodHelper : Helper → Type 0
GoodHelper (lgfi rd n) = ltb rd.number 16 ≡ true
GoodHelper (load_address rd a) = (gpr rd ≡ true) × Good a

abbrev GoodFirst : Option Helper × Address → Type 0
GoodFirst p = AllByRecursion GoodHelper (list_of (only p.0)) × Good p.1

abbrev GoodPlan : Helpers × Address → Type 0
GoodPlan p = AllByRecursion GoodHelper (list_of p.0) × Good p.1

module _ (C : Convention) (lc : lawful_convention C ≡ true) where
  stack_small : ltb C.stack 16 ≡ true
  stack_small = (convention_parts C lc).stack_small

  temporary_small : ltb C.temporary 16 ≡ true
  temporary_small = (convention_parts C lc).temporary_small

  mode_good : (fr : Frame) (m : MemArg) → registers_fit m ≡ true → GoodMode (mode C fr m)
  mode_good fr (BXD12 base index disp flags) h =
      let p = and_parts (gpr base) (gpr index) h in
      (gpr_small base p.0, gpr_small index p.1, plain_in 12 disp.value (lt-ltb disp.value 4096 disp.small))
  mode_good fr (BXD20 base index disp flags) h =
      let p = and_parts (gpr base) (gpr index) h in
      (gpr_small base p.0, gpr_small index p.1, and_from (le_z (negsuc 524287) disp.value) (lt_z disp.value (pos 524288)) (T_true disp.low.le) (T_true disp.high.lt))
  mode_good fr (Label target) h = tt
  mode_good fr (Constant number) h = tt
  mode_good fr (Symbol name offset flags) h = tt
  mode_good fr (RegOffset reg off flags) h = gpr_small reg h
  mode_good fr (InitialSPOffset off) h = stack_small
  mode_good fr (IncomingArgOffset off) h = stack_small
  mode_good fr (OutgoingArgOffset off) h = stack_small
  mode_good fr (SlotOffset off) h = stack_small
  mode_good fr (SpillOffset off) h = stack_small

  resolved_good : (md : Mode) → GoodMode md → GoodFirst (resolved C md)
  resolved_good (real a) h = (tt, h)
  resolved_good (virtual v) h = go (within (plain 12) (total v)) refl (within (twos 20) (total v)) refl
    where
      go : (a : Bool) → within (plain 12) (total v) ≡ a → (b : Bool) → within (twos 20) (total v) ≡ b → GoodFirst (cond a (None, bxd12 v.base (int_reg zero_reg) (total v) v.flags) (cond b (None, bxd20 v.base (int_reg zero_reg) (total v) v.flags) (Some (lgfi (int_reg C.temporary) (total v)), bxd12 v.base (int_reg C.temporary) (pos 0) v.flags)))
      go true p b q = (tt, (h, refl, p))
      go false p true q = (tt, (h, refl, q))
      go false p false q = ((temporary_small, tt), (h, temporary_small, refl))

  loaded_good : (mi : MemInstType) (hs : Option Helper) (a : Address) → AllByRecursion GoodHelper (list_of (only hs)) → Good a → GoodPlan (loaded C mi hs a)
  unfolding gpr
  loaded_good mi hs a h k = go (must_load mi a)
    where
      both : (x : Option Helper) → AllByRecursion GoodHelper (list_of (only x)) → AllByRecursion GoodHelper (list_of (also x (load_address (int_reg C.temporary) a)))
      both None h = ((temporary_small, k), tt)
      both (Some x) h = (h.0, ((temporary_small, k), tt))

      go : (b : Bool) → GoodPlan (cond b (also hs (load_address (int_reg C.temporary) a), bxd12 (int_reg C.temporary) (int_reg zero_reg) (pos 0) (Rattle.address.specs.Address.flags_of a)) (only hs, a))
      go true = (both hs h, (temporary_small, refl, refl))
      go false = (h, k)

  widened_good : (mi : MemInstType) (a : Address) → Good a → Good (widened mi a)
  widened_good mi (bxd12 b x d fl) h = go mi.have_d12
    where
      go : (c : Bool) → Good (cond c (bxd12 b x d fl) (bxd20 b x d fl))
      go true = h
      go false = (h.0, h.1, wider d h.2)
  widened_good mi (bxd20 b x d fl) h = h
  widened_good mi (label l) h = tt
  widened_good mi (constant c) h = tt
  widened_good mi (symbol n offset fl) h = tt

  finalize_good : (mi : MemInstType) (fr : Frame) (m : MemArg) → registers_fit m ≡ true → GoodPlan (finalize C mi fr m)
  finalize_good mi fr m h =
      let r = resolved_good (mode C fr m) (mode_good fr m h) in
      let l = loaded_good mi (resolved C (mode C fr m)).0 (resolved C (mode C fr m)).1 r.0 r.1 in
      (l.0, widened_good mi (loaded C mi (resolved C (mode C fr m)).0 (resolved C (mode C fr m)).1).1 l.1)

  -- What is written.

  and1 : {a : Bool} → a ≡ true → (a && true) ≡ true
  and1 p = rw p

  and2 : {a b : Bool} → a ≡ true → b ≡ true → (a && (b && true)) ≡ true
  and2 p q = rw (p, q)

  and3 : {a b c : Bool} → a ≡ true → b ≡ true → c ≡ true → (a && (b && (c && true))) ≡ true
  and3 p q r = rw (p, q, r)

  and4 : {a b c d : Bool} → a ≡ true → b ≡ true → c ≡ true → d ≡ true → (a && (b && (c && (d && true)))) ≡ true
  and4 p q r s = rw (p, q, r, s)

  and5 : {a b c d e : Bool} → a ≡ true → b ≡ true → c ≡ true → d ≡ true → e ≡ true → (a && (b && (c && (d && (e && true))))) ≡ true
  and5 p q r s t = rw (p, q, r, s, t)

  by_sound : (es : List Entry) (f : Form) (q : Option ℕ) (t : Option Target) (zs : List ℤ) → all (in_es es) (entry_for f q) ≡ true → length (six zs) ≡ 6 → takes (kinds f) (six zs) ≡ true
      → ((o : ℕ) → AimSound (instr f o zs) t) → AllByRecursion (SoundAimed es) (by q t (λ o. instr f o zs))
  by_sound es f None t zs h n k a = tt
  by_sound es f (Some o) t zs h n k a =
      (record { catalogued = record { entry = true_T (and_parts (catalogued es f o) true h).0; six_operands = n; in_kind = true_T k }; aimed = a o }, tt)

  module _ (es : List Entry) where
    accessing_sound : (a : Access) (x : Address) → Good x → all (in_es es) (opcodes a) ≡ true → data_fits a (not (displaced x)) ≡ true → AllByRecursion (SoundAimed es) (access_instr a x)
    unfolding gpr gpr_or_fpr vr
    accessing_sound (Mem rd rx rxy ril) (bxd12 b x d fl) g h k =
        let p = all_parts (in_es es) (entry_for Rx rx ++ entry_for Rxy rxy) (entry_for RilB ril) h in
        let q = all_parts (in_es es) (entry_for Rx rx) (entry_for Rxy rxy) p.0 in
        by_sound es Rx rx None (pos rd.number ∷ pos b.number ∷ pos x.number ∷ d ∷ []) q.0 refl (and4 (plain_in 4 rd.number k) (plain_in 4 b.number g.0) (plain_in 4 x.number g.1) g.2) (λ o. tt)
    accessing_sound (Mem rd rx rxy ril) (bxd20 b x d fl) g h k =
        let p = all_parts (in_es es) (entry_for Rx rx ++ entry_for Rxy rxy) (entry_for RilB ril) h in
        let q = all_parts (in_es es) (entry_for Rx rx) (entry_for Rxy rxy) p.0 in
        by_sound es Rxy rxy None (pos rd.number ∷ pos b.number ∷ pos x.number ∷ d ∷ []) q.1 refl (and4 (plain_in 4 rd.number k) (plain_in 4 b.number g.0) (plain_in 4 x.number g.1) g.2) (λ o. tt)
    accessing_sound (Mem rd rx rxy ril) (label l) g h k =
        let p = all_parts (in_es es) (entry_for Rx rx ++ entry_for Rxy rxy) (entry_for RilB ril) h in
        by_sound es RilB ril (Some (to_label l)) (pos rd.number ∷ []) p.1 refl (and1 (plain_in 4 rd.number (gpr_small rd k))) (λ o. (refl, (pos rd.number, refl)))
    accessing_sound (Mem rd rx rxy ril) (constant c) g h k = tt
    accessing_sound (Mem rd rx rxy ril) (symbol n offset fl) g h k =
        let p = all_parts (in_es es) (entry_for Rx rx ++ entry_for Rxy rxy) (entry_for RilB ril) h in
        by_sound es RilB ril (Some (to_symbol n offset)) (pos rd.number ∷ []) p.1 refl (and1 (plain_in 4 rd.number (gpr_small rd k))) (λ o. (refl, (pos rd.number, refl)))
    accessing_sound (MemRs rd rn rs rsy) (bxd12 b x d fl) g h k =
        let p = all_parts (in_es es) (entry_for Rs rs) (entry_for Rsy rsy) h in
        let q = and_parts (gpr_or_fpr rd) (gpr_or_fpr rn) k in
        by_sound es Rs rs None (pos rd.number ∷ pos rn.number ∷ pos b.number ∷ d ∷ []) p.0 refl (and4 (plain_in 4 rd.number q.0) (plain_in 4 rn.number q.1) (plain_in 4 b.number g.0) g.2) (λ o. tt)
    accessing_sound (MemRs rd rn rs rsy) (bxd20 b x d fl) g h k =
        let p = all_parts (in_es es) (entry_for Rs rs) (entry_for Rsy rsy) h in
        let q = and_parts (gpr_or_fpr rd) (gpr_or_fpr rn) k in
        by_sound es Rsy rsy None (pos rd.number ∷ pos rn.number ∷ pos b.number ∷ d ∷ []) p.1 refl (and4 (plain_in 4 rd.number q.0) (plain_in 4 rn.number q.1) (plain_in 4 b.number g.0) g.2) (λ o. tt)
    accessing_sound (MemRs rd rn rs rsy) (label l) g h k = tt
    accessing_sound (MemRs rd rn rs rsy) (constant c) g h k = tt
    accessing_sound (MemRs rd rn rs rsy) (symbol n offset fl) g h k = tt
    accessing_sound (MemImm8 imm si siy) (bxd12 b x d fl) g h k =
        let p = all_parts (in_es es) (entry_for Si (Some si)) (entry_for Siy (Some siy)) h in
        by_sound es Si (Some si) None (pos b.number ∷ d ∷ pos imm ∷ []) p.0 refl (and3 (plain_in 4 b.number g.0) g.2 k) (λ o. tt)
    accessing_sound (MemImm8 imm si siy) (bxd20 b x d fl) g h k =
        let p = all_parts (in_es es) (entry_for Si (Some si)) (entry_for Siy (Some siy)) h in
        by_sound es Siy (Some siy) None (pos b.number ∷ d ∷ pos imm ∷ []) p.1 refl (and3 (plain_in 4 b.number g.0) g.2 k) (λ o. tt)
    accessing_sound (MemImm8 imm si siy) (label l) g h k = tt
    accessing_sound (MemImm8 imm si siy) (constant c) g h k = tt
    accessing_sound (MemImm8 imm si siy) (symbol n offset fl) g h k = tt
    accessing_sound (MemImm16 imm sil) (bxd12 b x d fl) g h k =
        by_sound es Sil (Some sil) None (pos b.number ∷ d ∷ imm ∷ []) h refl (and3 (plain_in 4 b.number g.0) g.2 k) (λ o. tt)
    accessing_sound (MemImm16 imm sil) (bxd20 b x d fl) g h k = tt
    accessing_sound (MemImm16 imm sil) (label l) g h k = tt
    accessing_sound (MemImm16 imm sil) (constant c) g h k = tt
    accessing_sound (MemImm16 imm sil) (symbol n offset fl) g h k = tt
    accessing_sound (MemVrx rd opcode m3) (bxd12 b x d fl) g h k =
        let q = and_parts (vr rd) (within (plain 4) (pos m3)) k in
        by_sound es Vrx (Some opcode) None (pos rd.number ∷ pos b.number ∷ pos x.number ∷ d ∷ pos m3 ∷ []) h refl (and5 (plain_in 5 rd.number (vr_small rd q.0)) (plain_in 4 b.number g.0) (plain_in 4 x.number g.1) g.2 q.1) (λ o. tt)
    accessing_sound (MemVrx rd opcode m3) (bxd20 b x d fl) g h k = tt
    accessing_sound (MemVrx rd opcode m3) (label l) g h k = tt
    accessing_sound (MemVrx rd opcode m3) (constant c) g h k = tt
    accessing_sound (MemVrx rd opcode m3) (symbol n offset fl) g h k = tt

    module _ (there : all (in_es es) initial ≡ true) where
      helping_sound : (h : Helper) → GoodHelper h → AllByRecursion (SoundAimed es) (helper_instr h)
      unfolding gpr_or_fpr gpr
      helping_sound (lgfi rd n) g =
          by_sound es RilA (Some 0xC01) None (pos rd.number ∷ pos (wrap 32 n) ∷ []) (and1 (and_parts (catalogued es RilA 0xC01) _ there).0) refl (and2 (plain_in 4 rd.number g) (plain_in 32 (wrap 32 n) (wrap_in n))) (λ o. tt)
      helping_sound (load_address rd a) g = accessing_sound (load_address_access rd) a g.1 (and_parts (catalogued es RilA 0xC01) _ there).1 (either (not (displaced a)))
        where
          either : (b : Bool) → data_fits (load_address_access rd) b ≡ true
          either true = g.0
          either false = gpr_small rd g.0

      helping_all_sound : (hs : List Helper) → AllByRecursion GoodHelper hs → AllByRecursion (SoundAimed es) (helper_instrs hs)
      helping_all_sound [] g = tt
      helping_all_sound (h ∷ hs) g = all_append (SoundAimed es) (helper_instr h) (helper_instrs hs) (helping_sound h g.0) (helping_all_sound hs g.1)

  -- what an accepted access writes
  pub access_sound : (s : State) (a : Access) (may_trap : Bool) (m : MemArg) (fr : Frame) → sound s.entries ≡ true → AccessAccepted C s (plan C a may_trap m fr) → AllByRecursion (SoundAimed s.entries) (plan C a may_trap m fr).items
  access_sound s a may_trap m fr ad h =
      let fit = and_parts (registers_fit m) (data_fits a (not (displaced (finalize C (permitted a may_trap) fr m).1))) h.operands in
      let g = finalize_good (permitted a may_trap) fr m fit.0 in
      all_append (SoundAimed s.entries) (helper_instrs (list_of (finalize C (permitted a may_trap) fr m).0)) (access_instr a (finalize C (permitted a may_trap) fr m).1)
      (helping_all_sound s.entries (initial_there s.entries ad) (list_of (finalize C (permitted a may_trap) fr m).0) g.0)
      (accessing_sound s.entries a (finalize C (permitted a may_trap) fr m).1 g.1 h.opcodes_catalogued fit.1)
