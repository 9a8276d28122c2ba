-- What an accepted access writes reaches the place that it names.
use Rattle.std.proofs.Common.{◌≡◌, ℕ, ◌+◌, Bool, true, false, cond, not, ◌||◌, eqb, ◌⊎◌, List, [], ◌∷◌, ◌++◌, map, ℤ, pos, ◌+ℤ◌, ◌-ℤ◌, Some, None, Option, sym, refl, ap, ◌∙◌, subst, inl, inr, arith}
use Rattle.std.specs.List.{AllByRecursion}
use Rattle.std.proofs.lemmas.Int.{ints}
use Rattle.std.proofs.lemmas.Bool.{and_parts, or_cases, not-true, not-false, eqb-true}
use Rattle.refusal.specs.declared.Reason.TheVariants as why
use Rattle.refusal.specs.Refusals.{when_some, ◌when◌}
use Rattle.refusal.specs.Numbers.{plain, twos, within}
use Rattle.form.specs.declared.instr.Placed.{Placed}
use Rattle.form.specs.Form.{size}
use Rattle.operand.specs.declared.reg.Reg.{Reg}
use Rattle.book.specs.declared.target.Target.{Target}
use Rattle.book.specs.declared.target.Target.TheVariants.{Label as to_label, Symbol as to_symbol}
use Rattle.address.specs.declared.args.MachMemFlags.{MachMemFlags}
use Rattle.address.specs.declared.args.MemArg.{MemArg}
use Rattle.address.specs.declared.args.MemInstType.{MemInstType}
use Rattle.address.specs.declared.frame.Frame.{Frame}
use Rattle.address.specs.declared.access.Access.{Access}
use Rattle.address.specs.declared.access.Access.TheVariants.{Mem, MemRs, MemImm8, MemImm16, MemVrx}
use Rattle.address.specs.declared.access.Aimed.{Aimed}
use Rattle.address.specs.Convention.{zero_reg, int_reg, Convention, lawful_convention}
use Rattle.address.specs.Address.{Address, bxd12, bxd20, label, constant, symbol, adjustment, total, Mode, real, virtual, mode, Helper, lgfi, load_address, Helpers, no_helper, one_helper, list_of, only, also, resolved, indexed, must_load, flags_of, loaded, widened, finalize, needs_its_base, too_far, lacks_form, target_of, is_constant}
use Rattle.address.specs.Access.{permitted, access_instr, helper_instr, helper_instrs, plan, address_checks, target_checks}
use Rattle.address.specs.Machine.{Registers, content, set_register, named, reached, executed, then_run, run}
use Rattle.address_law.specs.Items.{Item, placed_from, filled, as_placed}
use Rattle.address_law.specs.Standing.{permits, effect, effects}
use Rattle.address_law.specs.Reaching.{AimFound, Reaching, AccessesReach}
use Rattle.address_law.proofs.Basics.{differ, none_refused, all_append}
use Rattle.address_law.proofs.Words.{signed_again}
use Rattle.address_law.proofs.Leading.{nearly, also_listed, finalize_permits, finalize_leads}

-- what an address names, if its target is found
named_mode : (where_is : Target → Option ℤ) (md : Mode) → AimFound where_is (target_of md) → is_constant md ≡ false → (load : ℤ) (g : Registers) → (z : ℤ) × (named where_is load g md ≡ Some z)
named_mode where_is (real (bxd12 b x d fl)) h c load g = (content g b.number +ℤ content g x.number +ℤ d, refl)
named_mode where_is (real (bxd20 b x d fl)) h c load g = (content g b.number +ℤ content g x.number +ℤ d, refl)
named_mode where_is (real (label l)) h c load g = (load +ℤ h.0, ap (when_some (λ p. load +ℤ p)) h.1)
named_mode where_is (real (constant n)) h c load g = absurd (differ refl c)
named_mode where_is (real (symbol n offset fl)) h c load g = (load +ℤ h.0, ap (when_some (λ p. load +ℤ p)) h.1)
named_mode where_is (virtual v) h c load g = (content g v.base.number +ℤ v.off +ℤ adjustment v, refl)

module _ (C : Convention) (lc : lawful_convention C ≡ true) where
  abbrev first_listed : Option Helper × Address → List Helper × Address
  first_listed p = (list_of (only p.0), p.1)

  abbrev all_listed : Helpers × Address → List Helper × Address
  all_listed p = (list_of p.0, p.1)

  -- An address that the access can be written with.

  abbrev NoIndex : MemInstType → ℕ → Type 0
  NoIndex mi x = (mi.have_index ≡ true) ⊎ (x ≡ 0)

  abbrev NotConstant : Address → Type 0
  NotConstant (bxd12 b x d fl) = Unit {0}
  NotConstant (bxd20 b x d fl) = Unit {0}
  NotConstant (label l) = Unit {0}
  NotConstant (constant c) = ⊥
  NotConstant (symbol n offset fl) = Unit {0}

  abbrev Suits : MemInstType → Address → Type 0
  Suits mi (bxd12 b x d fl) = (mi.have_d12 ≡ true) × NoIndex mi x.number
  Suits mi (bxd20 b x d fl) = (mi.have_d20 ≡ true) × NoIndex mi x.number
  Suits mi (label l) = mi.have_pcrel ≡ true
  Suits mi (constant c) = ⊥
  Suits mi (symbol n offset fl) = mi.have_pcrel ≡ true

  no_index : (mi : MemInstType) (x : Reg) → (mi.have_index || not (indexed x)) ≡ true → NoIndex mi x.number
  no_index mi x h = go (or_cases mi.have_index (not (indexed x)) h)
    where
      go : (mi.have_index ≡ true) ⊎ (not (indexed x) ≡ true) → NoIndex mi x.number
      go (inl e) = inl e
      go (inr e) = inr (eqb-true x.number 0 (not-false (eqb x.number 0) (not-true (indexed x) e)))

  suits : (mi : MemInstType) (x : Address) → NotConstant x → permits mi x ≡ true → Suits mi x
  suits mi (bxd12 b x d fl) c h = let p = and_parts mi.have_d12 (mi.have_index || not (indexed x)) h in (p.0, no_index mi x p.1)
  suits mi (bxd20 b x d fl) c h = let p = and_parts mi.have_d20 (mi.have_index || not (indexed x)) h in (p.0, no_index mi x p.1)
  suits mi (label l) c h = h
  suits mi (constant n) c h = c
  suits mi (symbol n offset fl) c h = (and_parts mi.have_pcrel (mi.have_unaligned_pcrel || fl.aligned) h).0

  resolved_address : (md : Mode) → is_constant md ≡ false → NotConstant (resolved C md).1
  resolved_address (real (bxd12 b x d fl)) h = tt
  resolved_address (real (bxd20 b x d fl)) h = tt
  resolved_address (real (label l)) h = tt
  resolved_address (real (constant c)) h = differ refl h
  resolved_address (real (symbol n offset fl)) h = tt
  resolved_address (virtual v) h = go (within (plain 12) (total v)) (within (twos 20) (total v))
    where
      pick : Option Helper × Address → Address
      pick p = p.1

      go : (a b : Bool) → NotConstant (pick (cond a (None, bxd12 v.base (int_reg zero_reg) (total v) v.flags) (cond b (None, bxd20 v.base (int_reg zero_reg) (total v) v.flags) (Some (lgfi (int_reg C.temporary) (total v)), bxd12 v.base (int_reg C.temporary) (pos 0) v.flags))))
      go true b = tt
      go false true = tt
      go false false = tt

  loaded_address : (mi : MemInstType) (hs : Option Helper) (x : Address) → NotConstant x → NotConstant (loaded C mi hs x).1
  loaded_address mi hs x c = go (must_load mi x)
    where
      pick : Helpers × Address → Address
      pick p = p.1

      go : (b : Bool) → NotConstant (pick (cond b (also hs (load_address (int_reg C.temporary) x), bxd12 (int_reg C.temporary) (int_reg zero_reg) (pos 0) (flags_of x)) (only hs, x)))
      go true = tt
      go false = c

  widened_address : (mi : MemInstType) (x : Address) → NotConstant x → NotConstant (widened mi x)
  widened_address mi (bxd12 b x d fl) c = go mi.have_d12
    where
      go : (k : Bool) → NotConstant (cond k (bxd12 b x d fl) (bxd20 b x d fl))
      go true = tt
      go false = tt
  widened_address mi (bxd20 b x d fl) c = tt
  widened_address mi (label l) c = tt
  widened_address mi (constant n) c = c
  widened_address mi (symbol n offset fl) c = tt

  -- One instruction.

  abbrev at_place : (Target → Option ℤ) → ℕ → Aimed → Placed
  at_place where_is at w = as_placed (filled where_is (record { place = at; instr = w.instr; aim = w.aim }))

  record Single (where_is : Target → Option ℤ) (ws : List Aimed) (x : Address) : Type 0 where
    w : Aimed
    only : ws ≡ w ∷ []
    reach : (at : ℕ) (load : ℤ) (g : Registers) → reached load g (at_place where_is at w) ≡ named where_is load g (real x)

  record Helping (where_is : Target → Option ℤ) (h : Helper) : Type 0 where
    w : Aimed
    only : helper_instr h ≡ w ∷ []
    runs : (at : ℕ) (load : ℤ) (g : Registers) → executed load (at_place where_is at w) g ≡ effect where_is load h g

  without : (g : Registers) (b x : ℕ) (d : ℤ) → x ≡ 0 → content g b +ℤ d ≡ content g b +ℤ content g x +ℤ d
  without g b x d e = rw e (omega (arith, ints))

  based_only : (g : Registers) (b x : ℕ) (d : ℤ) → (false ≡ true) ⊎ (x ≡ 0) → ◌≡◌ {A = Option ℤ} (Some (content g b +ℤ d)) (Some (content g b +ℤ content g x +ℤ d))
  based_only g b x d (inl e) = absurd (differ e refl)
  based_only g b x d (inr e) = ap {B = Option ℤ} (λ z. Some z) (without g b x d e)

  distance : (load p : ℤ) (at : ℕ) → load +ℤ pos at +ℤ (p -ℤ pos at) ≡ load +ℤ p
  distance load p at = omega (arith, ints)

  module _ (where_is : Target → Option ℤ) where
    single : (a : Access) (may_trap : Bool) (x : Address) → Suits (permitted a may_trap) x → AimFound where_is (target_of (real x)) → Single where_is (access_instr a x) x
    single (Mem rd None rxy ril) t (bxd12 b x d fl) s f = absurd (differ s.0 refl)
    single (Mem rd (Some o) rxy ril) t (bxd12 b x d fl) s f = record { w = _; only = refl; reach = λ at load g. refl }
    single (Mem rd rx None ril) t (bxd20 b x d fl) s f = absurd (differ s.0 refl)
    single (Mem rd rx (Some o) ril) t (bxd20 b x d fl) s f = record { w = _; only = refl; reach = λ at load g. refl }
    single (Mem rd rx rxy None) t (label l) s f = absurd (differ s refl)
    single (Mem rd rx rxy (Some o)) t (label l) s f =
        record { w = _; only = refl; reach = λ at load g. rw f.1 (ap {B = Option ℤ} (λ z. Some z) (distance load f.0 at)) }
    single (Mem rd rx rxy ril) t (constant c) s f = absurd s
    single (Mem rd rx rxy None) t (symbol n offset fl) s f = absurd (differ s refl)
    single (Mem rd rx rxy (Some o)) t (symbol n offset fl) s f =
        record { w = _; only = refl; reach = λ at load g. rw f.1 (ap {B = Option ℤ} (λ z. Some z) (distance load f.0 at)) }
    single (MemRs rd rn None rsy) t (bxd12 b x d fl) s f = absurd (differ s.0 refl)
    single (MemRs rd rn (Some o) rsy) t (bxd12 b x d fl) s f = record { w = _; only = refl; reach = λ at load g. based_only g b.number x.number d s.1 }
    single (MemRs rd rn rs None) t (bxd20 b x d fl) s f = absurd (differ s.0 refl)
    single (MemRs rd rn rs (Some o)) t (bxd20 b x d fl) s f = record { w = _; only = refl; reach = λ at load g. based_only g b.number x.number d s.1 }
    single (MemRs rd rn rs rsy) t (label l) s f = absurd (differ s refl)
    single (MemRs rd rn rs rsy) t (constant c) s f = absurd s
    single (MemRs rd rn rs rsy) t (symbol n offset fl) s f = absurd (differ s refl)
    single (MemImm8 imm si siy) t (bxd12 b x d fl) s f = record { w = _; only = refl; reach = λ at load g. based_only g b.number x.number d s.1 }
    single (MemImm8 imm si siy) t (bxd20 b x d fl) s f = record { w = _; only = refl; reach = λ at load g. based_only g b.number x.number d s.1 }
    single (MemImm8 imm si siy) t (label l) s f = absurd (differ s refl)
    single (MemImm8 imm si siy) t (constant c) s f = absurd s
    single (MemImm8 imm si siy) t (symbol n offset fl) s f = absurd (differ s refl)
    single (MemImm16 imm sil) t (bxd12 b x d fl) s f = record { w = _; only = refl; reach = λ at load g. based_only g b.number x.number d s.1 }
    single (MemImm16 imm sil) t (bxd20 b x d fl) s f = absurd (differ s.0 refl)
    single (MemImm16 imm sil) t (label l) s f = absurd (differ s refl)
    single (MemImm16 imm sil) t (constant c) s f = absurd s
    single (MemImm16 imm sil) t (symbol n offset fl) s f = absurd (differ s refl)
    single (MemVrx rd opcode m3) t (bxd12 b x d fl) s f = record { w = _; only = refl; reach = λ at load g. refl }
    single (MemVrx rd opcode m3) t (bxd20 b x d fl) s f = absurd (differ s.0 refl)
    single (MemVrx rd opcode m3) t (label l) s f = absurd (differ s refl)
    single (MemVrx rd opcode m3) t (constant c) s f = absurd s
    single (MemVrx rd opcode m3) t (symbol n offset fl) s f = absurd (differ s refl)

    abbrev Runs : Helper → Type 0
    Runs (lgfi rd n) = within (twos 32) n ≡ true
    Runs (load_address rd a) = NotConstant a × AimFound where_is (target_of (real a))

    helping_one : (h : Helper) → Runs h → Helping where_is h
    helping_one (lgfi rd n) r = record { w = _; only = refl; runs = λ at load g. ap {B = Option Registers} (λ z. Some (set_register g rd.number z)) (signed_again n r) }
    helping_one (load_address rd (bxd12 b x d fl)) r = record { w = _; only = refl; runs = λ at load g. refl }
    helping_one (load_address rd (bxd20 b x d fl)) r = record { w = _; only = refl; runs = λ at load g. refl }
    helping_one (load_address rd (label l)) r =
        record { w = _; only = refl; runs = λ at load g. rw r.1.1 (ap {B = Option Registers} (λ z. Some (set_register g rd.number z)) (distance load r.1.0 at)) }
    helping_one (load_address rd (constant c)) r = absurd r.0
    helping_one (load_address rd (symbol n offset fl)) r =
        record { w = _; only = refl; runs = λ at load g. rw r.1.1 (ap {B = Option Registers} (λ z. Some (set_register g rd.number z)) (distance load r.1.0 at)) }

    -- the helpers of a plan can be run, and the address that is left has no other target
    abbrev RunsPlan : List Helper × Address → Type 0
    RunsPlan p = AllByRecursion Runs p.0 × AimFound where_is (target_of (real p.1))

    resolved_runs : (md : Mode) → AimFound where_is (target_of md) → too_far md ≡ false → RunsPlan (first_listed (resolved C md))
    resolved_runs (real a) f h = (tt, f)
    resolved_runs (virtual v) f h = go (within (plain 12) (total v)) (within (twos 20) (total v))
      where
        go : (a b : Bool) → RunsPlan (first_listed (cond a (None, bxd12 v.base (int_reg zero_reg) (total v) v.flags) (cond b (None, bxd20 v.base (int_reg zero_reg) (total v) v.flags) (Some (lgfi (int_reg C.temporary) (total v)), bxd12 v.base (int_reg C.temporary) (pos 0) v.flags))))
        go true b = (tt, tt)
        go false true = (tt, tt)
        go false false = ((not-false (within (twos 32) (total v)) h, tt), tt)

    loaded_runs : (mi : MemInstType) (hs : Option Helper) (x : Address) → NotConstant x → RunsPlan (list_of (only hs), x) → RunsPlan (all_listed (loaded C mi hs x))
    loaded_runs mi hs x c r = go (must_load mi x)
      where
        go : (b : Bool) → RunsPlan (all_listed (cond b (also hs (load_address (int_reg C.temporary) x), bxd12 (int_reg C.temporary) (int_reg zero_reg) (pos 0) (flags_of x)) (only hs, x)))
        go true = (subst (AllByRecursion Runs) (sym (also_listed hs (load_address (int_reg C.temporary) x))) (all_append Runs (list_of (only hs)) (load_address (int_reg C.temporary) x ∷ []) r.0 ((c, r.1), tt)), tt)
        go false = r

    widened_found : (mi : MemInstType) (x : Address) → AimFound where_is (target_of (real x)) → AimFound where_is (target_of (real (widened mi x)))
    widened_found mi (bxd12 b x d fl) f = go mi.have_d12
      where
        go : (c : Bool) → AimFound where_is (target_of (real (cond c (bxd12 b x d fl) (bxd20 b x d fl))))
        go true = tt
        go false = tt
    widened_found mi (bxd20 b x d fl) f = f
    widened_found mi (label l) f = f
    widened_found mi (constant c) f = f
    widened_found mi (symbol n offset fl) f = f

    -- The target is among the aims of what is written.

    label_aim : (a : Access) (may_trap : Bool) (l : ℕ) → (permitted a may_trap).have_pcrel ≡ true → AllByRecursion (λ w. AimFound where_is w.aim) (access_instr a (label l)) → AimFound where_is (Some (to_label l))
    label_aim (Mem rd rx rxy None) t l e h = absurd (differ e refl)
    label_aim (Mem rd rx rxy (Some o)) t l e h = h.0
    label_aim (MemRs rd rn rs rsy) t l e h = absurd (differ e refl)
    label_aim (MemImm8 imm si siy) t l e h = absurd (differ e refl)
    label_aim (MemImm16 imm sil) t l e h = absurd (differ e refl)
    label_aim (MemVrx rd opcode m3) t l e h = absurd (differ e refl)

    symbol_aim : (a : Access) (may_trap : Bool) (n : ℕ) (offset : ℤ) (fl : MachMemFlags) → (permitted a may_trap).have_pcrel ≡ true → AllByRecursion (λ w. AimFound where_is w.aim) (access_instr a (symbol n offset fl)) → AimFound where_is (Some (to_symbol n offset))
    symbol_aim (Mem rd rx rxy None) t n offset fl e h = absurd (differ e refl)
    symbol_aim (Mem rd rx rxy (Some o)) t n offset fl e h = h.0
    symbol_aim (MemRs rd rn rs rsy) t n offset fl e h = absurd (differ e refl)
    symbol_aim (MemImm8 imm si siy) t n offset fl e h = absurd (differ e refl)
    symbol_aim (MemImm16 imm sil) t n offset fl e h = absurd (differ e refl)
    symbol_aim (MemVrx rd opcode m3) t n offset fl e h = absurd (differ e refl)

    -- what is written by a plan
    abbrev planned : Access → MemInstType → List Helper × Address → List Aimed
    planned a mi p = helper_instrs p.0 ++ access_instr a (widened mi p.1)

    found : (a : Access) (may_trap : Bool) (md : Mode) → AllByRecursion (λ w. AimFound where_is w.aim) (planned a (permitted a may_trap) (all_listed (loaded C (permitted a may_trap) (resolved C md).0 (resolved C md).1))) → AimFound where_is (target_of md)
    found a t (real (bxd12 b x d fl)) h = tt
    found a t (real (bxd20 b x d fl)) h = tt
    found a t (real (label l)) h = go (must_load (permitted a t) (label l)) refl h
      where
        go : (b : Bool) → must_load (permitted a t) (label l) ≡ b → AllByRecursion (λ w. AimFound where_is w.aim) (planned a (permitted a t) (all_listed (cond b (one_helper (load_address (int_reg C.temporary) (label l)), bxd12 (int_reg C.temporary) (int_reg zero_reg) (pos 0) (flags_of (label l))) (no_helper, label l)))) → AimFound where_is (Some (to_label l))
        go true e h = h.0
        go false e h = label_aim a t l (nearly (permitted a t) (label l) e) h
    found a t (real (constant c)) h = tt
    found a t (real (symbol n offset fl)) h = go (must_load (permitted a t) (symbol n offset fl)) refl h
      where
        go : (b : Bool) → must_load (permitted a t) (symbol n offset fl) ≡ b → AllByRecursion (λ w. AimFound where_is w.aim) (planned a (permitted a t) (all_listed (cond b (one_helper (load_address (int_reg C.temporary) (symbol n offset fl)), bxd12 (int_reg C.temporary) (int_reg zero_reg) (pos 0) (flags_of (symbol n offset fl))) (no_helper, symbol n offset fl)))) → AimFound where_is (Some (to_symbol n offset))
        go true e h = h.0
        go false e h = symbol_aim a t n offset fl (and_parts (permitted a t).have_pcrel ((permitted a t).have_unaligned_pcrel || fl.aligned) (nearly (permitted a t) (symbol n offset fl) e)).0 h
    found a t (virtual v) h = tt

    -- The helpers run one after another.

    abbrev all_placed : List Item → List Placed
    all_placed its = map as_placed (map (filled where_is) its)

    record Ran (hs : List Helper) (at : ℕ) (ws : List Aimed) : Type 0 where
      ps : List Placed
      past : ℕ
      split : all_placed (placed_from at (helper_instrs hs ++ ws)) ≡ ps ++ all_placed (placed_from past ws)
      runs : (load : ℤ) (g : Registers) → run load ps g ≡ effects where_is load hs g

    then_same : (f k : Registers → Option Registers) → ((g : Registers) → f g ≡ k g) → (o : Option Registers) → then_run f o ≡ then_run k o
    then_same f k h None = refl
    then_same f k h (Some g) = h g

    ran : (hs : List Helper) → AllByRecursion Runs hs → (at : ℕ) (ws : List Aimed) → Ran hs at ws
    ran [] r at ws = record { ps = []; past = at; split = refl; runs = λ load g. refl }
    ran (h ∷ hs) r at ws =
        let s = helping_one h r.0 in
        let k = ran hs r.1 (at + size s.w.instr.form) ws in
        record {
          ps = at_place where_is at s.w ∷ k.ps;
          past = k.past;
          split = ap (λ (x : List Aimed). all_placed (placed_from at ((x ++ helper_instrs hs) ++ ws))) s.only ∙ ap {B = List Placed} (λ x. at_place where_is at s.w ∷ x) k.split;
          runs = λ load g. ap (then_run (run load k.ps)) (s.runs at load g) ∙ then_same (run load k.ps) (effects where_is load hs) (k.runs load) (effect where_is load h g);
        }

  -- from the tests that matter
  pub reaches_if : (a : Access) (may_trap : Bool) (m : MemArg) (fr : Frame) → is_constant (mode C fr m) ≡ false → needs_its_base C (mode C fr m) ≡ false → too_far (mode C fr m) ≡ false
      → lacks_form (permitted a may_trap) (finalize C (permitted a may_trap) fr m).1 ≡ false → Reaching C (mode C fr m) (plan C a may_trap m fr).items
  reaches_if a may_trap m fr c n near form where_is f from =
      let mi = permitted a may_trap in
      let md = mode C fr m in
      let hs = (resolved C md).0 in
      let x = (resolved C md).1 in
      let nc = resolved_address md c in
      let r = loaded_runs where_is mi hs x nc (resolved_runs where_is md f near) in
      let fits = suits mi (finalize C mi fr m).1 (widened_address mi (loaded C mi hs x).1 (loaded_address mi hs x nc)) (finalize_permits C mi fr m form) in
      let one = single where_is a may_trap (finalize C mi fr m).1 fits (widened_found where_is mi (loaded C mi hs x).1 r.1) in
      let k = ran where_is (list_of (finalize C mi fr m).0) r.0 from (access_instr a (finalize C mi fr m).1) in
      record {
        helpers = k.ps;
        access = at_place where_is k.past one.w;
        all_of_them = k.split ∙ ap (λ (ws : List Aimed). k.ps ++ map as_placed (map (filled where_is) (placed_from k.past ws))) one.only;
        from = λ load g.
            let z = named_mode where_is md f c load g in
            let p = finalize_leads C lc where_is load g mi fr m z.0 z.1 n in
            record {
              after = p.after;
              runs = k.runs load g ∙ p.runs;
              there = p.there;
              reaches = one.reach k.past load p.after ∙ p.reaches;
              address = z.0;
              names = z.1;
              same = p.same;
              others = p.others;
            };
      }

  -- the target is found if each aim of what is written is
  pub target_found : (where_is : Target → Option ℤ) (a : Access) (may_trap : Bool) (m : MemArg) (fr : Frame) → AllByRecursion (λ w. AimFound where_is w.aim) (plan C a may_trap m fr).items → AimFound where_is (target_of (mode C fr m))
  target_found where_is a may_trap m fr aims = found where_is a may_trap (mode C fr m) aims

  found_there : (o : Option Target) → AimFound (λ t. Some (pos 0)) o
  found_there None = tt
  found_there (Some t) = (pos 0, refl)

  -- the access itself is one instruction
  pub one_access : (a : Access) (may_trap : Bool) (m : MemArg) (fr : Frame) → is_constant (mode C fr m) ≡ false → lacks_form (permitted a may_trap) (finalize C (permitted a may_trap) fr m).1 ≡ false
      → (w : Aimed) × (access_instr a (finalize C (permitted a may_trap) fr m).1 ≡ w ∷ [])
  one_access a may_trap m fr c form =
      let mi = permitted a may_trap in
      let r = resolved C (mode C fr m) in
      let nc = widened_address mi (loaded C mi r.0 r.1).1 (loaded_address mi r.0 r.1 (resolved_address (mode C fr m) c)) in
      let one = single (λ t. Some (pos 0)) a may_trap (finalize C mi fr m).1 (suits mi (finalize C mi fr m).1 nc (finalize_permits C mi fr m form)) (found_there (target_of (real (finalize C mi fr m).1))) in
      (one.w, one.only)

pub accesses_reach : AccessesReach
accesses_reach C lc a may_trap m fr lost ok =
    let p = plan C a may_trap m fr in
    let t = none_refused (address_checks C p ++ why.Label when lost ∷ target_checks p) ok in
    let u = t.1.1.1 in
    reaches_if C lc a may_trap m fr u.1.1.1.1.0 t.1.1.0 u.0 u.1.0
