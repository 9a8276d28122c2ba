-- Lemmas on planning an access.
use Rattle.std.proofs.Common.{◌≡◌, Bool, true, false, cond, not, ◌||◌, List, [], ◌∷◌, ◌++◌, pos, Some, None, Ok, Err, Option, sym, refl, ap, ◌∙◌, subst, append-nil}
use Rattle.std.specs.Option.{MatchOption}
use Rattle.refusal.specs.declared.Reason.{Reason}
use Rattle.refusal.specs.declared.Reason.TheVariants as why
use Rattle.refusal.specs.Refusals.{first_refusal, answered, when_some, ◌when◌}
use Rattle.refusal.specs.Numbers.{plain, twos, within}
use Rattle.address.specs.declared.args.MemArg.{MemArg}
use Rattle.address.specs.declared.args.MemInstType.{MemInstType}
use Rattle.address.specs.declared.args.Helpers as pair
use Rattle.address.specs.declared.args.Helper as args
use Rattle.address.specs.declared.frame.Frame as frame
use Rattle.address.specs.declared.access.Access.{Access}
use Rattle.address.specs.declared.access.Aimed.{Aimed}
use Rattle.address.specs.Convention.{zero_reg, int_reg, standard}
use Rattle.address.specs.Address.{Address, bxd12, bxd20, lgfi, load_address, no_helper, one_helper, two_helpers, only, also, flags_of, Mode, real, virtual, mode, total, resolved, must_load, loaded, finalize, displaced, target_of, is_constant, Helper, Helpers, list_of, mode_checks, form_checks}
use Rattle.address.specs.Access.{permitted, access_instr, helper_instr, helper_instrs, odd_symbol, plan, planning_refusal, address_checks, target_checks}
use Rattle.address.specs.Held.{held, helper_of, helpers_in, both, answer_in, listed}
use Rattle.address_law.specs.Reaching.{Reaching}
use Rattle.address_law.proofs.Basics.{none_refused}
use Rattle.address_law.proofs.Reaching.{accesses_reach, one_access}
use Rattle.finalize.specs.Steps.{first_in, steps_refusal, steps_answer}
use Rattle.access.specs.Written.{stays_relative, access_at, helper_at, first_at}
use Rattle.finalize.proofs.Finalizing.{answered_ok, answered_err, or_else, refusal_append, displaced_widened, both_some}

-- An address stays relative.

displaced_loaded : (mi : MemInstType) (h : Option Helper) (a : Address) → displaced (loaded standard mi h a).1 ≡ (displaced a || must_load mi a)
displaced_loaded mi h a = go (must_load mi a) (displaced a) refl
  where
    pick : Helpers × Address → Address
    pick p = p.1

    go : (b d : Bool) → displaced a ≡ d → displaced (pick (cond b (also h (load_address (int_reg standard.temporary) a), bxd12 (int_reg standard.temporary) (int_reg zero_reg) (pos 0) (flags_of a)) (only h, a))) ≡ (d || b)
    go true true e = refl
    go true false e = refl
    go false true e = e
    go false false e = e

resolved_displaced : (mi : MemInstType) (md : Mode) → (displaced (resolved standard md).1 || must_load mi (resolved standard md).1) ≡ not (stays_relative mi md)
resolved_displaced mi (real a) = go (displaced a || must_load mi a)
  where
    go : (b : Bool) → b ≡ not (not b)
    go true = refl
    go false = refl
resolved_displaced mi (virtual v) = go (within (plain 12) (total v)) (within (twos 20) (total v))
  where
    pick : Option Helper × Address → Address
    pick p = p.1

    either : Address → Bool
    either x = displaced x || must_load mi x

    go : (a b : Bool) → either (pick (cond a (None, bxd12 v.base (int_reg zero_reg) (total v) v.flags) (cond b (None, bxd20 v.base (int_reg zero_reg) (total v) v.flags) (Some (lgfi (int_reg standard.temporary) (total v)), bxd12 v.base (int_reg standard.temporary) (pos 0) v.flags)))) ≡ true
    go true b = refl
    go false true = refl
    go false false = refl

not_not : (b : Bool) → not (not b) ≡ b
not_not true = refl
not_not false = refl

pub relative_left : (mi : MemInstType) (fr : frame.Frame) (m : MemArg) → not (displaced (finalize standard mi fr m).1) ≡ stays_relative mi (mode standard fr m)
relative_left mi fr m =
    let r = resolved standard (mode standard fr m) in
    ap not (displaced_widened mi (loaded standard mi r.0 r.1).1 ∙ displaced_loaded mi r.0 r.1 ∙ resolved_displaced mi (mode standard fr m)) ∙ not_not (stays_relative mi (mode standard fr m))

-- What is written for helpers.

pub helped : (Q : args.Helper → Type 0) (o : Option args.Helper) (r : Option Aimed) → MatchOption o (r ≡ None) Q → ((h : args.Helper) → Q h → listed r ≡ helper_at (helper_of h)) → listed r ≡ first_at (first_in o)
helped Q None r m k = rw m
helped Q (Some h) r m k = k h m ∙ one (helper_of h)
  where
    one : (o : Option Helper) → helper_at o ≡ first_at (when_some (λ k. Some k) o)
    one None = refl
    one (Some k) = refl

helpers_written : (f s : Option args.Helper) (hs : Helpers) → helpers_in f s ≡ Some hs → first_at (first_in f) ++ first_at (first_in s) ≡ helper_instrs (list_of hs)
helpers_written None None hs e = let p : no_helper ≡ hs = cc in rw (sym p)
helpers_written None (Some k) hs e = cc
helpers_written (Some h) None hs e = go (helper_of h) e
  where
    go : (o : Option Helper) → when_some one_helper o ≡ Some hs → first_at (when_some (λ k. Some k) o) ++ [] ≡ helper_instrs (list_of hs)
    go None e = cc
    go (Some k) e = let p : one_helper k ≡ hs = cc in rw (sym p)
helpers_written (Some h) (Some k) hs e = go (helper_of h) (helper_of k) e
  where
    go : (o u : Option Helper) → both two_helpers o u ≡ Some hs → first_at (when_some (λ k. Some k) o) ++ first_at (when_some (λ k. Some k) u) ≡ helper_instrs (list_of hs)
    go None u e = cc
    go (Some x) None e = cc
    go (Some x) (Some y) e = let p : two_helpers x y ≡ hs = cc in rw (sym p) (ap (λ ws. helper_instr x ++ ws) (sym (append-nil (helper_instr y))))

-- The checks.

abbrev rest : Bool → Bool → Bool → Option Reason
rest lost odd const = cond lost (Some why.Label) (cond odd (Some why.Odd) (cond const (Some why.Constant) None))

module _ (a : Access) (t : Bool) (m : MemArg) (fr : frame.Frame) (lost : Bool) where
  abbrev here : Option Reason
  here = planning_refusal standard (plan standard a t m fr) lost

  abbrev later : Option Reason
  later = rest lost (odd_symbol (target_of (mode standard fr m))) (is_constant (mode standard fr m))

  split : (plan standard a t m fr).fits ≡ true → here ≡ or_else (steps_refusal standard (permitted a t) fr m) later
  split e =
      let mi = permitted a t in
      let go : cond (not (plan standard a t m fr).fits) (Some why.Operand) (first_refusal ((mode_checks standard (mode standard fr m) ++ form_checks mi (finalize standard mi fr m).1) ++ why.Label when lost ∷ target_checks (plan standard a t m fr))) ≡ or_else (steps_refusal standard mi fr m) later
      = rw e (refusal_append (mode_checks standard (mode standard fr m) ++ form_checks mi (finalize standard mi fr m).1) (why.Label when lost ∷ target_checks (plan standard a t m fr))) in
      go

  module _ (mi : MemInstType) (k : mi ≡ permitted a t) (e : (plan standard a t m fr).fits ≡ true) where
    steps_are : steps_answer standard mi fr m ≡ steps_answer standard (permitted a t) fr m
    steps_are = ap (λ i. steps_answer standard i fr m) k

    pub refused_before : {Y : Type 0} (r : Reason) (y : Y) → Err r ≡ steps_answer standard mi fr m → Err r ≡ answered here y
    refused_before r y h = rw (split e, answered_err (steps_refusal standard (permitted a t) fr m) _ r (h ∙ steps_are))

    module _ (w : Option (Helpers × Address)) (h : Ok w ≡ steps_answer standard mi fr m) where
      passed : here ≡ later
      passed = rw (split e, (answered_ok (steps_refusal standard (permitted a t) fr m) _ _ (h ∙ steps_are)).0)

      pub refused_lost : {Y : Type 0} (y : Y) → lost ≡ true → Err why.Label ≡ answered here y
      refused_lost y l = rw (passed, l)

      pub refused_odd : {Y : Type 0} (y : Y) → lost ≡ false → true ≡ odd_symbol (target_of (mode standard fr m)) → Err why.Odd ≡ answered here y
      refused_odd y l o = rw (passed, l, ← o)

      pub refused_constant : {Y : Type 0} (y : Y) → lost ≡ false → false ≡ odd_symbol (target_of (mode standard fr m)) → true ≡ is_constant (mode standard fr m) → Err why.Constant ≡ answered here y
      refused_constant y l o k = rw (passed, l, ← o, ← k)

      pub accepted : lost ≡ false → false ≡ odd_symbol (target_of (mode standard fr m)) → false ≡ is_constant (mode standard fr m) → Ok w ≡ answered here (Some (finalize standard (permitted a t) fr m))
      accepted l o k = rw (passed, l, ← o, ← k, (answered_ok (steps_refusal standard (permitted a t) fr m) _ _ (h ∙ steps_are)).1)

  -- What is written.

  pub plan_err : {Y Z : Type 0} (r : Reason) (y : Y) (z : Z) → Err r ≡ answered here z → Err r ≡ answered here y
  plan_err r y z h = rw (answered_err here z r h)

  module _ (hs : pair.Helpers) (left : MemArg) (ok : Ok (answer_in (hs, left)) ≡ answered here (Some (finalize standard (permitted a t) fr m))) where
    free : here ≡ None
    free = (answered_ok here _ _ ok).0

    parts : (helpers_in hs.first hs.second ≡ Some (finalize standard (permitted a t) fr m).0) × (held left ≡ Some (finalize standard (permitted a t) fr m).1)
    parts = both_some (helpers_in hs.first hs.second) (held left) (finalize standard (permitted a t) fr m) (answered_ok here _ _ ok).1

    pub plan_done : (first second : Option Aimed) (last : Aimed) → listed first ≡ first_at (first_in hs.first) → listed second ≡ first_at (first_in hs.second) → last ∷ [] ≡ access_at a (held left)
        → Ok ((listed first ++ listed second) ++ last ∷ []) ≡ answered here (plan standard a t m fr).items
    plan_done first second last f s l =
        let hw = helpers_written hs.first hs.second (finalize standard (permitted a t) fr m).0 parts.0 in
        let aw : last ∷ [] ≡ access_instr a (finalize standard (permitted a t) fr m).1 = l ∙ ap (access_at a) parts.1 in
        rw (free, f, s, hw, aw)

    pub plan_never : [] ≡ access_at a (held left) → ⊥
    plan_never l =
        let u = none_refused (address_checks standard (plan standard a t m fr) ++ why.Label when lost ∷ target_checks (plan standard a t m fr)) free in
        let one = one_access standard refl a t m fr u.1.1.1.1.1.1.1.0 u.1.1.1.1.0 in
        let c : [] ≡ one.0 ∷ [] = l ∙ ap (access_at a) parts.1 ∙ one.1 in
        cc

    pub plan_reaches : (ws : List Aimed) → Ok ws ≡ answered here (plan standard a t m fr).items → Reaching standard (mode standard fr m) ws
    plan_reaches ws w = subst (Reaching standard (mode standard fr m)) (sym (answered_ok here _ _ w).1) (accesses_reach standard refl a t m fr lost free)
