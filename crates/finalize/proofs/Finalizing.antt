-- Lemmas on finalizing.
use Rattle.std.proofs.Common.{◌≡◌, ◌^◌, ◌<◌, Bool, true, false, cond, leb, List, [], ◌∷◌, ◌++◌, ℤ, pos, Some, None, Ok, Err, Option, Result, refl, ap, ◌∙◌, arith, w64, SFits}
use Rattle.std.proofs.lemmas.Int.{ints}
use Rattle.std.proofs.lemmas.Bool.Decides.{nat_tests}
use Rattle.std.specs.Option.{SomeIff}
use Rattle.std.specs.Result.{MatchResult, IfOk, IsErrAnd}
use Rattle.std.proofs.lemmas.Result.{err_from_is_err_and}
use Rattle.refusal.specs.declared.Reason.{Reason}
use Rattle.refusal.specs.Numbers.{within, twos}
use Rattle.refusal.specs.declared.Refusal.{Refusal}
use Rattle.refusal.specs.Refusals.{first_refusal, answered, when_some, refused_at, answer}
use Rattle.operand.specs.declared.reg.Reg.{Reg}
use Rattle.address.specs.declared.args.MachMemFlags.{MachMemFlags}
use Rattle.address.specs.declared.args.MemArg.{MemArg}
use Rattle.address.specs.declared.args.MemArg.TheVariants.{BXD12, BXD20, Label, Constant, Symbol, RegOffset, InitialSPOffset, IncomingArgOffset, OutgoingArgOffset, SlotOffset, SpillOffset}
use Rattle.address.specs.declared.args.MemInstType.{MemInstType}
use Rattle.address.specs.declared.args.Offset.{Offset}
use Rattle.address.specs.declared.args.Helper as args
use Rattle.address.specs.declared.args.Helper.TheVariants.{LoadAddr}
use Rattle.address.specs.declared.args.Helpers as pair
use Rattle.address.specs.declared.frame.Frame as frame
use Rattle.address.specs.Convention.{zero_reg, int_reg, Convention, standard}
use Rattle.address.specs.Address.{Address, bxd12, bxd20, label, constant, symbol, Mode, real, virtual, mode, total, frame_overflows, Helper, load_address, Helpers, only, also, must_load, flags_of, flags_in, resolved, loaded, widened, finalize, finalize_refusal, finalize_answer, displaced, mode_checks, form_checks}
use Rattle.address_law.proofs.Leading.{finalizing_stands}
use Rattle.finalize.specs.Answers.{Stands}
use Rattle.address.specs.Held.{when_ok, held, helper_of, helpers_in, both, answer_in, offset_of}
use Rattle.finalize.specs.Steps.{first_in, part_in, joined_in, resolve_answer, load_answer, widen_answer, steps_refusal, steps_answer}

-- The sum of an offset.

fits_twos : (z : ℤ) → SFits w64 z → within (twos 64) z ≡ true
fits_twos z h = grind (arith, ints)

twos_fits : (z : ℤ) → within (twos 64) z ≡ true → SFits w64 z
twos_fits z h = grind (arith, ints)

pub sum_is : (v : Offset) (z : ℤ) (r : Option ℤ) → v.sizes < 2 ^ 32 → z ≡ total v → SomeIff r (SFits w64 z) z → r ≡ cond (frame_overflows (virtual v)) None (Some (total v))
sum_is v z None small e h =
    let n : within (twos 64) (total v) ≡ true → ⊥ = λ t. h (rw e (twos_fits (total v) t)) in
    grind (arith, nat_tests)
sum_is v z (Some x) small e h =
    let y : within (twos 64) (total v) ≡ true = fits_twos (total v) (rw e at h.0) in
    let f : leb (2 ^ 32) v.sizes ≡ false = grind (arith, nat_tests) in
    rw (f, y, h.1, e)

pub resolve_some : (C : Convention) (md : Mode) (v : Offset) (x : Result (Option (Option Helper × Address)) Reason) → offset_of md ≡ Some v → x ≡ resolve_answer C (virtual v) → x ≡ resolve_answer C md
resolve_some C (real a) v x e h = cc
resolve_some C (virtual w) v x e h = let s : w ≡ v = cc in rw s h

-- Loading.

joined_only : (first : Option args.Helper) → joined_in first None ≡ when_some only (first_in first)
joined_only None = refl
joined_only (Some h) = go (helper_of h)
  where
    go : (o : Option Helper) → when_some (λ k. only (Some k)) o ≡ when_some only (when_some (λ k. Some k) o)
    go None = refl
    go (Some k) = refl

joined_also : (first : Option args.Helper) (rd : Reg) (mem : MemArg) → joined_in first (Some (LoadAddr rd mem)) ≡ both (λ h a. also h (load_address rd a)) (first_in first) (held mem)
joined_also None rd mem = go (held mem)
  where
    go : (o : Option Address) → when_some only (when_some (λ k. Some k) (when_some (load_address rd) o)) ≡ when_some (λ a. also None (load_address rd a)) o
    go None = refl
    go (Some a) = refl
joined_also (Some h) rd mem = go (helper_of h) (held mem)
  where
    go : (u : Option Helper) (o : Option Address) → both (λ k l. also (Some k) l) u (when_some (load_address rd) o) ≡ both (λ h a. also h (load_address rd a)) (when_some (λ k. Some k) u) o
    go None o = refl
    go (Some k) None = refl
    go (Some k) (Some a) = refl

flags_held : (mem : MemArg) (fr : frame.Frame) (a : Address) → held mem ≡ Some a → flags_in (mode standard fr mem) ≡ flags_of a
flags_held (BXD12 b x d fl) fr a e = cc
flags_held (BXD20 b x d fl) fr a e = cc
flags_held (Label l) fr a e = cc
flags_held (Constant l) fr a e = cc
flags_held (Symbol n o fl) fr a e = cc
flags_held (RegOffset r o fl) fr a e = cc
flags_held (InitialSPOffset o) fr a e = cc
flags_held (IncomingArgOffset o) fr a e = cc
flags_held (OutgoingArgOffset o) fr a e = cc
flags_held (SlotOffset o) fr a e = cc
flags_held (SpillOffset o) fr a e = cc

then_value : {X : Type 0} (f : Address → X) (x : X) (a : Address) → when_some f (Some a) ≡ when_some (λ _. x) (Some a) → f a ≡ x
then_value f x a e = cc

load_kept : (mi : MemInstType) (fs : Option (Option Helper)) (o : Option Address) → when_some (must_load mi) o ≡ when_some (λ _. false) o
    → both (λ hs a. (hs, a)) (when_some only fs) o ≡ load_answer standard mi (both (λ h a. (h, a)) fs o)
load_kept mi None o e = refl
load_kept mi (Some h) None e = refl
load_kept mi (Some h) (Some a) e = rw (then_value (must_load mi) false a e)

load_taken : (mi : MemInstType) (fs : Option (Option Helper)) (o : Option Address) (fl : MachMemFlags) → when_some (must_load mi) o ≡ when_some (λ _. true) o → ((a : Address) → o ≡ Some a → fl ≡ flags_of a)
    → both (λ hs a. (hs, a)) (both (λ h a. also h (load_address (int_reg standard.temporary) a)) fs o) (Some (bxd12 (int_reg standard.temporary) (int_reg zero_reg) (pos 0) fl))
    ≡ load_answer standard mi (both (λ h a. (h, a)) fs o)
load_taken mi None o fl e k = refl
load_taken mi (Some h) None fl e k = refl
load_taken mi (Some h) (Some a) fl e k = rw (then_value (must_load mi) true a e, k a refl)

abbrev needs : MemInstType → MemArg → Bool → Type 0
needs mi mem b = when_some (must_load mi) (held mem) ≡ when_some (λ _. b) (held mem)

pub load_not : (mi : MemInstType) (first : Option args.Helper) (mem : MemArg) (out : pair.Helpers) → helpers_in out.first out.second ≡ joined_in first None → needs mi mem false
    → answer_in (out, mem) ≡ load_answer standard mi (part_in (first, mem))
load_not mi first mem out h n = ap (λ x. both (λ hs a. (hs, a)) x (held mem)) (h ∙ joined_only first) ∙ load_kept mi (first_in first) (held mem) n

pub load_done : (mi : MemInstType) (first : Option args.Helper) (mem left : MemArg) (rd : Reg) (fl : MachMemFlags) (out : pair.Helpers) (fr : frame.Frame) → rd ≡ int_reg standard.temporary
    → helpers_in out.first out.second ≡ joined_in first (Some (LoadAddr rd mem)) → held left ≡ Some (bxd12 rd (int_reg zero_reg) (pos 0) fl) → fl ≡ flags_in (mode standard fr mem) → needs mi mem true
    → answer_in (out, left) ≡ load_answer standard mi (part_in (first, mem))
load_done mi first mem left rd fl out fr t h l f n =
    ap (λ x. both (λ hs a. (hs, a)) x (held left)) (h ∙ joined_also first rd mem)
    ∙ ap (λ x. both (λ hs a. (hs, a)) (both (λ h a. also h (load_address rd a)) (first_in first) (held mem)) x) l
    ∙ ap (λ r. both (λ hs a. (hs, a)) (both (λ h a. also h (load_address r a)) (first_in first) (held mem)) (Some (bxd12 r (int_reg zero_reg) (pos 0) fl))) t
    ∙ load_taken mi (first_in first) (held mem) fl n (λ a e. f ∙ flags_held mem fr a e)

-- The steps together.

pub answered_ok : {X E : Type 0} (p : Option E) (x y : X) → Ok y ≡ answered p x → (p ≡ None) × (y ≡ x)
answered_ok None x y h = (refl, cc)
answered_ok (Some r) x y h = cc

pub answered_err : {X E : Type 0} (p : Option E) (x : X) (e : E) → Err e ≡ answered p x → p ≡ Some e
answered_err None x e h = cc
answered_err (Some r) x e h = cc

abbrev pub or_else : Option Reason → Option Reason → Option Reason
or_else None q = q
or_else (Some r) q = Some r

pub refusal_append : (xs ys : List (Reason × Bool)) → first_refusal (xs ++ ys) ≡ or_else (first_refusal xs) (first_refusal ys)
refusal_append [] ys = refl
refusal_append (x ∷ xs) ys = go x.1 (refusal_append xs ys)
  where
    go : (b : Bool) → first_refusal (xs ++ ys) ≡ or_else (first_refusal xs) (first_refusal ys) → cond b (Some x.0) (first_refusal (xs ++ ys)) ≡ or_else (cond b (Some x.0) (first_refusal xs)) (first_refusal ys)
    go true h = refl
    go false h = h

pub displaced_widened : (mi : MemInstType) (a : Address) → displaced (widened mi a) ≡ displaced a
displaced_widened mi (bxd12 b x d f) = go mi.have_d12
  where
    go : (v : Bool) → displaced (cond v (bxd12 b x d f) (bxd20 b x d f)) ≡ true
    go true = refl
    go false = refl
displaced_widened mi (bxd20 b x d f) = refl
displaced_widened mi (label l) = refl
displaced_widened mi (constant l) = refl
displaced_widened mi (symbol n o f) = refl

form_widened : (mi : MemInstType) (a : Address) → first_refusal (form_checks mi (widened mi a)) ≡ first_refusal (form_checks mi a)
form_widened mi a = rw (displaced_widened mi a)

-- what is left of an address after two steps
abbrev left : Convention → MemInstType → frame.Frame → MemArg → Helpers × Address
left C mi fr m = loaded C mi (resolved C (mode C fr m)).0 (resolved C (mode C fr m)).1

steps_split : (C : Convention) (mi : MemInstType) (fr : frame.Frame) (m : MemArg) → steps_refusal C mi fr m ≡ or_else (first_refusal (mode_checks C (mode C fr m))) (first_refusal (form_checks mi (left C mi fr m).1))
steps_split C mi fr m = refusal_append (mode_checks C (mode C fr m)) (form_checks mi (finalize C mi fr m).1) ∙ ap (or_else (first_refusal (mode_checks C (mode C fr m)))) (form_widened mi (left C mi fr m).1)

pub steps_first : {Y : Type 0} (C : Convention) (mi : MemInstType) (fr : frame.Frame) (m : MemArg) (e : Reason) (y : Y) → Err e ≡ resolve_answer C (mode C fr m) → Err e ≡ answered (steps_refusal C mi fr m) y
steps_first C mi fr m e y h = rw (steps_split C mi fr m, answered_err (first_refusal (mode_checks C (mode C fr m))) _ e h)

pub both_some : (u : Option Helpers) (o : Option Address) (x : Helpers × Address) → both (λ hs a. (hs, a)) u o ≡ Some x → (u ≡ Some x.0) × (o ≡ Some x.1)
both_some None o x e = cc
both_some (Some hs) None x e = cc
both_some (Some hs) (Some a) x e = let p : (hs, a) ≡ x = cc in (ap {B = Option Helpers} (λ q. Some q.0) p, ap {B = Option Address} (λ q. Some q.1) p)

module _ (C : Convention) (mi : MemInstType) (fr : frame.Frame) (m : MemArg) (first : Option args.Helper) (mem mem' : MemArg) (out : pair.Helpers) where
  record Twice : Type 0 where
    free : first_refusal (mode_checks C (mode C fr m)) ≡ None
    helpers : helpers_in out.first out.second ≡ Some (left C mi fr m).0
    address : held mem' ≡ Some (left C mi fr m).1

  twice : Ok (part_in (first, mem)) ≡ resolve_answer C (mode C fr m) → answer_in (out, mem') ≡ load_answer C mi (part_in (first, mem)) → Twice
  twice h k =
      let p = answered_ok (first_refusal (mode_checks C (mode C fr m))) _ _ h in
      let q = both_some (helpers_in out.first out.second) (held mem') (left C mi fr m) (k ∙ ap (load_answer C mi) p.1) in
      record { free = p.0; helpers = q.0; address = q.1 }

  pub steps_last : {Y : Type 0} (e : Reason) (y : Y) → Ok (part_in (first, mem)) ≡ resolve_answer C (mode C fr m) → answer_in (out, mem') ≡ load_answer C mi (part_in (first, mem))
      → Err e ≡ widen_answer mi (held mem') → Err e ≡ answered (steps_refusal C mi fr m) y
  steps_last e y h k w =
      let t = twice h k in
      let q = answered_err (first_refusal (form_checks mi (left C mi fr m).1)) _ e (w ∙ ap (widen_answer mi) t.address) in
      rw (steps_split C mi fr m, t.free, q)

  pub steps_done : (last : MemArg) → Ok (part_in (first, mem)) ≡ resolve_answer C (mode C fr m) → answer_in (out, mem') ≡ load_answer C mi (part_in (first, mem))
      → Ok (held last) ≡ widen_answer mi (held mem') → Ok (answer_in (out, last)) ≡ steps_answer C mi fr m
  steps_done last h k w =
      let t = twice h k in
      let q = answered_ok (first_refusal (form_checks mi (left C mi fr m).1)) _ _ (w ∙ ap (widen_answer mi) t.address) in
      rw (steps_split C mi fr m, t.free, q.0, t.helpers, q.1)

-- An answer with its place.

abbrev pub placed : {X : Type 0} → Result X Reason → Result X Refusal
placed (Ok x) = Ok x
placed (Err e) = Err (refused_at 0 e)

pub placed_by : {X : Type 0} (P : Reason → Refusal → Type 0) (r : Result X Reason) (out : Result X Refusal) → ((e : Reason) (q : Refusal) → P e q → q ≡ refused_at 0 e)
    → MatchResult r (λ x. out ≡ Ok x) (λ e. IsErrAnd out (P e)) → out ≡ placed r
placed_by P (Ok x) out k h = h
placed_by P (Err e) out k h = let p = err_from_is_err_and out h in p.1 ∙ ap Err (k e p.0 p.2)

placed_answer : {X Y : Type 0} (f : X → Option Y) (p : Option Reason) (y : Y) (r : Result X Reason) → when_ok f r ≡ answered p (Some y) → when_ok f (placed r) ≡ when_ok (λ y. Some y) (answer 0 p y)
placed_answer f None y (Ok x) h = cc
placed_answer f None y (Err e) h = cc
placed_answer f (Some q) y (Ok x) h = cc
placed_answer f (Some q) y (Err e) h = let s : e ≡ q = cc in rw s

module _ (mi : MemInstType) (fr : frame.Frame) (m : MemArg) where
  pub answer_placed : (r : Result (pair.Helpers × MemArg) Reason) → when_ok answer_in r ≡ answered (finalize_refusal standard mi fr m) (Some (finalize standard mi fr m))
      → when_ok answer_in (placed r) ≡ when_ok (λ y. Some y) (finalize_answer standard mi fr m)
  answer_placed r h = placed_answer answer_in (finalize_refusal standard mi fr m) (finalize standard mi fr m) r h

  pub answer_stands : (r : Result (pair.Helpers × MemArg) Reason) → when_ok answer_in r ≡ answered (finalize_refusal standard mi fr m) (Some (finalize standard mi fr m))
      → IfOk (placed r) (λ p. Stands standard mi (mode standard fr m) p)
  answer_stands (Ok x) h =
      let p = answered_ok (finalize_refusal standard mi fr m) _ _ h in
      record { helpers = (finalize standard mi fr m).0; left = (finalize standard mi fr m).1; are = p.1; stands = finalizing_stands standard refl mi fr m p.0 }
  answer_stands (Err e) h = tt
