-- What finalizing leaves stands for the address.
use Rattle.std.proofs.Common.{◌≡◌, ℕ, Bool, true, false, cond, not, ◌&&◌, ◌||◌, eqb, ◌⊎◌, List, [], ◌∷◌, ◌++◌, ℤ, pos, ◌+ℤ◌, Some, None, Option, refl, ap, ◌∙◌, inl, inr, arith}
use Rattle.std.proofs.lemmas.Int.{ints}
use Rattle.std.proofs.lemmas.Bool.{and_cases, and_from, or_right, or_parts, not-false, eq-eqb, ne_eqb}
use Rattle.refusal.specs.declared.Reason.TheVariants as why
use Rattle.refusal.specs.Refusals.{when_some, ◌when◌}
use Rattle.refusal.specs.Numbers.{plain, twos, within}
use Rattle.book.specs.declared.target.Target.{Target}
use Rattle.address.specs.declared.args.MemArg.{MemArg}
use Rattle.address.specs.declared.args.MemInstType.{MemInstType}
use Rattle.address.specs.declared.frame.Frame.{Frame}
use Rattle.address.specs.Convention.{zero_reg, int_reg, Convention, lawful_convention}
use Rattle.address.specs.Address.{Address, bxd12, bxd20, label, constant, symbol, adjustment, total, Mode, real, virtual, mode, Helper, lgfi, load_address, Helpers, list_of, only, also, resolved, indexed, must_load, flags_of, loaded, widened, finalize, registers_fit, needs_its_base, displaced, lacks_form, mode_checks, form_checks}
use Rattle.address.specs.Machine.{Registers, word, content, set_register, named, then_run}
use Rattle.address_law.specs.Standing.{permits, effect, effects, LeadsTo, FinalizingStands}
use Rattle.address_law.proofs.Basics.{differ, same_some, none_refused}
use Rattle.address_law.proofs.Conventions.{convention_parts}
use Rattle.address_law.proofs.Words.{word_part}

-- The form that is left is permitted.

index_ok : (has x : Bool) → (not has && x) ≡ false → (has || not x) ≡ true
index_ok true x h = refl
index_ok false true h = absurd (differ refl h)
index_ok false false h = refl

symbol_ok : (p u a : Bool) → (not p || not u && not a) ≡ false → (p && (u || a)) ≡ true
symbol_ok false u a h = absurd (differ refl h)
symbol_ok true true a h = refl
symbol_ok true false a h = not-false a h

-- before a short displacement is widened
abbrev pub permits_nearly : MemInstType → Address → Bool
permits_nearly mi (bxd12 b x d fl) = mi.have_index || not (indexed x)
permits_nearly mi (bxd20 b x d fl) = permits mi (bxd20 b x d fl)
permits_nearly mi (label l) = permits mi (label l)
permits_nearly mi (constant c) = permits mi (constant c)
permits_nearly mi (symbol n offset fl) = permits mi (symbol n offset fl)

pub nearly : (mi : MemInstType) (x : Address) → must_load mi x ≡ false → permits_nearly mi x ≡ true
nearly mi (bxd12 b x d fl) h = index_ok mi.have_index (indexed x) h
nearly mi (bxd20 b x d fl) h =
    let p = or_parts (not mi.have_d20) (not mi.have_index && indexed x) h in
    and_from mi.have_d20 (mi.have_index || not (indexed x)) (not-false mi.have_d20 p.0) (index_ok mi.have_index (indexed x) p.1)
nearly mi (label l) h = not-false mi.have_pcrel h
nearly mi (constant n) h = not-false mi.have_pcrel h
nearly mi (symbol n offset fl) h = symbol_ok mi.have_pcrel mi.have_unaligned_pcrel fl.aligned h

loaded_nearly : (C : Convention) (mi : MemInstType) (hs : Option Helper) (x : Address) → permits_nearly mi (loaded C mi hs x).1 ≡ true
loaded_nearly C mi hs x = go (must_load mi x) refl
  where
    pick : Helpers × Address → Address
    pick p = p.1

    go : (b : Bool) → must_load mi x ≡ b → permits_nearly mi (pick (cond b (also hs (load_address (int_reg C.temporary) x), bxd12 (int_reg C.temporary) (int_reg zero_reg) (pos 0) (flags_of x)) (only hs, x))) ≡ true
    go true e = or_right mi.have_index true refl
    go false e = nearly mi x e

widened_permits : (mi : MemInstType) (x : Address) → permits_nearly mi x ≡ true → lacks_form mi (widened mi x) ≡ false → permits mi (widened mi x) ≡ true
widened_permits mi (bxd12 b x d fl) n h = go mi.have_d12 refl h
  where
    go : (c : Bool) → mi.have_d12 ≡ c → (displaced (cond c (bxd12 b x d fl) (bxd20 b x d fl)) && not (c || mi.have_d20)) ≡ false → permits mi (cond c (bxd12 b x d fl) (bxd20 b x d fl)) ≡ true
    go true e k = and_from mi.have_d12 (mi.have_index || not (indexed x)) e n
    go false e k = and_from mi.have_d20 (mi.have_index || not (indexed x)) (not-false mi.have_d20 k) n
widened_permits mi (bxd20 b x d fl) n h = n
widened_permits mi (label l) n h = n
widened_permits mi (constant c) n h = n
widened_permits mi (symbol k offset fl) n h = n

pub finalize_permits : (C : Convention) (mi : MemInstType) (fr : Frame) (m : MemArg) → lacks_form mi (finalize C mi fr m).1 ≡ false → permits mi (finalize C mi fr m).1 ≡ true
finalize_permits C mi fr m h =
    let r = resolved C (mode C fr m) in
    widened_permits mi (loaded C mi r.0 r.1).1 (loaded_nearly C mi r.0 r.1) h

-- The helpers lead to the place.

pub also_listed : (h : Option Helper) (k : Helper) → list_of (also h k) ≡ list_of (only h) ++ k ∷ []
also_listed None k = refl
also_listed (Some h) k = refl

module _ (C : Convention) (lc : lawful_convention C ≡ true) where
  content_other : (g : Registers) (z : ℤ) (r : ℕ) → eqb r C.temporary ≡ false → content (set_register g C.temporary z) r ≡ content g r
  content_other g z r e = rw e

  set_other : (g : Registers) (z : ℤ) (r : ℕ) → (r ≡ C.temporary → ⊥) → set_register g C.temporary z r ≡ g r
  set_other g z r h = rw (ne_eqb r C.temporary h)

  content_temporary : (g : Registers) (z : ℤ) → content (set_register g C.temporary z) C.temporary ≡ word z
  content_temporary g z = rw ((convention_parts C lc).temporary_some, eq-eqb C.temporary C.temporary refl)

  module _ (where_is : Target → Option ℤ) (load : ℤ) (g : Registers) where
    resolved_leads : (md : Mode) (z : ℤ) → named where_is load g md ≡ Some z → needs_its_base C md ≡ false → LeadsTo C where_is load g (list_of (only (resolved C md).0)) (resolved C md).1 z
    resolved_leads (real a) z h n = record { after = g; runs = refl; there = z; reaches = h; same = refl; others = λ r q. refl }
    resolved_leads (virtual v) z h n = go (within (plain 12) (total v)) (within (twos 20) (total v)) refl
      where
        is : content g v.base.number +ℤ v.off +ℤ adjustment v ≡ z
        is = same_some _ z h

        short : content g v.base.number +ℤ pos 0 +ℤ total v ≡ z
        short = let e : content g v.base.number +ℤ pos 0 +ℤ total v ≡ content g v.base.number +ℤ v.off +ℤ adjustment v = omega (arith, ints) in e ∙ is

        apart : within (twos 20) (total v) ≡ false → eqb v.base.number C.temporary ≡ false
        apart w = either (and_cases (eqb v.base.number C.temporary) (not (within (twos 20) (total v))) n)
          where
            either : (eqb v.base.number C.temporary ≡ false) ⊎ (not (within (twos 20) (total v)) ≡ false) → eqb v.base.number C.temporary ≡ false
            either (inl e) = e
            either (inr e) = absurd (differ (not-false (within (twos 20) (total v)) e) w)

        Leads : Option Helper × Address → Type 0
        Leads p = LeadsTo C where_is load g (list_of (only p.0)) p.1 z

        go : (a b : Bool) → within (twos 20) (total v) ≡ b
            → Leads (cond a (None, bxd12 v.base (int_reg zero_reg) (total v) v.flags) (cond b (None, bxd20 v.base (int_reg zero_reg) (total v) v.flags) (Some (lgfi (int_reg C.temporary) (total v)), bxd12 v.base (int_reg C.temporary) (pos 0) v.flags)))
        go true b q = record { after = g; runs = refl; there = _; reaches = refl; same = ap word short; others = λ r k. refl }
        go false true q = record { after = g; runs = refl; there = _; reaches = refl; same = ap word short; others = λ r k. refl }
        go false false q =
            record {
              after = set_register g C.temporary (total v);
              runs = refl;
              there = content (set_register g C.temporary (total v)) v.base.number +ℤ word (total v) +ℤ pos 0;
              reaches = ap {B = Option ℤ} (λ y. Some (content (set_register g C.temporary (total v)) v.base.number +ℤ y +ℤ pos 0)) (content_temporary g (total v));
              same = word_part (content g v.base.number) (total v) _ _ (let e = content_other g (total v) v.base.number (apart q) in ap (λ (y : ℤ). y +ℤ word (total v) +ℤ pos 0) e ∙ omega (arith, ints)) (omega (arith, ints)) ∙ ap word is;
              others = set_other g (total v);
            }

    effects_push : (hs : List Helper) (h : Helper) (k : Registers) → effects where_is load (hs ++ h ∷ []) k ≡ then_run (effect where_is load h) (effects where_is load hs k)
    effects_push [] h k = last (effect where_is load h k)
      where
        last : (o : Option Registers) → then_run (λ k. Some k) o ≡ o
        last None = refl
        last (Some k) = refl
    effects_push (e ∷ hs) h k = push (effect where_is load e k) (effects_push hs h)
      where
        push : (o : Option Registers) → ((k : Registers) → effects where_is load (hs ++ h ∷ []) k ≡ then_run (effect where_is load h) (effects where_is load hs k))
            → then_run (effects where_is load (hs ++ h ∷ [])) o ≡ then_run (effect where_is load h) (then_run (effects where_is load hs) o)
        push None f = refl
        push (Some k) f = f k

    loaded_leads : (mi : MemInstType) (hs : Option Helper) (x : Address) (z : ℤ) → LeadsTo C where_is load g (list_of (only hs)) x z → LeadsTo C where_is load g (list_of (loaded C mi hs x).0) (loaded C mi hs x).1 z
    loaded_leads mi hs x z p = go (must_load mi x)
      where
        Leads : Helpers × Address → Type 0
        Leads q = LeadsTo C where_is load g (list_of q.0) q.1 z

        go : (b : Bool) → Leads (cond b (also hs (load_address (int_reg C.temporary) x), bxd12 (int_reg C.temporary) (int_reg zero_reg) (pos 0) (flags_of x)) (only hs, x))
        go false = p
        go true =
            record {
              after = set_register p.after C.temporary p.there;
              runs = ap (λ (ks : List Helper). effects where_is load ks g) (also_listed hs (load_address (int_reg C.temporary) x)) ∙ effects_push (list_of (only hs)) (load_address (int_reg C.temporary) x) g ∙ ap (then_run (effect where_is load (load_address (int_reg C.temporary) x))) p.runs ∙ ap (when_some (set_register p.after C.temporary)) p.reaches;
              there = word p.there +ℤ pos 0 +ℤ pos 0;
              reaches = ap {B = Option ℤ} (λ y. Some (y +ℤ pos 0 +ℤ pos 0)) (content_temporary p.after p.there);
              same = word_part (pos 0) p.there (word p.there +ℤ pos 0 +ℤ pos 0) p.there (omega (arith, ints)) (omega (arith, ints)) ∙ p.same;
              others = λ r k. set_other p.after p.there r k ∙ p.others r k;
            }

    widened_named : (mi : MemInstType) (x : Address) (k : Registers) → named where_is load k (real (widened mi x)) ≡ named where_is load k (real x)
    widened_named mi (bxd12 b x d fl) k = go mi.have_d12
      where
        go : (c : Bool) → named where_is load k (real (cond c (bxd12 b x d fl) (bxd20 b x d fl))) ≡ Some (content k b.number +ℤ content k x.number +ℤ d)
        go true = refl
        go false = refl
    widened_named mi (bxd20 b x d fl) k = refl
    widened_named mi (label l) k = refl
    widened_named mi (constant c) k = refl
    widened_named mi (symbol n offset fl) k = refl

    pub finalize_leads : (mi : MemInstType) (fr : Frame) (m : MemArg) (z : ℤ) → named where_is load g (mode C fr m) ≡ Some z → needs_its_base C (mode C fr m) ≡ false
        → LeadsTo C where_is load g (list_of (finalize C mi fr m).0) (finalize C mi fr m).1 z
    finalize_leads mi fr m z h n =
        let r = resolved C (mode C fr m) in
        let l = loaded_leads mi r.0 r.1 z (resolved_leads (mode C fr m) z h n) in
        record {
          after = l.after;
          runs = l.runs;
          there = l.there;
          reaches = widened_named mi (loaded C mi r.0 r.1).1 l.after ∙ l.reaches;
          same = l.same;
          others = l.others;
        }

pub finalizing_stands : FinalizingStands
finalizing_stands C lc mi fr m ok =
    let t = none_refused (why.Operand when not (registers_fit m) ∷ (mode_checks C (mode C fr m) ++ form_checks mi (finalize C mi fr m).1)) ok in
    record {
      permitted = finalize_permits C mi fr m t.1.1.1.1.0;
      leads = λ where_is load g z h. finalize_leads C lc where_is load g mi fr m z h t.1.1.0;
    }
