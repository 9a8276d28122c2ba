-- An access, from its plan and from space.
use Rattle.std.proofs.Common.{◌≡◌, ℕ, ◌+◌, ◌≤◌, Bool, true, false, cond, ◌&&◌, leb, List, [], ◌∷◌, ◌++◌, length, Some, None, Ok, Err, Option, Result, sym, refl, ap, ◌∙◌, subst, arith}
use Rattle.std.specs.List.{AllByRecursion}
use Rattle.std.proofs.lemmas.Bool.{leb-false}
use Rattle.refusal.specs.declared.Reason.{Reason}
use Rattle.refusal.specs.declared.Reason.TheVariants as why
use Rattle.refusal.specs.declared.Refusal.{Refusal}
use Rattle.refusal.specs.Refusals.{Checks, first_refusal, answer}
use Rattle.form.specs.declared.instr.Entry.{Entry}
use Rattle.form.specs.Form.{kinds}
use Rattle.form.specs.Encode.{takes}
use Rattle.catalogue_law.specs.Catalogue.{sound}
use Rattle.catalogue_law.proofs.Basics.{ok_err, T_true}
use Rattle.book.specs.declared.target.Target.{Target}
use Rattle.book.specs.declared.target.Use.{Use}
use Rattle.book.specs.Books.{leaves_use}
use Rattle.address.specs.declared.args.MemArg.{MemArg}
use Rattle.address.specs.declared.frame.Frame.{Frame}
use Rattle.address.specs.declared.access.Access.{Access}
use Rattle.address.specs.declared.access.Aimed.{Aimed}
use Rattle.address.specs.Convention.{standard}
use Rattle.address.specs.Aimed.{size_of_all}
use Rattle.address.specs.Access.{Plan, plan}
use Rattle.law.specs.Section.{State, Accesses, written, other_buffer, space_checks, plan_refusal}
use Rattle.law.proofs.Accepted.{access_accepted}
use Rattle.law.proofs.Accessing.{access_sound}
use Rattle.law.proofs.Matching.{SoundAimed}
use Rattle.section.specs.Extended.{end_checks}
use Rattle.section.specs.Accessing.{planned_checks}
use Rattle.section.specs.Fits.{Fits, one_aim}
use Rattle.section.proofs.Steps.{not_written, accepted, answered_is, ours}
use Rattle.section.proofs.Aims.{plan_aims}
use Rattle.section.proofs.Tested.{ok_first}

none_of : (at : ℕ) (o : Option Reason) {u : Unit {0}} → ◌≡◌ {A = Result (Unit {0}) Refusal} (Ok u) (answer at o tt) → o ≡ None
none_of at None h = refl
none_of at (Some r) h = absurd (ok_err refl h)

free_uses : (o : Option Target) (us : List Use) → (leaves_use o && leb 1024 (length us)) ≡ false → length us ≤ 1024 → length us + one_aim o ≤ 1024
free_uses None us h k = omega arith
free_uses (Some t) us h k = let l = leb-false 1024 (length us) h in omega arith

kinds_of : (es : List Entry) (ws : List Aimed) → AllByRecursion (SoundAimed es) ws → AllByRecursion (λ w. takes (kinds w.instr.form) w.instr.operands ≡ true) ws
kinds_of es [] h = tt
kinds_of es (w ∷ ws) h = (T_true h.0.catalogued.in_kind, kinds_of es ws h.1)

module _ (s : State) (a : Access) (t : Bool) (m : MemArg) (fr : Frame) (b : other_buffer s ≡ false) where
  abbrev p : Plan
  p = plan standard a t m fr

  abbrev cs : Checks
  cs = planned_checks s.entries s.books.labels p

  abbrev ds : Checks
  ds = space_checks s.books p.target p.items

  pub unplanned : (e : Refusal) → Err e ≡ answer s.books.len (first_refusal cs) p.items → Accesses standard s a t m fr (Err e) s
  unplanned e h = not_written s cs ds tt p.items (written s p.items) e b h

  module _ (ws : List Aimed) (aimed : Bool) (n : ℕ) (ok : Ok ws ≡ answer s.books.len (first_refusal cs) p.items) (ae : aimed ≡ leaves_use p.target) (ne : n ≡ size_of_all ws) where
    these : ws ≡ p.items
    these = answered_is s.books.len p.items (first_refusal cs) ok

    same_checks : end_checks s.books aimed n ≡ ds
    same_checks =
        ap (λ (z : Bool). end_checks s.books z n) ae
        ∙ ap (λ (k : ℕ). end_checks s.books (leaves_use p.target) k) (ne ∙ ap size_of_all these)

    rest : first_refusal (cs ++ ds) ≡ first_refusal (end_checks s.books aimed n)
    rest = ok_first s.books.len cs ds p.items ok ∙ ap first_refusal (sym same_checks)

    pub no_space : (e : Refusal) → ◌≡◌ {A = Result (Unit {0}) Refusal} (Err e) (answer s.books.len (first_refusal (end_checks s.books aimed n)) tt) → Accesses standard s a t m fr (Err e) s
    no_space e h =
        not_written s (cs ++ ds) [] tt tt (written s p.items) e b (h ∙ ap (λ (o : Option Reason). answer s.books.len o tt) (sym rest))

    module _ {u : Unit {0}} (h : ◌≡◌ {A = Result (Unit {0}) Refusal} (Ok u) (answer s.books.len (first_refusal (end_checks s.books aimed n)) tt)) where
      nothing : plan_refusal standard s p ≡ None
      nothing = subst (λ (z : Bool). cond z (Some why.Buffer) (first_refusal (cs ++ ds)) ≡ None) (sym b) (rest ∙ none_of s.books.len (first_refusal (end_checks s.books aimed n)) h)

      pub fitting : sound s.entries ≡ true → length s.books.uses ≤ 1024 → Fits s ws
      fitting so few =
          let ac = access_accepted standard s p nothing in
          let u = free_uses p.target s.books.uses ac.uses few in
          let k = plan_aims standard a t m fr in
          subst (λ (z : List Aimed). Fits s z) (sym these)
          (record {
            ours = ours s b;
            room = ac.room;
            in_kind = kinds_of s.entries p.items (access_sound standard refl s a t m fr so ac);
            uses = omega arith;
          })

      pub done : (u : State) → u ≡ written s ws → Accesses standard s a t m fr (Ok tt) u
      done u e =
          accepted (plan_refusal standard s p) tt s (written s p.items) u (ap (λ (o : Option Reason). answer s.books.len o tt) (sym nothing)) (e ∙ ap (written s) these)
