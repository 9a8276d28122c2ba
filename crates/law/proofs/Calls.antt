-- Every call keeps the relation, so a list of calls does.
use Rattle.refusal.specs.Refusals.{unless, Answer}
use Rattle.address.specs.Convention.{Convention, lawful_convention}
use Rattle.std.proofs.Common.{◌≡◌, ℕ, Bool, true, false, cond, not, ◌||◌, eqb, ltb, ◌≢◌, List, [], ◌∷◌, ◌++◌, length, take, ℤ, Some, None, Ok, Err, Option, Result, sym, refl, ap, ◌∙◌, subst, arith}
use Rattle.std.proofs.lemmas.Bool.{ne_eqb}
use Rattle.refusal.specs.declared.Reason.{Reason}
use Rattle.refusal.specs.declared.Reason.TheVariants as why
use Rattle.refusal.specs.declared.Refusal.{Refusal}
use Rattle.form.specs.declared.Form.{Form}
use Rattle.form.specs.declared.instr.Entry.{Entry}
use Rattle.address.specs.declared.args.MemArg.{MemArg}
use Rattle.address.specs.declared.frame.Frame.{Frame}
use Rattle.address.specs.declared.access.Access.{Access}
use Rattle.form.specs.Form.{kinds}
use Rattle.form.specs.Encode.{takes, six}
use Rattle.catalogue_law.specs.Catalogue.{Catalogued, is_entry, admit_refusal, admitted}
use Rattle.catalogue_law.proofs.Sound.{sound_admitted}
use Rattle.field.specs.Family.{Family}
use Rattle.address.specs.Address.{mode}
use Rattle.address.specs.Access.{plan}
use Rattle.book.specs.declared.target.Slot.{Slot}
use Rattle.book.specs.declared.target.Slot.TheVariants.{Waiting as waiting, Bound as bound, GivenUp as given_up}
use Rattle.book.specs.Labels.{settle_label}
use Rattle.law.specs.Inventory.{Event, admit, put, put_to_label, access, reserve, bind, give_up, close, Inventory, empty, fed, fed_all, items_of}
use Rattle.address_law.specs.Items.{Item}
use Rattle.law.specs.Inventory.{relabelled as relabelled_inventory}
use Rattle.law.specs.Section.{State, Call, written, other_buffer, put_refusal, Puts, put_to_label_refusal, PutsToLabel, access_refusal, Accesses, relabelled, reserve_refusal, Reserves, bind_refusal, Binds, give_up_refusal, GivesUp, with_entries, with_code, Admits, Grows, same, grown}
use Rattle.law.specs.Law.{Opens, Step, Run, done, then, lent, InventoryMatches}
use Rattle.catalogue_law.proofs.Basics.{none_some, true_T, not_refused, refused, any_append, all_weaker}
use Rattle.law.proofs.Patching.{Branch, ri_b, ri_c, ril_b, ril_c, branch_is}
use Rattle.law.specs.Matching.{Sound, Matches}
use Rattle.law.proofs.Matching.{match_written}
use Rattle.law.proofs.Accessing.{access_sound}
use Rattle.law.proofs.Accepted.{put_accepted, branch_accepted, access_accepted}
use Rattle.form.specs.Instr.{instr}
use Rattle.address.specs.Aimed.{to_put, to_branch}
use Rattle.book.specs.Books.{largest_buffer}

-- What a call's answer tells.

call_ok : {X : Type 0} {y : X} {t : State} (o : Option Reason) (x : X) (s after : State) → Call o x s after (Ok y) t → (o ≡ None) × (t ≡ after)
call_ok o x s after c = let e = not_refused s.books.len x o c.answers in (e, c.leaves ∙ ap (λ (q : Option Reason). unless q after s) e)

call_err : {X : Type 0} {e : Refusal} {t : State} (o : Option Reason) (x : X) (s after : State) → Call o x s after (Err e) t → t ≡ s
call_err o x s after c = let r = refused s.books.len x o c.answers in c.leaves ∙ ap (λ (q : Option Reason). unless q after s) r.1

module _ (C : Convention) (lc : lawful_convention C ≡ true) where
  moved : {v : Inventory} {s t : State} → t ≡ s → Matches C v s → Matches C v t
  moved {v} e m = subst (Matches C v) (sym e) m

  -- put

  keep_put : (v : Inventory) (s t : State) (f : Form) (o : ℕ) (zs : List ℤ) (r : Answer) → length zs ≡ 6 → Puts s f o zs r t → Matches C v s → Matches C (fed C v (put f o zs r)) t
  keep_put v s t f o zs (Err e) n c m = moved (call_err (put_refusal s f o zs) tt s (written s (to_put f o zs)) c) m
  keep_put v s t f o zs (Ok _) n c m =
      let d = call_ok (put_refusal s f o zs) tt s (written s (to_put f o zs)) c in
      let h = put_accepted s f o zs d.0 in
      let i : Catalogued s.entries (record { form = f; opcode = o; operands = zs }) =
      record { entry = true_T h.catalogued; six_operands = n; in_kind = true_T h.operands } in
      moved d.1 (match_written C v s None (to_put f o zs) m (record { catalogued = i; aimed = tt }, tt) h.room tt)

  -- put to label

  branch_takes : {f : Form} (z : ℤ) → Branch f → takes (take 1 (kinds f)) (z ∷ []) ≡ true → takes (kinds f) (six (z ∷ [])) ≡ true
  branch_takes z ri_b h = h
  branch_takes z ri_c h = h
  branch_takes z ril_b h = h
  branch_takes z ril_c h = h

  keep_put_to_label : (v : Inventory) (s t : State) (f : Form) (o : ℕ) (z : ℤ) (l : ℕ) (r : Answer) → PutsToLabel s f o z l r t → Matches C v s → Matches C (fed C v (put_to_label f o z l r)) t
  keep_put_to_label v s t f o z l (Err e) c m = moved (call_err (put_to_label_refusal s f o z l) tt s (written s (to_branch f o z l)) c) m
  keep_put_to_label v s t f o z l (Ok _) c m =
      let d = call_ok (put_to_label_refusal s f o z l) tt s (written s (to_branch f o z l)) c in
      let h = branch_accepted s f o z l d.0 in
      let b = branch_is f h.branches in
      let i : Catalogued s.entries (instr f o (z ∷ [])) =
      record { entry = true_T h.catalogued; six_operands = refl; in_kind = true_T (branch_takes z b h.operand) } in
      moved d.1 (match_written C v s None (to_branch f o z l) m (record { catalogued = i; aimed = (h.branches, (z, refl)) }, tt) h.room tt)

  -- access

  keep_access : (v : Inventory) (s t : State) (a : Access) (may_trap : Bool) (m : MemArg) (fr : Frame) (r : Answer) → Accesses C s a may_trap m fr r t → Matches C v s → Matches C (fed C v (access a may_trap m fr r)) t
  keep_access v s t a may_trap m fr (Err e) c k = moved (call_err (access_refusal C s a may_trap m fr) tt s (written s (plan C a may_trap m fr).items) c) k
  keep_access v s t a may_trap m fr (Ok _) c k =
      let d = call_ok (access_refusal C s a may_trap m fr) tt s (written s (plan C a may_trap m fr).items) c in
      let h = access_accepted C s (plan C a may_trap m fr) d.0 in
      moved d.1 (match_written C v s (Some (mode C fr m)) (plan C a may_trap m fr).items k (access_sound C lc s a may_trap m fr k.wrote.entries h) h.room
      (record { state = s; access = a; may_trap = may_trap; mem = m; frame = fr; from = v.len; accepted = d.0; named = refl; items = refl }))

  -- reserve, bind, give up

  match_labels : (v : Inventory) (s : State) (ls ks : List Slot) → ks ≡ ls → Matches C v s → Matches C (relabelled_inventory v ls) (relabelled s ks)
  match_labels v s ls ks e m =
      record {
        len = m.len;
        labels = e;
        wrote =
            record {
              starts = m.wrote.starts;
              uses = m.wrote.uses;
              laid = m.wrote.laid;
              total = m.wrote.total;
              sound = m.wrote.sound;
              entries = m.wrote.entries;
              room = m.wrote.room;
              fits = m.wrote.fits;
            };
        groups = m.groups;
      }

  keep_reserve : (v : Inventory) (s t : State) (r : Result ℕ Refusal) → Reserves s r t → Matches C v s → Matches C (fed C v (reserve r)) t
  keep_reserve v s t (Err e) c m = moved (call_err (reserve_refusal s) (length s.books.labels) s (relabelled s (s.books.labels ++ waiting ∷ [])) c) m
  keep_reserve v s t (Ok l) c m =
      moved (call_ok (reserve_refusal s) (length s.books.labels) s (relabelled s (s.books.labels ++ waiting ∷ [])) c).1
      (match_labels v s (v.labels ++ waiting ∷ []) (s.books.labels ++ waiting ∷ []) (ap (λ (x : List Slot). x ++ waiting ∷ []) m.labels) m)

  keep_bind : (v : Inventory) (s t : State) (l : ℕ) (r : Answer) → Binds s l r t → Matches C v s → Matches C (fed C v (bind l r)) t
  keep_bind v s t l (Err e) c m = moved (call_err (bind_refusal s l) tt s (relabelled s (settle_label s.books.labels l (bound s.books.len))) c) m
  keep_bind v s t l (Ok _) c m =
      moved (call_ok (bind_refusal s l) tt s (relabelled s (settle_label s.books.labels l (bound s.books.len))) c).1
      (match_labels v s (settle_label v.labels l (bound v.len)) (settle_label s.books.labels l (bound s.books.len))
      (ap (λ (x : List Slot). settle_label x l (bound s.books.len)) m.labels ∙ ap (λ (n : ℕ). settle_label v.labels l (bound n)) m.len) m)

  keep_give_up : (v : Inventory) (s t : State) (l : ℕ) (r : Answer) → GivesUp s l r t → Matches C v s → Matches C (fed C v (give_up l r)) t
  keep_give_up v s t l (Err e) c m = moved (call_err (give_up_refusal s) tt s (relabelled s (settle_label s.books.labels l given_up)) c) m
  keep_give_up v s t l (Ok _) c m =
      moved (call_ok (give_up_refusal s) tt s (relabelled s (settle_label s.books.labels l given_up)) c).1
      (match_labels v s (settle_label v.labels l given_up) (settle_label s.books.labels l given_up) (ap (λ (x : List Slot). settle_label x l given_up) m.labels) m)

  -- admit

  more_catalogued : (es : List Entry) (e : Entry) (it : Item) → Sound es it.instr it.aim → Sound (es ++ e ∷ []) it.instr it.aim
  more_catalogued es e it h =
      record {
        catalogued =
            record {
              entry = any_append (is_entry it.instr.form it.instr.opcode) es (e ∷ []) h.catalogued.entry;
              six_operands = h.catalogued.six_operands;
              in_kind = h.catalogued.in_kind;
            };
        aimed = h.aimed;
      }

  match_admitted : (v : Inventory) (s : State) (f : Form) (o : ℕ) (q : Option Reason) → admit_refusal s.entries f o ≡ q → Matches C v s → Matches C v (with_entries s (unless q (admitted s.entries f o) s.entries))
  match_admitted v s f o (Some r) e m = m
  match_admitted v s f o None e m =
      record {
        len = m.len;
        labels = m.labels;
        wrote =
            record {
              starts = m.wrote.starts;
              uses = m.wrote.uses;
              laid = m.wrote.laid;
              total = m.wrote.total;
              sound = all_weaker (λ it. Sound s.entries it.instr it.aim) (λ it. Sound (admitted s.entries f o) it.instr it.aim) (more_catalogued s.entries (record { form = f; opcode = o })) (items_of v.groups) m.wrote.sound;
              entries = sound_admitted s.entries f o m.wrote.entries e;
              room = m.wrote.room;
              fits = m.wrote.fits;
            };
        groups = m.groups;
      }

  keep_admit : (v : Inventory) (s t : State) (f : Form) (o : ℕ) (r : Answer) (es : List Entry) → Admits s.entries f o r es → t ≡ with_entries s es → Matches C v s → Matches C v t
  keep_admit v s t f o r es a e m = moved (e ∙ ap (with_entries s) a.leaves) (match_admitted v s f o (admit_refusal s.entries f o) refl m)

  pub grows_keep : (v : Inventory) (s : State) (later : List Entry) → Grows s.entries later → Matches C v s → Matches C v (with_entries s later)
  grows_keep v s later same m = m
  grows_keep v s later (grown {ds = ds} {f = f} {o = o} {r = r} g a) m = keep_admit v (with_entries s ds) (with_entries s later) f o r later a refl (grows_keep v s ds g m)

  -- Any call, and lists of calls.

  pub keeps : (L S : Family) (v : Inventory) (s t : State) (e : Event) → Step C L S s e t → Matches C v s → Matches C (fed C v e) t
  keeps L S v s t (admit f o r) d m = keep_admit v s t f o r d.0 d.1 d.2 m
  keeps L S v s t (put f o zs r) d m = keep_put v s t f o zs r d.0 d.1 m
  keeps L S v s t (put_to_label f o z l r) d m = keep_put_to_label v s t f o z l r d m
  keeps L S v s t (access a may_trap x fr r) d m = keep_access v s t a may_trap x fr r d m
  keeps L S v s t (reserve r) d m = keep_reserve v s t r d m
  keeps L S v s t (bind l r) d m = keep_bind v s t l r d m
  keeps L S v s t (give_up l r) d m = keep_give_up v s t l r d m
  keeps L S v s t (close symbols (Ok x)) d m = absurd d
  keeps L S v s t (close symbols (Err x)) d m = moved d.1 m

  -- A call that was lent another buffer is refused, and finds the old one again.

  differs : (n m : ℕ) (b : Bool) → n ≢ m → (b || not (eqb n m)) ≡ true
  differs n m true h = refl
  differs n m false h = let e = ne_eqb n m h in rw e refl

  buffer_refused : (b : Bool) (o : Option Reason) → b ≡ true → cond b (Some why.Buffer) o ≡ None → ⊥
  buffer_refused b o e h = let q = ap (λ (x : Bool). cond x (Some why.Buffer) o) e in none_some h q

  module _ (v : Inventory) (s : State) (other : List ℕ) (d : length other ≢ s.books.room) (m : Matches C v s) where
    abbrev lent_to : State
    lent_to = with_code s other

    not_ours : other_buffer lent_to ≡ true
    not_ours = differs (length other) s.books.room (ltb largest_buffer (length other)) d

    lent_ok : {X : Type 0} {y : X} {t : State} (o : Option Reason) (x : X) (after : State) → Call (cond (other_buffer lent_to) (Some why.Buffer) o) x lent_to after (Ok y) t → ⊥
    lent_ok o x after c = buffer_refused (other_buffer lent_to) o not_ours (call_ok (cond (other_buffer lent_to) (Some why.Buffer) o) x lent_to after c).0

    lent_err : {X : Type 0} {e : Refusal} {t : State} (o : Option Reason) (x : X) (after : State) → Call o x lent_to after (Err e) t → Matches C v (with_code t s.code)
    lent_err o x after c = moved (ap (λ (q : State). with_code q s.code) (call_err o x lent_to after c)) m

    pub lent_keeps : (L S : Family) (t : State) (e : Event) → Step C L S lent_to e t → Matches C (fed C v e) (with_code t s.code)
    lent_keeps L S t (admit f o r) c = keep_admit v s (with_code t s.code) f o r c.0 c.1 (ap (λ (q : State). with_code q s.code) c.2) m
    lent_keeps L S t (put f o zs (Ok _)) c = absurd (lent_ok _ _ _ c.1)
    lent_keeps L S t (put f o zs (Err _)) c = lent_err _ _ _ c.1
    lent_keeps L S t (put_to_label f o z l (Ok _)) c = absurd (lent_ok _ _ _ c)
    lent_keeps L S t (put_to_label f o z l (Err _)) c = lent_err _ _ _ c
    lent_keeps L S t (access a may_trap x fr (Ok _)) c = absurd (lent_ok _ _ _ c)
    lent_keeps L S t (access a may_trap x fr (Err _)) c = lent_err _ _ _ c
    lent_keeps L S t (reserve (Ok l)) c = absurd (lent_ok _ _ _ c)
    lent_keeps L S t (reserve (Err _)) c = lent_err _ _ _ c
    lent_keeps L S t (bind l (Ok _)) c = absurd (lent_ok _ _ _ c)
    lent_keeps L S t (bind l (Err _)) c = lent_err _ _ _ c
    lent_keeps L S t (give_up l (Ok _)) c = absurd (lent_ok _ _ _ c)
    lent_keeps L S t (give_up l (Err _)) c = lent_err _ _ _ c
    lent_keeps L S t (close symbols (Ok _)) c = absurd c
    lent_keeps L S t (close symbols (Err _)) c = moved (ap (λ (q : State). with_code q s.code) c.1) m

  pub leads_keep : {L S : Family} {s t : State} {es : List Event} → Run C L S s es t → (v : Inventory) → Matches C v s → Matches C (fed_all C v es) t
  leads_keep done v m = m
  leads_keep {L} {S} (then {s} {m = n} {e = e} d l) v k = leads_keep l (fed C v e) (keeps L S v s n e d k)
  leads_keep {L} {S} (lent {s} {e = e} other n ne d l) v k = leads_keep l (fed C v e) (lent_keeps v s other ne k L S n e d)

  pub opens_match : {L S : Family} {s : State} → Opens L S s → Matches C empty s
  opens_match {s} o =
      subst (Matches C empty) (sym o.leaves)
      (record {
        len = refl;
        labels = refl;
        wrote = record { starts = refl; uses = refl; laid = tt; total = refl; sound = tt; entries = o.catalogue; room = refl; fits = omega arith };
        groups = tt;
      })

pub inventory_matches : InventoryMatches
inventory_matches C lc L S o s es op leads = leads_keep C lc leads empty (opens_match C lc op)
