-- What each call's acceptance tells, by name.
use Rattle.address.specs.Convention.{Convention}
use Rattle.std.proofs.Common.{◌≡◌, ℕ, ◌+◌, ◌≤◌, true, false, ◌&&◌, List, [], ◌∷◌, ◌++◌, take, ℤ, Some, None}
use Rattle.std.proofs.lemmas.Bool.{not-false, ltb-false}
use Rattle.refusal.specs.declared.Reason.TheVariants as why
use Rattle.form.specs.declared.Form.{Form}
use Rattle.form.specs.Form.{kinds}
use Rattle.form.specs.Encode.{takes}
use Rattle.refusal.specs.Refusals.{◌when◌}
use Rattle.refusal.specs.Tests.{any, all}
use Rattle.catalogue_law.specs.Catalogue.{misfit, catalogued}
use Rattle.address.specs.Address.{frame_overflows, needs_its_base, too_far, lacks_form, is_constant}
use Rattle.address.specs.Access.{odd_symbol, Plan}
use Rattle.law.specs.Section.{State, other_buffer, space_checks, put_refusal, branches, branch_checks, put_to_label_refusal, plan_checks, plan_refusal}
use Rattle.catalogue_law.specs.Catalogue.{put_checks}
use Rattle.address.specs.Access.{target_checks}
use Rattle.catalogue_law.proofs.Basics.{none_refused}
use Rattle.book.specs.declared.target.Target.TheVariants.{Label as to_label}
use Rattle.address.specs.Aimed.{size_of_all, to_put, to_branch}
use Rattle.book.specs.Books.{uses_full, lost_label, leaves_use, label_checks}

pub record PutAccepted (s : State) (f : Form) (o : ℕ) (zs : List ℤ) : Type 0 where
  pub ours : other_buffer s ≡ false
  pub fits : misfit f o ≡ false
  pub catalogued : catalogued s.entries f o ≡ true
  pub operands : takes (kinds f) zs ≡ true
  pub room : s.books.len + size_of_all (to_put f o zs) ≤ s.books.room

pub put_accepted : (s : State) (f : Form) (o : ℕ) (zs : List ℤ) → put_refusal s f o zs ≡ None → PutAccepted s f o zs
put_accepted s f o zs h =
    let t = none_refused (why.Buffer when other_buffer s ∷ (put_checks s.entries f o zs ++ space_checks s.books None (to_put f o zs))) h in
    record {
      ours = t.0;
      fits = t.1.0;
      catalogued = not-false (catalogued s.entries f o) t.1.1.0;
      operands = not-false (takes (kinds f) zs) t.1.1.1.0;
      room = ltb-false s.books.room (s.books.len + size_of_all (to_put f o zs)) t.1.1.1.1.1.0;
    }

pub record BranchAccepted (s : State) (f : Form) (o : ℕ) (z : ℤ) (l : ℕ) : Type 0 where
  pub ours : other_buffer s ≡ false
  pub fits : misfit f o ≡ false
  pub catalogued : catalogued s.entries f o ≡ true
  pub operand : takes (take 1 (kinds f)) (z ∷ []) ≡ true
  pub branches : branches f ≡ true
  pub label : lost_label s.books.labels (Some (to_label l)) ≡ false
  pub uses : uses_full s.books ≡ false
  pub room : s.books.len + size_of_all (to_branch f o z l) ≤ s.books.room

pub branch_accepted : (s : State) (f : Form) (o : ℕ) (z : ℤ) (l : ℕ) → put_to_label_refusal s f o z l ≡ None → BranchAccepted s f o z l
branch_accepted s f o z l h =
    let t = none_refused (why.Buffer when other_buffer s ∷ (branch_checks s.entries f o z ++ label_checks s.books.labels (Some (to_label l)) ++ space_checks s.books (Some (to_label l)) (to_branch f o z l))) h in
    record {
      ours = t.0;
      fits = t.1.0;
      catalogued = not-false (catalogued s.entries f o) t.1.1.0;
      operand = not-false (takes (take 1 (kinds f)) (z ∷ [])) t.1.1.1.0;
      branches = not-false (branches f) t.1.1.1.1.0;
      label = t.1.1.1.1.1.0;
      uses = t.1.1.1.1.1.1.0;
      room = ltb-false s.books.room (s.books.len + size_of_all (to_branch f o z l)) t.1.1.1.1.1.1.1.0;
    }

module _ (C : Convention) (s : State) (p : Plan) where
  pub record AccessAccepted : Type 0 where
    pub ours : other_buffer s ≡ false
    pub opcodes_fit : any (λ e. misfit e.form e.opcode) p.opcodes ≡ false
    pub opcodes_catalogued : all (λ e. catalogued s.entries e.form e.opcode) p.opcodes ≡ true
    pub operands : p.fits ≡ true
    pub frame : frame_overflows p.mode ≡ false
    pub temporary : needs_its_base C p.mode ≡ false
    pub near : too_far p.mode ≡ false
    pub form : lacks_form p.permits p.final ≡ false
    pub label : lost_label s.books.labels p.target ≡ false
    pub even : odd_symbol p.target ≡ false
    pub no_constant : is_constant p.mode ≡ false
    pub uses : (leaves_use p.target && uses_full s.books) ≡ false
    pub room : s.books.len + size_of_all p.items ≤ s.books.room

  pub access_accepted : plan_refusal C s p ≡ None → AccessAccepted
  access_accepted h =
      let t = none_refused
      (why.Buffer when other_buffer s
      ∷ (plan_checks C s.entries p ++ label_checks s.books.labels p.target ++ target_checks p ++ space_checks s.books p.target p.items)) h in
      let u = t.1.1.1.1.1.1.1.1 in
      record {
        ours = t.0;
        opcodes_fit = t.1.0;
        opcodes_catalogued = not-false (all (λ e. catalogued s.entries e.form e.opcode) p.opcodes) t.1.1.0;
        operands = not-false p.fits t.1.1.1.0;
        frame = t.1.1.1.1.0;
        temporary = t.1.1.1.1.1.0;
        near = t.1.1.1.1.1.1.0;
        form = t.1.1.1.1.1.1.1.0;
        label = u.0;
        even = u.1.0;
        no_constant = u.1.1.0;
        uses = u.1.1.1.0;
        room = ltb-false s.books.room (s.books.len + size_of_all p.items) u.1.1.1.1.0;
      }
