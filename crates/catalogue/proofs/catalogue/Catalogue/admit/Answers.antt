use Rattle.std.proofs.Common.{◌≡◌, Bool, true, false, leb, List, [], ◌∷◌, ◌++◌, length, None, sym, refl, ap, ◌∙◌}
use Rattle.refusal.specs.Refusals.{unless}
use Rattle.refusal.specs.Tests.{any}
use Rattle.form.specs.declared.instr.Entry.{Entry}
use Rattle.bounded.specs.Lists.{full_refusal}
use Rattle.catalogue_law.specs.Catalogue.{misfit, clashes, sound, admit_refusal}
use Rattle.catalogue_law.proofs.Sound.{sound_admitted}
use Rattle.catalogue.proofs.catalogue.Catalogue.admit.Goals as goal

still_sound : (es : List Entry) (e : Entry) → sound es ≡ true → misfit e.form e.opcode ≡ false → any (clashes e.form e.opcode) es ≡ false
    → sound (unless (full_refusal 512 es) (es ++ e ∷ []) es) ≡ true
still_sound es e s m a = by (leb 512 (length es)) refl where
  by : (b : Bool) → leb 512 (length es) ≡ b → sound (unless (full_refusal 512 es) (es ++ e ∷ []) es) ≡ true
  by true f = rw f s
  by false f =
      let n : admit_refusal es e.form e.opcode ≡ None = rw (m, a, f) in
      rw f (sound_admitted es e.form e.opcode s n)

pub invariant_of-self : goal.invariant_of-self
invariant_of-self c =
    record { sound = ap sound c.push.ensures.leaves ∙ still_sound c.args.self.now.entries c.args.entry c.args.self.now.sound (sym c.if-misfit.ensures) (sym c.if-is_clash.ensures) }
