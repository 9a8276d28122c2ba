-- Comparing forms is comparing their numbers.
use Rattle.std.proofs.Common.{◌≡◌, ℕ, eqb, refl, ap, ◌∙◌}
use denote.Enum.Bare.{sameb}
use denote.Enum.Declared.{tag_of}
use Rattle.form.specs.declared.Form.{Form}
use Rattle.form.specs.contracts.Form.{the_type}
use Rattle.form.specs.Form.{form_number}
use Rattle.form.proofs.Tests.{eqb_is}
use Rattle.form.proofs.Every.{at_each}

tag_is : (f : Form) → tag_of the_type f ≡ form_number f
tag_is f = eqb_is (tag_of the_type f) (form_number f) (at_each (λ f. eqb (tag_of the_type f) (form_number f)) refl f)

pub same_form : (f g : Form) → sameb the_type f g ≡ eqb (form_number f) (form_number g)
same_form f g = ap (λ (n : ℕ). eqb n (tag_of the_type g)) (tag_is f) ∙ ap (eqb (form_number f)) (tag_is g)
