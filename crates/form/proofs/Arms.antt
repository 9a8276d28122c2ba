-- What a function of forms is at each form of an arm, it is at the form that the arm took.
use Rattle.std.proofs.Common.{◌≡◌, ⊎_elim, ◌⊎◌}
use Rattle.form.specs.declared.Form.{Form}

at : {X : Type 0} (h : Form → X) {x : X} {f a : Form} → x ≡ h a → f ≡ a → x ≡ h f
at h p e = rw e p

pub two : {X : Type 0} (h : Form → X) {x : X} {f a b : Form} → x ≡ h a → x ≡ h b → (f ≡ a) ⊎ (f ≡ b) → x ≡ h f
two h p q = ⊎_elim (at h p) (at h q)

pub three : {X : Type 0} (h : Form → X) {x : X} {f a b c : Form} → x ≡ h a → x ≡ h b → x ≡ h c → (f ≡ a) ⊎ ((f ≡ b) ⊎ (f ≡ c)) → x ≡ h f
three h p q r = ⊎_elim (at h p) (two h q r)

pub four : {X : Type 0} (h : Form → X) {x : X} {f a b c d : Form} → x ≡ h a → x ≡ h b → x ≡ h c → x ≡ h d → (f ≡ a) ⊎ ((f ≡ b) ⊎ ((f ≡ c) ⊎ (f ≡ d))) → x ≡ h f
four h p q r s = ⊎_elim (at h p) (three h q r s)

pub six : {X : Type 0} (h : Form → X) {x : X} {f a b c d e g : Form} → x ≡ h a → x ≡ h b → x ≡ h c → x ≡ h d → x ≡ h e → x ≡ h g → (f ≡ a) ⊎ ((f ≡ b) ⊎ ((f ≡ c) ⊎ ((f ≡ d) ⊎ ((f ≡ e) ⊎ (f ≡ g))))) → x ≡ h f
six h p q r s t u = ⊎_elim (at h p) (⊎_elim (at h q) (four h r s t u))
