-- Every row passes the test of rows, so reading inverts writing for every form.
use Rattle.std.proofs.Common.{◌≡◌, true, refl}
use Rattle.form.specs.declared.Form.{Form}
use Rattle.form.specs.Form.{row, kinds}
use Rattle.form.proofs.Every.{at_each}
use Rattle.inversion.specs.Inversion.{ReadingInvertsWriting}
use Rattle.inversion.proofs.Rows.{sound, written_is_read, read_is_written}

sound_row : (f : Form) → sound (row f) (kinds f) ≡ true
sound_row = at_each (λ f. sound (row f) (kinds f)) refl

pub inversion : ReadingInvertsWriting
inversion = (λ f. written_is_read f (sound_row f), λ f. read_is_written f (sound_row f))
