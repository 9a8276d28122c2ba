-- What the books hold, as lists.
use Rattle.std.specs.Prelude.{List}
use Rattle.book.specs.declared.label_book.LabelBook.{LabelBook}
use Rattle.book.specs.declared.use_book.UseBook.{UseBook}
use Rattle.book.specs.declared.target.Slot.{Slot}
use Rattle.book.specs.declared.target.Use.{Use}

abbrev pub labels_in : LabelBook → List Slot
labels_in b = b.slots

abbrev pub uses_in : UseBook → List Use
uses_in b = b.uses
