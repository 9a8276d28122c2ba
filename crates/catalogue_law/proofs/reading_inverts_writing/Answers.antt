use Rattle.catalogue_law.proofs.Laws.{one_entry, written_is_read_back, read_is_written_again}
use Rattle.catalogue_law.proofs.reading_inverts_writing.Goals as goal

pub returns : goal.returns
returns c = record { one = one_entry; back = written_is_read_back; again = read_is_written_again }
