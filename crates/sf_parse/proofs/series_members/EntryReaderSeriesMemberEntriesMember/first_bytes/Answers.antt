use Rattle.std.proofs.Common.{refl}
use Rattle.sf_parse.specs.Machine.Entries.{entry_start}
use Rattle.sf_parse.proofs.Marks.{marks_steps}
use Rattle.sf_parse.proofs.series_members.EntryReaderSeriesMemberEntriesMember.first_bytes.Goals as
    goal

pub returns : goal.returns
returns c = marks_steps _ entry_start refl
