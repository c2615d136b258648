use Rattle.std.proofs.Common.{refl}
use Rattle.sf_parse.specs.Machine.Members.{member_start, member_step}
use Rattle.sf_parse.specs.Machine.Entries.{InKey, InMemberValue, entry_step}
use Rattle.sf_parse.proofs.Marks.{marks_steps, marks_map}
use Rattle.sf_parse.proofs.LevelMarks.{marks_flag}
use Rattle.sf_parse.proofs.entry.EntryReaderLevel.expected.Goals as goal

pub returns-in-InKey : goal.returns-in-InKey
returns-in-InKey c =
    rw (← c.self.view_is, c.in-InKey.is)
    (marks_steps _ (entry_step c.args.dialect (InKey c.self.inside.key)) refl)

pub returns-in-Equals : goal.returns-in-Equals
returns-in-Equals c =
    rw (← c.self.view_is, c.in-Equals.is)
    (marks_map (InMemberValue c.self.inside.key) _ (member_start c.args.dialect)
    c.first_bytes.ensures)

pub returns-in-InMemberValue : goal.returns-in-InMemberValue
returns-in-InMemberValue c =
    rw (← c.self.view_is, c.in-InMemberValue.is)
    (marks_map (InMemberValue c.self.inside.key) _
    (member_step c.args.dialect c.self.inside.member) c.expected.ensures)

pub returns-in-InFlag : goal.returns-in-InFlag
returns-in-InFlag c =
    let fits = rw c.in-InFlag.is at c.self.invariant in
    rw (← c.self.view_is, c.in-InFlag.is)
    (marks_flag c.args.dialect _ _ _ fits.1 c.expected-in-InFlag.ensures)
