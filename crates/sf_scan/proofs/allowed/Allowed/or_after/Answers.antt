use Rattle.sf_scan.proofs.Sets.{marks_or, marks_if}
use Rattle.sf_scan.proofs.allowed.Allowed.or_after.Goals as goal

pub returns-clause-expected : goal.returns-clause-expected
returns-clause-expected c next after h k =
    rw (c.new.ensures, c.set_if.ensures)
    (marks_or _ _ next _ h (marks_if c.args.self.may_end _ after k))
