use Rattle.std.proofs.Common.{◌-◌, ◌≤◌}
use Rattle.sf_parse.proofs.Readings.{ReadSoFar}
use Rattle.sf_parse.proofs.reader.parse_reader.Given as goal

abbrev pub invariant-loop-given : goal.invariant-loop-given
invariant-loop-given g l =
    ReadSoFar (g.R.Source.state l.initial.reader) (g.R.Source.state l.reader) l.fn.kind l.fn.max
    l.given l.parser
    × (l.given ≤ l.limit)

abbrev pub decreases-loop-given : goal.decreases-loop-given
decreases-loop-given g l = l.limit - l.given
