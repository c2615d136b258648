use Rattle.std.proofs.Common.{length}
use Rattle.sf_tool.proofs.AcceptedLines.{HasRead}
use Rattle.sf_tool.proofs.scanning.first_stop.Given as goal

abbrev pub invariant-loop-line : goal.invariant-loop-line
invariant-loop-line l = HasRead l.dialect l.kind l.input l.rest l.place

abbrev pub decreases-loop-line : goal.decreases-loop-line
decreases-loop-line l = length l.rest
