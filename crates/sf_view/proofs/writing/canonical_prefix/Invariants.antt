use Rattle.std.proofs.Common.{length}
use Rattle.sf_view.proofs.Writes.{Canonical}
use Rattle.sf_view.proofs.writing.canonical_prefix.Given as goal

abbrev pub invariant-loop-later : goal.invariant-loop-later
invariant-loop-later l = Canonical l.text l.rest

abbrev pub decreases-loop-later : goal.decreases-loop-later
decreases-loop-later l = length l.rest
