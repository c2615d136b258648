use Rattle.std.proofs.Common.{length}
use Rattle.sf_parse.specs.Prefixes.{Goes}
use Rattle.sf_parse.specs.Machine.Numbers.{date_step}
use Rattle.sf_parse.proofs.date.DateReader.take_run.Given as goal

abbrev pub invariant-loop-byte : goal.invariant-loop-byte
invariant-loop-byte l = Goes date_step l.initial.self l.chunk l.rest l.self

abbrev pub decreases-loop-byte : goal.decreases-loop-byte
decreases-loop-byte l = length l.rest
