use Rattle.std.proofs.Common.{length}
use Rattle.sf_parse.specs.Prefixes.{Goes}
use Rattle.sf_parse.specs.Machine.Blobs.{H0, Group, blob_step}
use Rattle.sf_parse.proofs.blob.take_groups.Given as goal

abbrev pub invariant-loop-rest : goal.invariant-loop-rest
invariant-loop-rest l =
    Goes blob_step (Group l.initial.bytes H0) l.chunk l.rest (Group l.bytes H0)

abbrev pub decreases-loop-rest : goal.decreases-loop-rest
decreases-loop-rest l = length l.rest
