use Rattle.std.proofs.Common.{[], length}
use Rattle.sf_parse.specs.Prefixes.{Goes}
use Rattle.sf_parse.specs.Views.{held_of, FitsHeld}
use Rattle.sf_parse.specs.Machine.Blobs.{H0, Group, blob_step}
use Rattle.sf_parse.proofs.blob.decode.Given as goal

abbrev pub invariant-loop-value : goal.invariant-loop-value
invariant-loop-value l = record {
  goes : Goes blob_step (Group [] H0) l.text l.rest (Group l.bytes (held_of l.held));
  fits : FitsHeld l.held;
}

abbrev pub decreases-loop-value : goal.decreases-loop-value
decreases-loop-value l = length l.rest
