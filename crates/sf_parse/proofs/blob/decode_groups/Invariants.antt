use Rattle.std.proofs.Common.{ℕ, List, length, take, ◌++◌, ◌≤◌}
use Rattle.sf_parse.specs.Prefixes.{Goes}
use Rattle.sf_parse.specs.Machine.Blobs.{H0, Group, blob_step}
use Rattle.sf_parse.proofs.blob.decode_groups.Given as goal

abbrev pub invariant-loop-rest : goal.invariant-loop-rest
invariant-loop-rest l = record {
  within : l.count ≤ 96;
  goes :
      (bs : List ℕ)
      → Goes blob_step (Group bs H0) l.chunk l.rest (Group (bs ++ take l.count l.block) H0);
}

abbrev pub decreases-loop-rest : goal.decreases-loop-rest
decreases-loop-rest l = length l.rest
