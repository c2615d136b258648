use Rattle.std.proofs.Common.{arith}
use Rattle.sf_parse.proofs.Blocks.{decoded_on}
use Rattle.sf_parse.proofs.blob.decode_groups.Goals as goal

pub loop-rest-preserved : goal.loop-rest-preserved
loop-rest-preserved c = record {
  within = omega arith;
  goes =
      λ bs. decoded_on bs _ _ _ _ _ _ _ (omega arith) c.in-len4-up.len_at_least
      (c.loop-rest.invariant.goes bs) (rw c.in-Some.is at c.group_bytes.ensures);
}
