use Rattle.std.proofs.Common.{arith}
use Rattle.sf_value.proofs.Runs.{every_block}
use Rattle.sf_value.proofs.classes.far_run.Goals as goal

pub loop-run-preserved : goal.loop-run-preserved
loop-run-preserved g c = record {
  within = let h = c.loop-run-test.true in omega arith;
  every =
      every_block g.C.ByteClass.test _ _ _ c.loop-run.invariant.every
      (c.are_pair.ensures c.if-are_pair.true);
}

pub returns-clause-every : goal.returns-clause-every
returns-clause-every g c =
    every_block g.C.ByteClass.test _ _ _ c.loop-run.invariant.every c.lanes_run.ensures.every
