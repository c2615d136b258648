use Rattle.std.proofs.Common.{sym, ◌∙◌, arith}
use Rattle.sf_value.proofs.Runs.{every_more}
use Rattle.sf_value.proofs.classes.any_prefix.Goals as goal

pub loop-run-preserved : goal.loop-run-preserved
loop-run-preserved g c = record {
  within = let h = c.loop-run-test.true in omega arith;
  every =
      every_more g.C.ByteClass.test _ _ c.loop-run.invariant.every
      (let h = c.loop-run-test.true in omega (arith, c.min-near.ensures))
      (sym c.has.ensures ∙ c.if-has.true);
}
