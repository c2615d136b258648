use Rattle.std.proofs.Common.{◌≡◌, ◌+◌, take, sym, ◌∙◌, subst, arith}
use Rattle.sf_value.specs.Grammar.Words.{Every}
use Rattle.sf_value.proofs.Runs.{every_more, every_block}
use Rattle.sf_value.proofs.classes.lanes_run.Goals as goal

pub returns-then-more-lt-LANES-clause-every : goal.returns-then-more-lt-LANES-clause-every
returns-then-more-lt-LANES-clause-every g c =
    every_block g.C.ByteClass.test _ _ _ c.loop-run.invariant.every c.first_lanes-more.ensures.every

pub loop-run-preserved : goal.loop-run-preserved
loop-run-preserved g c =
    let block : c.first_lanes-more.result ≡ 16 =
    let h = c.first_lanes-more.ensures.within in
    let k = c.if-more-lt-LANES.false in
    omega arith in record {
      within = let h = c.loop-run-test.true in omega arith;
      every =
          subst (λ n. Every g.C.ByteClass.test (take (c.loop-run.run + n) c.args.text.now)) block
          (every_block g.C.ByteClass.test _ _ _ c.loop-run.invariant.every
          c.first_lanes-more.ensures.every);
    }

pub loop-run-2-preserved : goal.loop-run-2-preserved
loop-run-2-preserved g c = record {
  within = let h = c.loop-run-2-test.true in omega arith;
  every =
      every_more g.C.ByteClass.test _ _ c.loop-run-2.invariant.every c.loop-run-2-test.true
      (sym c.has.ensures ∙ c.if-has.true);
}
