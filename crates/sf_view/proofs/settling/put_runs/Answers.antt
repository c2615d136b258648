use Rattle.sf_view.proofs.SettledNodes.{runs_more}
use Rattle.sf_view.proofs.settling.put_runs.Goals as goal

pub loop-start-preserved : goal.loop-start-preserved
loop-start-preserved c =
    runs_more _ _ _ _ _ _ _ _ _ c.loop-start.invariant c.in_ok-count.ensures.puts c.in_ok-run.ensures
    c.loop-start-test.true
