use Rattle.std.proofs.Common.{ap}
use Rattle.sf_tool.specs.Texts.{set_text}
use Rattle.sf_write.proofs.Following.{remains_less, remains_none}
use Rattle.sf_tool.proofs.sets.put_set.Goals as goal

pub loop-first-preserved : goal.loop-first-preserved
loop-first-preserved g c =
    remains_less c.loop-first.invariant (ap set_text c.in-Some.ensures.steps) c.put_run-sent.ensures

pub returns : goal.returns
returns g c = remains_none c.loop-first.invariant (ap set_text c.in-None.ensures.steps.0)
