use Rattle.sf_write.proofs.Following.{Remains}
use Rattle.sf_parse.specs.ByteSets.{runs_of}
use Rattle.sf_tool.specs.Texts.{set_text}
use Rattle.sf_tool.proofs.sets.put_set.Given as goal

abbrev pub invariant-loop-first : goal.invariant-loop-first
invariant-loop-first g l =
    Remains g.W.Sink.state g.W.Sink.send_gives l.fn.out l.out l.fn.before l.sent
    (set_text (runs_of l.set)) (set_text l.first-iterator)
