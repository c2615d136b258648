use Rattle.sf_tool.specs.Tree.{param_lines}
use Rattle.sf_write.proofs.Following.{Remains}
use Rattle.sf_tool.proofs.tree.put_params.Given as goal

abbrev pub invariant-loop-key : goal.invariant-loop-key
invariant-loop-key g l =
    Remains g.W.Sink.state g.W.Sink.send_gives l.fn.out l.out l.fn.before l.sent
    (param_lines l.depth l.params) (param_lines l.depth l.key-iterator)
