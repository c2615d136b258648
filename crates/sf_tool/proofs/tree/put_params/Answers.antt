use Rattle.std.proofs.Common.{ap, refl}
use Rattle.sf_tool.specs.Tree.{param_lines}
use Rattle.sf_write.proofs.Following.{remains_less, remains_none}
use Rattle.sf_tool.proofs.tree.put_params.Goals as goal

pub loop-key-preserved : goal.loop-key-preserved
loop-key-preserved g c =
    let next = ap (param_lines c.args.depth) c.in-Some.ensures.steps in
    let margin = remains_less c.loop-key.invariant next c.put_margin-sent.ensures in
    let mark = remains_less margin refl c.put-sent.ensures in
    let key = remains_less mark refl c.put-sent-in-loop-key.ensures in
    let gap = remains_less key refl c.put-sent-in-loop-key-2.ensures in
    remains_less gap refl c.put_bare_line-sent.ensures

pub returns : goal.returns
returns g c =
    remains_none c.loop-key.invariant (ap (param_lines c.args.depth) c.in-None.ensures.steps.0)
