use Rattle.sf_parse.proofs.Prefixes.{push_tried}
use Rattle.sf_parse.proofs.level.Level.push.Goals as goal

pub returns-clause-prefix : goal.returns-clause-prefix
returns-clause-prefix g c =
    let d = c.args.context.now.dialect in
    push_tried (g.Self.Level.next d) (g.Self.Level.stuck d c.push_part.new.self) _ _ _ _ _ _
    c.in_ok-push_part.ensures.goes c.in_ok-push_part.ensures.stuck c.if-branch.false
    c.turn.ensures.step
