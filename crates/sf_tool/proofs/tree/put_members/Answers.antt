use Rattle.std.proofs.Common.{ap, refl}
use Rattle.std.proofs.lemmas.List.{drop_all}
use Rattle.sf_tool.specs.Tree.{members_lines}
use Rattle.sf_tool.proofs.Walks.{next_left}
use Rattle.sf_write.proofs.Following.{remains_less, remains_none}
use Rattle.sf_tool.proofs.tree.put_members.Goals as goal

pub loop-member-preserved : goal.loop-member-preserved
loop-member-preserved g c =
    let next = next_left members_lines _ _ _ c.loop-member-test.true c.member-item.is in
    let margin = remains_less c.loop-member.invariant next c.put_margin-sent.ensures in
    remains_less margin refl c.put_member-sent.ensures

pub returns : goal.returns
returns g c =
    remains_none c.loop-member.invariant
    (ap members_lines (drop_all _ _ c.loop-member-test.false))
