use Rattle.std.proofs.Common.{◌≡◌, ◌++◌, drop}
use Rattle.sf_nodes.specs.Nodes.{members_content}
use Rattle.sf_nodes.proofs.flattening.push_members.Given as goal

abbrev pub invariant-loop-member : goal.invariant-loop-member
invariant-loop-member l =
    l.flat ++ members_content (drop l.member-index l.members)
    ≡ l.fn.flat ++ members_content l.members
