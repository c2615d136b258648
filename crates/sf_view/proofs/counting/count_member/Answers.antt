use Rattle.sf_view.proofs.CountedParts.{member_inner, member_item}
use Rattle.sf_view.proofs.counting.count_member.Goals as goal

pub returns-then-is_some : goal.returns-then-is_some
returns-then-is_some c = member_inner _ _ _ _ _ c.in_ok-counts.ensures

pub returns : goal.returns
returns c = member_item _ _ _ _ _ c.in_ok-counts-2.ensures
