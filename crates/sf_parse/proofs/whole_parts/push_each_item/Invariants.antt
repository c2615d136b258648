use Rattle.std.proofs.Common.{length}
use Rattle.sf_parse.specs.Prefixes.{Goes}
use Rattle.sf_parse.specs.Machine.Inners.{BetweenItems}
use Rattle.sf_parse.specs.Machine.Members.{InMany, member_step}
use Rattle.sf_parse.proofs.whole_parts.push_each_item.Given as goal

abbrev pub invariant-loop-rest : goal.invariant-loop-rest
invariant-loop-rest l =
    Goes (member_step l.context.dialect) (InMany (BetweenItems l.initial.items)) l.text l.rest
    (InMany (BetweenItems l.items))

abbrev pub decreases-loop-rest : goal.decreases-loop-rest
decreases-loop-rest l = length l.rest
