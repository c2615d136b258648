use Rattle.std.specs.Bool.{one_answer}
use Rattle.std.specs.Cmp.Lexicographic.{pointwise}
use Rattle.sf_value.specs.Equality.{member_eq}
use Rattle.sf_value.specs.Deciding.{members_decide}
use Rattle.sf_value.proofs.equality.ListPartialEq.eq.Goals as goal

pub returns-clause-eq : goal.returns-clause-eq
returns-clause-eq c =
    one_answer c.same.result (pointwise member_eq c.args.self.now.members c.args.other.now.members) c.same.ensures
    (members_decide c.args.self.now.members c.args.other.now.members)
