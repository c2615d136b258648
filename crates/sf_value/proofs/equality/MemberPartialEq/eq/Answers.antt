use Rattle.std.specs.Bool.{one_answer}
use Rattle.sf_value.specs.Equality.{member_eq}
use Rattle.sf_value.specs.Deciding.{member_decides}
use Rattle.sf_value.proofs.equality.MemberPartialEq.eq.Goals as goal

pub returns-clause-eq : goal.returns-clause-eq
returns-clause-eq c =
    one_answer c.same.result (member_eq c.args.self.now c.args.other.now) c.same.ensures
    (member_decides c.args.self.now c.args.other.now)
