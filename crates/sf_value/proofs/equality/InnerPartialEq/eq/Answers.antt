use Rattle.std.specs.Bool.{one_answer}
use Rattle.sf_value.specs.Equality.{inner_eq}
use Rattle.sf_value.specs.Deciding.{inner_decides}
use Rattle.sf_value.proofs.equality.InnerPartialEq.eq.Goals as goal

pub returns-clause-eq : goal.returns-clause-eq
returns-clause-eq c =
    one_answer c.same.result (inner_eq c.args.self.now c.args.other.now) c.same.ensures
    (inner_decides c.args.self.now c.args.other.now)
