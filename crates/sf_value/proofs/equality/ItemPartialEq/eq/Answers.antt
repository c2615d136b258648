use Rattle.std.specs.Bool.{one_answer}
use Rattle.sf_value.specs.Equality.{item_eq}
use Rattle.sf_value.specs.Deciding.{item_decides}
use Rattle.sf_value.proofs.equality.ItemPartialEq.eq.Goals as goal

pub returns-clause-eq : goal.returns-clause-eq
returns-clause-eq c =
    one_answer c.same.result (item_eq c.args.self.now c.args.other.now) c.same.ensures
    (item_decides c.args.self.now c.args.other.now)
