use Rattle.std.specs.Bool.{one_answer}
use Rattle.sf_value.specs.Equality.{field_eq}
use Rattle.sf_value.specs.Deciding.{field_decides}
use Rattle.sf_value.proofs.equality.FieldPartialEq.eq.Goals as goal

pub returns-clause-eq : goal.returns-clause-eq
returns-clause-eq c =
    one_answer c.same.result (field_eq c.args.self.now c.args.other.now) c.same.ensures
    (field_decides c.args.self.now c.args.other.now)
