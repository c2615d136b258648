use Rattle.std.specs.Bool.{one_answer}
use Rattle.std.specs.Cmp.Lexicographic.{pointwise, pointwise_decides}
use Rattle.sf_value.proofs.equality.SequencePartialEq.eq.Goals as goal

pub returns-clause-eq : goal.returns-clause-eq
returns-clause-eq g c =
    one_answer c.same.result (pointwise g.T.PartialEq.eq c.args.self.now c.args.other.now) c.same.ensures
    (pointwise_decides g.met.T.Part.decides c.args.self.now c.args.other.now)
