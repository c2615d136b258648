use Rattle.std.specs.Bool.{one_answer}
use Rattle.std.specs.Cmp.Lexicographic.{pointwise}
use Rattle.sf_value.specs.Equality.{entry_eq}
use Rattle.sf_value.specs.Deciding.{pairs_decide}
use Rattle.sf_value.proofs.equality.EntriesPartialEq.eq.Goals as goal

pub returns-clause-eq : goal.returns-clause-eq
returns-clause-eq g c =
    one_answer c.same.result (pointwise (entry_eq g.V.PartialEq.eq) c.args.self.now c.args.other.now) c.same.ensures
    (pairs_decide g.V.PartialEq.eq g.met.V.Part.decides c.args.self.now c.args.other.now)
