use Rattle.std.specs.Bool.{one_answer}
use Rattle.std.specs.Cmp.Lexicographic.{pointwise}
use Rattle.sf_value.specs.Equality.{entry_eq, member_eq}
use Rattle.sf_value.specs.Deciding.{entries_decide}
use Rattle.sf_value.proofs.equality.DictPartialEq.eq.Goals as goal

pub returns-clause-eq : goal.returns-clause-eq
returns-clause-eq c =
    one_answer c.same.result (pointwise (entry_eq member_eq) c.args.self.now.members c.args.other.now.members) c.same.ensures
    (entries_decide c.args.self.now.members c.args.other.now.members)
