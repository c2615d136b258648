use Rattle.sf_write.proofs.Following.{then}
use Rattle.sf_lint.proofs.deciding.put_decided.Goals as goal

pub returns : goal.returns
returns g c =
    let name = rw c.as_bytes.ensures.value at c.put-sent-2.ensures in
    let outcome = rw (
      c.is_by_rules-decides.ensures,
      c.decide_with-decision.ensures,
      c.rules_for-rules.ensures,
    ) at c.put_outcome.ensures in
    then c.put-sent.ensures (then name (then c.put-sent-3.ensures outcome))
