use Rattle.sf_write.proofs.Following.{then}
use Rattle.sf_write.proofs.CanonSteps.{value_written}
use Rattle.sf_write.proofs.params.put_value.Goals as goal

pub returns-clause-text : goal.returns-clause-text
returns-clause-text g c =
    rw (value_written _ c.if-is_true.ensures.1) (then c.put-sent.ensures c.put_bare.ensures.text)
