use Rattle.sf_write.proofs.Following.{then}
use Rattle.sf_write.proofs.CanonSteps.{flag_is}
use Rattle.sf_write.proofs.dicts.put_item_after.Goals as goal

pub returns-clause-text : goal.returns-clause-text
returns-clause-text g c =
    rw (flag_is _ _) (then c.put_value-sent.ensures.text c.put_params.ensures.text)
