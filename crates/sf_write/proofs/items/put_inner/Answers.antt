use Rattle.sf_write.proofs.Following.{then}
use Rattle.sf_write.proofs.items.put_inner.Goals as goal

pub returns-clause-text : goal.returns-clause-text
returns-clause-text g c =
    let items = rw c.as_slice.ensures at c.put_items-sent.ensures.text in
    then c.put-sent.ensures (then items (then c.put-sent-2.ensures c.put_params.ensures.text))

pub returns-clause-valid : goal.returns-clause-valid
returns-clause-valid g c =
    (rw c.as_slice.ensures at c.put_items-sent.ensures.valid, c.put_params.ensures.valid)
