use Rattle.sf_write.proofs.Following.{then}
use Rattle.sf_view.proofs.writing.put_entry.Goals as goal

pub returns : goal.returns
returns g c = λ d k m t.
    let key = rw (c.key.ensures.member d k m t) at c.put-sent.ensures in
    then key (c.put_after.ensures d k m t)
