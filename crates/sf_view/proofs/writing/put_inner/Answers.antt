use Rattle.sf_write.proofs.Following.{then}
use Rattle.sf_view.proofs.writing.put_inner.Goals as goal

pub returns : goal.returns
returns g c = λ d l t r u.
    then c.put-sent.ensures
    (then (c.put_items-sent.ensures d l.items t)
    (then c.put-sent-2.ensures (c.put_params.ensures d r l.params u)))
