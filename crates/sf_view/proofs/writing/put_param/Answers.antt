use Rattle.sf_write.proofs.Following.{then}
use Rattle.sf_view.proofs.writing.put_param.Goals as goal

pub returns-in_default : goal.returns-in_default
returns-in_default g c = λ d r k x t. absurd (c.in_default.ensures.param d r k x t)

pub returns : goal.returns
returns g c = λ d r k x t.
    let key = rw (c.key.ensures.param d r k x t) at c.put-sent-2.ensures in
    then c.put-sent.ensures
    (then key (c.put_value.ensures d x (c.in-Some.ensures.param d r k x t)))
