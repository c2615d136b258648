use Rattle.sf_write.proofs.Following.{then}
use Rattle.sf_tool.proofs.choice.put_flags.Goals as goal

pub returns : goal.returns
returns g c =
    then c.put_flag-sent.ensures
    (then c.put_flag-sent-2.ensures
    (then c.put_flag-sent-3.ensures c.put_flag.ensures))
