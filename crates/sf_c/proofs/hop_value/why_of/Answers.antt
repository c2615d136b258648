use Rattle.sf_c.proofs.GivenHops.{no_other}
use Rattle.sf_c.proofs.hop_value.why_of.Goals as goal

pub returns-in-Err : goal.returns-in-Err
returns-in-Err c =
    no_other c.args.bytes.now c.args.hop.now c.in-Err.status c.in-9.is c.in-Err.ensures
