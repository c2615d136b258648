use Rattle.sf_c.proofs.GivenHops.{no_conflict, no_forwarded}
use Rattle.sf_c.proofs.hop_value.outcome_of.Goals as goal

pub returns-in-Err : goal.returns-in-Err
returns-in-Err c =
    no_forwarded c.args.bytes.now c.args.hop.now c.in-Err.status c.in-2.is c.in-Err.ensures

pub returns-in-Err-passed_of : goal.returns-in-Err-passed_of
returns-in-Err-passed_of c =
    no_conflict c.args.bytes.now c.args.hop.now c.in-Err-passed_of.status c.in-3.is
    c.in-Err-passed_of.ensures
