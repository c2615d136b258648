use Rattle.sf_parse.proofs.Leading.{unencoded_goes, leads_run}
use Rattle.sf_parse.proofs.display_string.take_unencoded.Goals as goal

pub returns-in-Start-clause-goes : goal.returns-in-Start-clause-goes
returns-in-Start-clause-goes c =
    rw c.in-Start.is
    (unencoded_goes _ _ _ _ _ c.long_prefix.ensures.whole c.long_prefix.ensures.every
    c.in_ok-extend-in-Start.ensures.bytes)

pub returns-in-Start-clause-leads : goal.returns-in-Start-clause-leads
returns-in-Start-clause-leads c =
    let leads = rw c.in-Start.is at c.requires in
    rw c.in-Start.is
    (leads_run _ _ _ leads c.long_prefix.ensures.every c.in_ok-extend-in-Start.ensures.bytes)
