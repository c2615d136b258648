use Rattle.sf_use.specs.declared.cache_status.hop.Outcome.TheVariants.{Hit, Unsaid}
use Rattle.sf_c.proofs.DecidedHops.{forwarded_decided, conflict_decided}
use Rattle.sf_c.proofs.hop_parts.is_outcome.Goals as goal

pub returns-in-0 : goal.returns-in-0
returns-in-0 c = (Unsaid, c.in-0.is)

pub returns-in-1 : goal.returns-in-1
returns-in-1 c = (Hit, c.in-1.is)

pub returns-in-2 : goal.returns-in-2
returns-in-2 c =
    forwarded_decided c.args.bytes.now c.args.hop.now c.is_passed.result c.in-2.is c.is_passed.ensures

pub returns-in-3 : goal.returns-in-3
returns-in-3 c =
    conflict_decided c.args.bytes.now c.args.hop.now c.is_passed-in-3.result c.in-3.is
    c.is_passed-in-3.ensures
