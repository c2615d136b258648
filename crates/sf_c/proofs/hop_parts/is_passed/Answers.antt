use Rattle.sf_c.proofs.DecidedHops.{passed_decided}
use Rattle.sf_c.proofs.hop_parts.is_passed.Goals as goal

pub returns : goal.returns
returns c =
    passed_decided c.args.bytes.now c.args.hop.now c.is_why-why.result c.is_status-status.result
    c.is_why-why.ensures c.is_status-status.ensures
