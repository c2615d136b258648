use Rattle.sf_c.proofs.DecidedHops.{hop_decided}
use Rattle.sf_c.proofs.hop_parts.is_hop.Goals as goal

pub returns : goal.returns
returns c =
    hop_decided c.args.bytes.now c.args.hop.now c.is_name-name.result c.is_outcome-outcome.result
    c.is_ttl-ttl.result c.is_key-key.result c.is_detail-detail.result c.is_name-name.ensures
    c.is_outcome-outcome.ensures c.is_ttl-ttl.ensures c.is_key-key.ensures c.is_detail-detail.ensures
