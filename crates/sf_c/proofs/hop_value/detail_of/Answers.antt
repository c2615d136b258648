use Rattle.sf_c.specs.GivenHops.{GivesName}
use Rattle.sf_c.proofs.GivenHops.{no_some}
use Rattle.sf_c.proofs.hop_value.detail_of.Goals as goal

pub returns-in-Err : goal.returns-in-Err
returns-in-Err c =
    let n = c.args.hop.now in
    no_some n.has_detail (GivesName c.args.bytes.now n.detail n.detail_is_token) c.in-Err.status
    c.if-hop-eq0.false c.in-Err.ensures
