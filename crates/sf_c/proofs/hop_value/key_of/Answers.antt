use Rattle.sf_c.specs.GivenHops.{GivesString}
use Rattle.sf_c.proofs.GivenHops.{no_some}
use Rattle.sf_c.proofs.hop_value.key_of.Goals as goal

pub returns-in-Err : goal.returns-in-Err
returns-in-Err c =
    no_some c.args.has_key (GivesString c.args.bytes.now c.args.span) c.in-Err.status
    c.if-has_key-eq0.false c.in-Err.ensures
