use Rattle.sf_c.proofs.DecidedHops.{unmade_decided}
use Rattle.sf_c.proofs.hop_parts.is_ttl.Goals as goal

pub returns-in-Err : goal.returns-in-Err
returns-in-Err c = unmade_decided _ c.in-Err.field-0 c.in-Err.ensures.invalid c.in-Err.ensures.gives
