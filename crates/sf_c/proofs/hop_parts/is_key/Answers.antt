use Rattle.sf_c.proofs.DecidedHops.{none_decided, some_decided}
use Rattle.sf_c.proofs.hop_parts.is_key.Goals as goal

pub returns-then-hop-eq0 : goal.returns-then-hop-eq0
returns-then-hop-eq0 c = none_decided c.args.hop.now.has_key _ c.if-hop-eq0.true

pub returns : goal.returns
returns c =
    some_decided c.args.hop.now.has_key _ c.is_string.result c.if-hop-eq0.false c.is_string.ensures
