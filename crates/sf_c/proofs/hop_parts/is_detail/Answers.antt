use Rattle.sf_c.proofs.DecidedHops.{none_decided, some_decided}
use Rattle.sf_c.proofs.hop_parts.is_detail.Goals as goal

pub returns-then-hop-eq0 : goal.returns-then-hop-eq0
returns-then-hop-eq0 c = none_decided c.args.hop.now.has_detail _ c.if-hop-eq0.true

pub returns : goal.returns
returns c =
    some_decided c.args.hop.now.has_detail _ c.is_name.result c.if-hop-eq0.false c.is_name.ensures
