use Rattle.sf_parse.proofs.WholeParts.{inner_whole}
use Rattle.sf_parse.proofs.whole_parts.read_inner.Goals as goal

pub returns : goal.returns
returns c =
    inner_whole _ _ _ _ _ _ _ c.new-items.ensures c.in_ok-after.ensures c.in_ok-rest.ensures.reads
