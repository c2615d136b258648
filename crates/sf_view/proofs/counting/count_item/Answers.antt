use Rattle.sf_view.proofs.CountedParts.{item_counts}
use Rattle.sf_view.proofs.counting.count_item.Goals as goal

pub returns : goal.returns
returns c =
    item_counts _ _ _ _ _ _ _ _ _ _ _ c.in-Some.ensures c.in_ok-params.ensures c.of_bare-own.ensures.nodes
    c.of_bare-own.ensures.bytes c.in_ok-counts.ensures.nodes c.in_ok-counts.ensures.bytes
