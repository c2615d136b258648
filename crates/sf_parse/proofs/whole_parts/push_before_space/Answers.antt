use Rattle.sf_parse.proofs.WholeParts.{item_whole}
use Rattle.sf_parse.proofs.WholeSteps.{item_goes}
use Rattle.sf_parse.proofs.whole_parts.push_before_space.Goals as goal

pub returns : goal.returns
returns c =
    item_goes _ _ _ _ _ _ _ _
    (item_whole _ _ _ _ _ _ c.requires.reads c.in_ok-rest.ensures.reads) c.in-Some.ensures
    c.after_spaces.ensures c.in_ok-push_leaf.ensures.added
