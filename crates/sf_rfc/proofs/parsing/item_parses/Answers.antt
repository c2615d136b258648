use Rattle.sf_rfc.proofs.ParsingItems.{items_agree}
use Rattle.sf_rfc.proofs.parsing.item_parses.Goals as goal

pub returns : goal.returns
returns c = items_agree
