use Rattle.sf_rfc.proofs.ParsingBareItems.{bare_items_agree}
use Rattle.sf_rfc.proofs.parsing.bare_item_parses.Goals as goal

pub returns : goal.returns
returns c = bare_items_agree
