use Rattle.sf_rfc.proofs.ParsingLists.{lists_agree}
use Rattle.sf_rfc.proofs.parsing.list_parses.Goals as goal

pub returns : goal.returns
returns c = lists_agree
