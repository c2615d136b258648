use Rattle.sf_rfc.proofs.ParsingInnerLists.{inner_lists_agree}
use Rattle.sf_rfc.proofs.parsing.inner_list_parses.Goals as goal

pub returns : goal.returns
returns c = inner_lists_agree
