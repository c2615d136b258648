use Rattle.sf_rfc.proofs.ParsingLists.{dictionaries_agree}
use Rattle.sf_rfc.proofs.parsing.dictionary_parses.Goals as goal

pub returns : goal.returns
returns c = dictionaries_agree
