use Rattle.sf_rfc.proofs.ParsingInnerLists.{members_agree}
use Rattle.sf_rfc.proofs.parsing.member_parses.Goals as goal

pub returns : goal.returns
returns c = members_agree
