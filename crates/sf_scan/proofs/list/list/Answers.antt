use Rattle.std.proofs.Common.{rules}
use Rattle.sf_scan.proofs.Members.{member_element}
use Rattle.sf_scan.proofs.list.list.Goals as goal

pub series-requires : goal.series-requires
series-requires g c = search (rules, member_element)
