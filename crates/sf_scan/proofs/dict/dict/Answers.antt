use Rattle.std.proofs.Common.{rules}
use Rattle.sf_scan.proofs.Entries.{entry_element}
use Rattle.sf_scan.proofs.dict.dict.Goals as goal

pub series-requires : goal.series-requires
series-requires g c = search (rules, entry_element)
