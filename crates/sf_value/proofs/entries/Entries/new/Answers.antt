use Rattle.sf_value.proofs.EntryMaps.{AreEntries-none}
use Rattle.sf_value.proofs.entries.Entries.new.Goals as goal

pub invariant_of-result : goal.invariant_of-result
invariant_of-result g c = (AreEntries-none, tt)
