use Rattle.std.proofs.Common.{option_copied}
use Rattle.sf_view.specs.Cursors.{left_in}
use Rattle.sf_use.proofs.CacheStatusLemmas.Scanned.{HopsSoFar}
use Rattle.sf_use.proofs.cache_status.scanning.scan_hops.Given as goal

abbrev pub invariant-loop-hops : goal.invariant-loop-hops
invariant-loop-hops l = HopsSoFar l.fn.dialect l.text l.cursor l.hops.items

abbrev pub decreases-loop-hops : goal.decreases-loop-hops
decreases-loop-hops l = left_in (option_copied l.cursor.items.rest)
