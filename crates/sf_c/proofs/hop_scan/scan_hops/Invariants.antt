use Rattle.std.proofs.Common.{◌≡◌, length, option_copied}
use Rattle.sf_view.specs.Cursors.{left_in}
use Rattle.sf_c.specs.ScannedHops.{IsReadTo}
use Rattle.sf_c.proofs.hop_scan.scan_hops.Given as goal

abbrev pub invariant-loop-hop : goal.invariant-loop-hop
invariant-loop-hop l = record {
  same_hops : length l.hops ≡ length l.initial.hops;
  same_bytes : length l.bytes ≡ length l.initial.bytes;
  so_far : IsReadTo l.fn.dialect l.text l.cursor l.hops l.bytes l.read;
}

abbrev pub decreases-loop-hop : goal.decreases-loop-hop
decreases-loop-hop l = left_in (option_copied l.cursor.items.rest)
