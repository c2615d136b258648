use Rattle.std.proofs.Common.{length, ◌≡◌, true}
use Rattle.sf_scan.proofs.Separated.{Has}
use Rattle.sf_scan.proofs.series.series.Given as goal

abbrev pub invariant-loop-more : goal.invariant-loop-more
invariant-loop-more g l = record {
  has : Has (g.E.Element.spells l.dialect) g.E.Element.made
      (g.E.ElementPlace.next l.dialect l.end.place) l.text l.end.left.now l.fn.maker l.maker;
  ended : g.E.ElementPlace.ends l.end.place ≡ true;
}

abbrev pub decreases-loop-more : goal.decreases-loop-more
decreases-loop-more g l = length l.end.left.now
