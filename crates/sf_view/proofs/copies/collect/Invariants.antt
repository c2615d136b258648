use Rattle.std.proofs.Common.{ℕ, List, length}
use Rattle.sf_view.specs.Decoding.{Remains}
use Rattle.sf_view.proofs.Decoding.{Decoded}
use Rattle.sf_view.proofs.copies.collect.Given as goal

abbrev pub invariant-loop-all : goal.invariant-loop-all
invariant-loop-all l = record {
  decoded : (t : List ℕ) → Remains l.fn.start l.text t → Decoded l.coding l.rest l.all t;
}

abbrev pub decreases-loop-all : goal.decreases-loop-all
decreases-loop-all l = length l.rest
