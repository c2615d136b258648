use Rattle.std.proofs.Common.{◌+◌, ◌≤◌, ℕ, List, length}
use Rattle.sf_view.specs.Decoding.{Remains}
use Rattle.sf_view.proofs.Decoding.{CountedSoFar}
use Rattle.sf_view.proofs.bytes.count_bytes.Given as goal

abbrev pub invariant-loop-next : goal.invariant-loop-next
invariant-loop-next l = record {
  within : l.count + length l.rest ≤ length l.text;
  counted : (t : List ℕ) → Remains l.fn.start l.text t → CountedSoFar l.coding l.rest l.count t;
}

abbrev pub decreases-loop-next : goal.decreases-loop-next
decreases-loop-next l = length l.rest
