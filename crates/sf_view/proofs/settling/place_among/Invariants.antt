use Rattle.std.proofs.Common.{◌≢◌, ℕ, ◌-◌, ◌<◌, ◌≤◌, get_or, length}
use Rattle.sf_view.specs.Settling.{key_from}
use Rattle.sf_view.proofs.settling.place_among.Given as goal

abbrev pub invariant-loop-place : goal.invariant-loop-place
invariant-loop-place l = record {
  within : l.place ≤ length l.order;
  absent : (i : ℕ) → i < l.place → key_from l.source l.nodes (get_or l.order i 0) ≢ l.key;
}

abbrev pub decreases-loop-place : goal.decreases-loop-place
decreases-loop-place l = length l.order - l.place
