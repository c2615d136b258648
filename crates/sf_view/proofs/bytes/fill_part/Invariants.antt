use Rattle.std.proofs.Common.{◌≡◌, ℕ, ◌<◌, ◌≤◌, List, length, take}
use Rattle.sf_view.specs.Decoding.{Remains}
use Rattle.sf_view.proofs.Decoding.{Decoded}
use Rattle.sf_view.proofs.bytes.fill_part.Given as goal

abbrev pub invariant-loop-count : goal.invariant-loop-count
invariant-loop-count l = record {
  within : l.count ≤ length l.buffer;
  same : length l.buffer ≡ length l.initial.buffer;
  shorter : 1 ≤ l.count → length l.rest < length l.text;
  from : length l.rest ≤ length l.text;
  decoded : (t : List ℕ) → Remains l.fn.start l.text t
      → Decoded l.coding l.rest (take l.count l.buffer) t;
}

abbrev pub decreases-loop-count : goal.decreases-loop-count
decreases-loop-count l = length l.rest
