use Rattle.std.proofs.Common.{◌≡◌, ℕ, ◌≤◌, List, length, take}
use Rattle.sf_view.specs.Decoding.{Remains}
use Rattle.sf_view.proofs.Decoding.{Decoded}
use Rattle.sf_view.proofs.bytes.fill.Given as goal

abbrev pub invariant-loop-byte : goal.invariant-loop-byte
invariant-loop-byte l = record {
  within : l.count ≤ length l.buffer;
  same : length l.buffer ≡ length l.initial.buffer;
  decoded : (t : List ℕ) → Remains l.fn.start l.text t
      → Decoded l.coding l.rest (take l.count l.buffer) t;
}

abbrev pub decreases-loop-byte : goal.decreases-loop-byte
decreases-loop-byte l = length l.rest
