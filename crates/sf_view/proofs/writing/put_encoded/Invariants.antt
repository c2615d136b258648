use Rattle.std.proofs.Common.{ℕ, List, length}
use Rattle.sf_value.specs.Grammar.Canonical.{canon_shown}
use Rattle.sf_view.specs.declared.bytes.Coding.TheVariants as coding
use Rattle.sf_view.specs.Decoding.{Remains}
use Rattle.sf_write.proofs.Following.{Remains as Unsent}
use Rattle.sf_view.proofs.Writes.{Unencoded}
use Rattle.sf_view.proofs.writing.put_encoded.Given as goal

abbrev pub invariant-loop-byte : goal.invariant-loop-byte
invariant-loop-byte g l =
    (t : List ℕ) → Remains coding.Percent l.text t
    → Unencoded l.rest
    (λ u. Unsent g.W.Sink.state g.W.Sink.send_gives l.fn.out l.out l.fn.before l.sent (canon_shown t) u)

abbrev pub decreases-loop-byte : goal.decreases-loop-byte
decreases-loop-byte g l = length l.rest
