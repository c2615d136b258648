use Rattle.std.proofs.Common.{length}
use Rattle.sf_value.specs.Grammar.Canonical.{canon_base64}
use Rattle.sf_write.proofs.Following.{Remains}
use Rattle.sf_write.proofs.blobs.put_base64.Given as goal

abbrev pub invariant-loop-rest : goal.invariant-loop-rest
invariant-loop-rest g l =
    Remains g.W.Sink.state g.W.Sink.send_gives l.fn.out l.out l.fn.before l.count
    (canon_base64 l.bytes) (canon_base64 l.rest)

abbrev pub decreases-loop-rest : goal.decreases-loop-rest
decreases-loop-rest g l = length l.rest
