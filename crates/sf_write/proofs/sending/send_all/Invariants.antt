use Rattle.std.proofs.Common.{length}
use Rattle.sf_write.proofs.Joining.{Unwritten, Uncalled}
use Rattle.sf_write.proofs.sending.send_all.Given as goal

abbrev pub invariant-loop-rest : goal.invariant-loop-rest
invariant-loop-rest g l = record {
  written : Unwritten (g.W.Sink.state l.initial.out) (g.W.Sink.state l.out) l.before l.written
      l.initial.rest l.rest;
  calls : Uncalled g.W.Sink.send_gives l.initial.out l.out l.initial.rest l.rest;
}

abbrev pub decreases-loop-rest : goal.decreases-loop-rest
decreases-loop-rest g l = length l.rest
