use Rattle.sf_value.specs.declared.dialect.Dialect.TheVariants.{Rfc9651}
use Rattle.sf_value.specs.Grammar.Canonical.{canon_params}
use Rattle.sf_value.specs.Grammar.Valid.{ValidBare}
use Rattle.sf_write.proofs.Following.{Remains}
use Rattle.sf_write.proofs.ValidParts.{Awaits}
use Rattle.sf_write.proofs.params.put_each_param.Given as goal

abbrev pub invariant-loop-key : goal.invariant-loop-key
invariant-loop-key g l = record {
  text : Remains g.W.Sink.state g.W.Sink.send_gives l.fn.out l.out l.fn.before l.sent
      (canon_params l.params) (canon_params l.key-iterator);
  valid : Awaits (λ p. ValidBare Rfc9651 p.1) l.params l.key-iterator;
}
