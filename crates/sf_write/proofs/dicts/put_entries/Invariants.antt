use Rattle.sf_value.specs.declared.dialect.Dialect.TheVariants.{Rfc9651}
use Rattle.sf_value.specs.Grammar.Canonical.{canon_entry, canon_commas, canon_series}
use Rattle.sf_value.specs.Grammar.Valid.{ValidMember}
use Rattle.sf_write.proofs.Following.{Remains}
use Rattle.sf_write.proofs.ValidParts.{Awaits}
use Rattle.sf_write.proofs.dicts.put_entries.Given as goal

abbrev pub invariant-loop-key : goal.invariant-loop-key
invariant-loop-key g l = record {
  text : Remains g.W.Sink.state g.W.Sink.send_gives l.fn.out l.out l.fn.before l.sent
      (canon_series canon_entry l.entries) (canon_commas canon_entry l.key-iterator);
  valid : Awaits (λ p. ValidMember Rfc9651 p.1) l.entries l.key-iterator;
}
