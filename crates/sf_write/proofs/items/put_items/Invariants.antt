use Rattle.std.proofs.Common.{drop}
use Rattle.sf_value.specs.declared.dialect.Dialect.TheVariants.{Rfc9651}
use Rattle.sf_value.specs.Grammar.Canonical.{canon_items, canon_more}
use Rattle.sf_value.specs.Grammar.Valid.{ValidItem}
use Rattle.sf_write.proofs.Following.{Remains}
use Rattle.sf_write.proofs.ValidParts.{Awaits}
use Rattle.sf_write.proofs.items.put_items.Given as goal

abbrev pub invariant-loop-item : goal.invariant-loop-item
invariant-loop-item g l = record {
  text : Remains g.W.Sink.state g.W.Sink.send_gives l.fn.out l.out l.fn.before l.sent
      (canon_items l.items) (canon_more (drop l.item-index l.others));
  valid : Awaits (ValidItem Rfc9651) l.items (drop l.item-index l.others);
}
