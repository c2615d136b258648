use Rattle.std.proofs.Common.{List, length}
use Rattle.sf_value.specs.declared.dialect.Dialect.{Dialect}
use Rattle.sf_value.specs.declared.value.Item.{Item}
use Rattle.sf_value.specs.Grammar.Canonical.{canon_items, canon_more}
use Rattle.sf_write.proofs.Following.{Remains}
use Rattle.sf_view.specs.View.{DescribesItems}
use Rattle.sf_view.proofs.Writes.{Unwritten}
use Rattle.sf_view.proofs.writing.put_items.Given as goal

abbrev pub invariant-loop-part : goal.invariant-loop-part
invariant-loop-part g l = (d : Dialect) (xs : List Item)
    → DescribesItems d l.fn.view.text.now l.fn.view.nodes.now xs
    → Unwritten (DescribesItems d) canon_more l.rest
    (Remains g.W.Sink.state g.W.Sink.send_gives l.fn.out l.out l.fn.before l.sent
    (canon_items xs))

abbrev pub decreases-loop-part : goal.decreases-loop-part
decreases-loop-part g l = length l.rest.nodes.now
