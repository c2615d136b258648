use Rattle.std.proofs.Common.{◌≡◌, List, length}
use Rattle.sf_value.specs.declared.dialect.Dialect.{Dialect}
use Rattle.sf_value.specs.declared.value.Item.{Item}
use Rattle.sf_value.specs.Grammar.Words.{Each}
use Rattle.sf_value.specs.Grammar.Pairs.{HasDistinctKeys}
use Rattle.sf_value.specs.Grammar.Valid.{ValidItem}
use Rattle.sf_view.specs.View.{DescribesItems}
use Rattle.sf_view.proofs.Copying.{PartsLeft}
use Rattle.sf_view.proofs.copies.items.Given as goal

abbrev pub invariant-loop-part : goal.invariant-loop-part
invariant-loop-part l = record {
  text : l.rest.text.now ≡ l.view.text.now;
  left : (d : Dialect) (is : List Item) → DescribesItems d l.view.text.now l.view.nodes.now is
      → Each (λ i. HasDistinctKeys i.params) is
      → PartsLeft (DescribesItems d l.rest.text.now)
      (λ i. HasDistinctKeys i.params × (Each (ValidItem d) is → ValidItem d i))
      l.rest.nodes.now l.all is;
}

abbrev pub decreases-loop-part : goal.decreases-loop-part
decreases-loop-part l = length l.rest.nodes.now
