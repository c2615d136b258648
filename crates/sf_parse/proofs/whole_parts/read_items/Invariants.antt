use Rattle.std.proofs.Common.{ℕ, List, length}
use Rattle.sf_value.specs.declared.value.Item.{Item}
use Rattle.sf_parse.specs.WholeParts.{ReadsItems}
use Rattle.sf_parse.proofs.whole_parts.read_items.Given as goal

-- whatever Items the rest begins with, the text begins with those added and these
abbrev pub invariant-loop-left : goal.invariant-loop-left
invariant-loop-left l = (all : List Item) (s : List ℕ)
    → ReadsItems l.context.dialect 0 l.rest l.items all s
    → ReadsItems l.context.dialect 0 l.text l.initial.items all s

abbrev pub decreases-loop-left : goal.decreases-loop-left
decreases-loop-left l = length l.rest
