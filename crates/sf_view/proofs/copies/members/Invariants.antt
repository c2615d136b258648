use Rattle.std.proofs.Common.{◌≡◌, List, length}
use Rattle.sf_value.specs.declared.dialect.Dialect.{Dialect}
use Rattle.sf_value.specs.declared.value.Member.{Member}
use Rattle.sf_value.specs.Grammar.Words.{Each}
use Rattle.sf_value.specs.Grammar.Valid.{ValidMember}
use Rattle.sf_view.specs.View.{DescribesMembers}
use Rattle.sf_view.proofs.Copying.{PartsLeft}
use Rattle.sf_view.proofs.copies.members.Given as goal

abbrev pub invariant-loop-part : goal.invariant-loop-part
invariant-loop-part l = record {
  text : l.rest.text.now ≡ l.view.text.now;
  left : (d : Dialect) (ms : List Member)
      → DescribesMembers d l.view.text.now l.view.nodes.now ms → Each (ValidMember d) ms
      → PartsLeft (DescribesMembers d l.rest.text.now) (ValidMember d) l.rest.nodes.now l.all ms;
}

abbrev pub decreases-loop-part : goal.decreases-loop-part
decreases-loop-part l = length l.rest.nodes.now
