use Rattle.std.proofs.Common.{refl}
use Rattle.sf_value.specs.Grammar.InnerLists.{SpellsMember}
use Rattle.sf_view.specs.View.{DescribesMembers}
use Rattle.sf_view.proofs.Members.{empty_list, so_far_none}
use Rattle.sf_view.proofs.series.whole_list.Goals as goal

pub returns-then-ends-clause-accepts : goal.returns-then-ends-clause-accepts
returns-then-ends-clause-accepts c =
    empty_list _ _ _ _ c.after_spaces-rest.ensures (c.ends.ensures.all c.if-ends.true)

pub list_from-requires-clause-so_far : goal.list_from-requires-clause-so_far
list_from-requires-clause-so_far c =
    so_far_none (SpellsMember c.args.dialect) (DescribesMembers c.args.dialect c.args.text.now) _ _ _
    c.after_spaces-rest.ensures refl
