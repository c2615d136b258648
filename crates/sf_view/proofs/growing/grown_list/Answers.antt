use Rattle.std.proofs.Common.{refl}
use Rattle.sf_value.specs.Grammar.InnerLists.{SpellsMember}
use Rattle.sf_view.specs.View.{DescribesMembers}
use Rattle.sf_view.proofs.Members.{empty_list, so_far_none}
use Rattle.sf_view.proofs.growing.grown_list.Goals as goal

pub returns-then-ends : goal.returns-then-ends
returns-then-ends c =
    empty_list _ _ _ _ c.after_spaces.ensures (c.ends.ensures.all c.if-ends.true)

pub loop-init : goal.loop-init
loop-init c =
    so_far_none (SpellsMember c.args.dialect) (DescribesMembers c.args.dialect c.args.text.now) _ _ _
    c.after_spaces.ensures refl
