use Rattle.sf_value.specs.Grammar.Fields.{SpellsEntry}
use Rattle.sf_view.specs.Accepts.{DescribesMarked}
use Rattle.sf_view.proofs.Members.{empty_dict, so_far_none, dict_none, parts_whole}
use Rattle.sf_view.proofs.growing.grown_dict.Goals as goal

pub returns-then-ends : goal.returns-then-ends
returns-then-ends c =
    parts_whole _ _ _ _ _ _ c.requires.unset
    (empty_dict _ _ _ _ c.after_spaces.ensures (c.ends.ensures.all c.if-ends.true))

pub loop-init : goal.loop-init
loop-init c = record {
  so_far =
      so_far_none (SpellsEntry c.args.dialect) (DescribesMarked c.args.dialect c.args.text.now _) _ _ _
      c.after_spaces.ensures (dict_none c.args.dialect c.args.text.now _);
  unset = c.requires.unset;
}
