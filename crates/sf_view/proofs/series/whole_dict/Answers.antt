use Rattle.sf_value.specs.Grammar.Fields.{SpellsEntry}
use Rattle.sf_view.specs.Accepts.{DescribesMarked}
use Rattle.sf_view.proofs.Members.{empty_dict, so_far_none, dict_none, parts_whole}
use Rattle.sf_view.proofs.series.whole_dict.Goals as goal

pub returns-then-ends-clause-parts : goal.returns-then-ends-clause-parts
returns-then-ends-clause-parts c =
    parts_whole _ _ _ _ _ _ c.requires.unset
    (empty_dict _ _ _ _ c.after_spaces-rest.ensures (c.ends.ensures.all c.if-ends.true))

pub dict_from-requires-clause-so_far : goal.dict_from-requires-clause-so_far
dict_from-requires-clause-so_far c =
    so_far_none (SpellsEntry c.args.dialect) (DescribesMarked c.args.dialect c.args.text.now _) _ _ _
    c.after_spaces-rest.ensures (dict_none c.args.dialect c.args.text.now _)
