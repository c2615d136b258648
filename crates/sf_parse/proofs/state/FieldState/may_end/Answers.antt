use Rattle.std.proofs.Common.{◌∙◌}
use Rattle.sf_parse.specs.FieldSteps.{list_ends, dict_ends}
use Rattle.sf_parse.proofs.state.FieldState.may_end.Goals as goal

pub returns-in-List : goal.returns-in-List
returns-in-List c = rw c.in-List.is (c.may_end-in-List.ensures ∙ list_ends c.in-List.list)

pub returns-in-Dict : goal.returns-in-Dict
returns-in-Dict c = rw c.in-Dict.is (c.may_end-in-Dict.ensures ∙ dict_ends c.in-Dict.dict)
