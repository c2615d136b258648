use Rattle.std.proofs.Common.{[]}
use Rattle.sf_parse.specs.Machine.Members.{member_start, member_step}
use Rattle.sf_parse.specs.Machine.Entries.{entry_start, entry_step}
use Rattle.sf_parse.specs.Machine.States.{InList, InDict}
use Rattle.sf_parse.specs.Machine.Fields.{step}
use Rattle.sf_parse.specs.SeriesView.{series_next}
use Rattle.sf_parse.specs.MemberEnds.{with_member, with_entry}
use Rattle.sf_parse.specs.FieldSteps.{list_steps, dict_steps, list_ends, dict_ends}
use Rattle.sf_parse.proofs.FedChunks.{refuses_above}
use Rattle.sf_parse.proofs.state.FieldState.refuse.Goals as goal

pub returns-in-List : goal.returns-in-List
returns-in-List c =
    let d = c.args.dialect in
    rw c.in-List.is
    (refuses_above (series_next (member_start d) (member_step d) with_member []) (step d) InList
    (list_steps d) _ _ _ _ _ _ (list_ends c.in-List.list) c.refuse-in-List.ensures)

pub returns-in-Dict : goal.returns-in-Dict
returns-in-Dict c =
    let d = c.args.dialect in
    rw c.in-Dict.is
    (refuses_above (series_next entry_start (entry_step d) with_entry []) (step d) InDict
    (dict_steps d) _ _ _ _ _ _ (dict_ends c.in-Dict.dict) c.refuse-in-Dict.ensures)
