use Rattle.std.proofs.Common.{[]}
use Rattle.sf_parse.specs.Machine.Members.{member_start, member_step}
use Rattle.sf_parse.specs.Machine.Entries.{entry_start, entry_step}
use Rattle.sf_parse.specs.Machine.States.{InList, InDict}
use Rattle.sf_parse.specs.Machine.Fields.{step}
use Rattle.sf_parse.specs.SeriesView.{series_next}
use Rattle.sf_parse.specs.MemberEnds.{with_member, with_entry}
use Rattle.sf_parse.specs.FieldSteps.{list_steps, dict_steps}
use Rattle.sf_parse.proofs.Prefixes.{prefix_above}
use Rattle.sf_parse.proofs.state.FieldState.take_run.Goals as goal

pub returns-in-List-clause-prefix : goal.returns-in-List-clause-prefix
returns-in-List-clause-prefix c =
    let d = c.args.context.now.dialect in
    rw c.in-List.is
    (prefix_above (series_next (member_start d) (member_step d) with_member []) (step d) InList
    (list_steps d) _ _ _ _ c.in_ok-rest-in-List.ensures.prefix)

pub returns-in-Dict-clause-prefix : goal.returns-in-Dict-clause-prefix
returns-in-Dict-clause-prefix c =
    let d = c.args.context.now.dialect in
    rw c.in-Dict.is
    (prefix_above (series_next entry_start (entry_step d) with_entry []) (step d) InDict
    (dict_steps d) _ _ _ _ c.in_ok-rest-in-Dict.ensures.prefix)
