use Rattle.std.proofs.Common.{ap, ◌∙◌}
use Rattle.sf_use.specs.Priority.{merge_params, priority_with_defaults}
use Rattle.sf_use.proofs.ResponsePriorities.{merged}
use Rattle.sf_use.proofs.response_priority.ResponsePriority.for_request.Goals as goal

pub returns : goal.returns
returns c =
    c.with_defaults.ensures
    ∙ ap priority_with_defaults
    (c.merge.ensures ∙ ap (merge_params c.args.request) c.as_asked.ensures)
    ∙ merged c.args.request c.args.self
