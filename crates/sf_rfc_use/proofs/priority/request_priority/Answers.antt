use Rattle.std.proofs.Common.{ap, ◌∙◌}
use Rattle.sf_use.specs.Priority.{priority_with_defaults}
use Rattle.sf_use.specs.declared.priority.Priority.{Priority}
use Rattle.sf_rfc_use.proofs.PriorityAgrees.{requests_agree}
use Rattle.sf_rfc_use.proofs.priority.request_priority.Goals as goal

pub returns-clause-urgency : goal.returns-clause-urgency
returns-clause-urgency c =
    ap (λ (p : Priority). p.urgency)
    (c.with_defaults.ensures ∙ ap priority_with_defaults c.from_dict.ensures
    ∙ requests_agree c.args.dict.now.members)

pub returns-clause-incremental : goal.returns-clause-incremental
returns-clause-incremental c =
    ap (λ (p : Priority). p.incremental)
    (c.with_defaults.ensures ∙ ap priority_with_defaults c.from_dict.ensures
    ∙ requests_agree c.args.dict.now.members)
