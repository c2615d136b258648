use Rattle.std.proofs.Common.{ap, ◌∙◌}
use Rattle.sf_use.specs.ResponsePriority.{set_by}
use Rattle.sf_use.proofs.response_priority.ResponsePriority.scan_in.Goals as goal

pub returns : goal.returns
returns c =
    let s = c.in_ok-asked.ensures in (s.0, s.1, c.set_by.ensures ∙ ap set_by s.2)
