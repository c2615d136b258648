use Rattle.std.proofs.Common.{ap, ◌∙◌}
use Rattle.sf_tool.specs.Deciding.{with_cache_control}
use Rattle.sf_tool.proofs.running.explain_decided.Goals as goal

pub returns : goal.returns
returns c =
    let read = c.as_slice-2.ensures.value ∙ c.in-Ok.ensures
    ∙ ap with_cache_control c.as_slice.ensures.value in
    rw read at c.explain_line.ensures
