use Rattle.std.proofs.Common.{sym, ◌∙◌}
use Rattle.sf_parse.proofs.Blocks.{escape_run}
use Rattle.sf_parse.proofs.display_string.escaped.Goals as goal

pub returns : goal.returns
returns c =
    escape_run c.args.high c.args.low c.in_ok-high.high c.in_ok-low.low
    (sym c.unhex.ensures.value ∙ c.in_ok-high.was) (sym c.unhex-2.ensures.value ∙ c.in_ok-low.was)
