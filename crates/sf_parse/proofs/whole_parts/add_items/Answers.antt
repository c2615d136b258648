use Rattle.sf_parse.specs.Machine.Members.{member_step}
use Rattle.sf_parse.proofs.Prefixes.{goes_window}
use Rattle.sf_parse.proofs.whole_parts.add_items.Goals as goal

pub returns : goal.returns
returns c =
    goes_window (member_step c.args.context.now.dialect) _ _ _ _ _ _ c.in_ok-left.ensures
    (λ taken. c.after_window.ensures taken c.window-begin.ensures.split.0
    c.window-begin.ensures.split.1)
