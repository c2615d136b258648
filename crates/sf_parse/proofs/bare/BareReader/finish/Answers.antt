use Rattle.std.proofs.Common.{sym, ◌∙◌}
use Rattle.sf_parse.proofs.Leading.{shown_whole}
use Rattle.sf_parse.proofs.bare.BareReader.finish.Goals as goal

pub from_bytes-requires-in-Shown : goal.from_bytes-requires-in-Shown
from_bytes-requires-in-Shown c =
    let fits = rw c.in-Shown.is at c.self.invariant in
    let ends = sym c.may_end.ensures ∙ c.if-not-may_end.false in
    rw c.replace-bytes-in-Shown.ensures.value
    (shown_whole _ _ _ fits (rw (← c.self.view_is, c.in-Shown.is) at ends))
