use Rattle.std.proofs.Common.{sym, ◌∙◌}
use Rattle.sf_view.proofs.Writes.{needed_cut}
use Rattle.sf_view.proofs.writing.needed_escape.Goals as goal

pub returns-in-len3-up-clause-escape : goal.returns-in-len3-up-clause-escape
returns-in-len3-up-clause-escape c =
    needed_cut c.args.text.now c.in-Some.byte _ c.in-len3-up.len_at_least
    (sym c.stands_for_itself.ensures ∙ c.if-stands_for_itself.false) c.in-Some.ensures.some
