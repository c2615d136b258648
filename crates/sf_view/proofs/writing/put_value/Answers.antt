use Rattle.std.proofs.Common.{◌∙◌, sym}
use Rattle.sf_write.proofs.Following.{then, nothing}
use Rattle.sf_view.proofs.Writes.{flag_value, other_value}
use Rattle.sf_view.proofs.writing.put_value.Goals as goal

pub returns-then-is_true : goal.returns-then-is_true
returns-then-is_true g c = λ d x h.
    rw (flag_value d c.args.bare.now x h (sym c.if-is_true.true ∙ c.is_true.ensures)) nothing

pub returns : goal.returns
returns g c = λ d x h.
    rw (other_value d c.args.bare.now x h (sym c.if-is_true.false ∙ c.is_true.ensures))
    (then c.put-sent.ensures (c.put_bare_view.ensures d x h))
