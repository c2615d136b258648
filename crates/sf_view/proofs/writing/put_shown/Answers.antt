use Rattle.std.proofs.Common.{subst}
use Rattle.sf_value.specs.declared.value.Bare.TheVariants.{Shown}
use Rattle.sf_view.specs.View.{DescribesText}
use Rattle.sf_view.proofs.writing.put_shown.Goals as goal

pub returns-then-slice : goal.returns-then-slice
returns-then-slice g c = λ d t h.
    let raw = subst (λ b. DescribesText d b c.args.slice.bytes.now (Shown t)) c.if-slice.true h in
    c.put_shown_text.ensures t raw.1

pub returns : goal.returns
returns g c = λ d t h.
    let raw = subst (λ b. DescribesText d b c.args.slice.bytes.now (Shown t)) c.if-slice.false h in
    rw raw at c.put_display_string.ensures
