use Rattle.std.proofs.Common.{◌≡◌, subst}
use Rattle.sf_value.specs.declared.value.Bare.TheVariants.{Text}
use Rattle.sf_write.proofs.Following.{then}
use Rattle.sf_view.specs.View.{DescribesText}
use Rattle.sf_view.proofs.Writes.{unescaped_text}
use Rattle.sf_view.proofs.writing.put_text.Goals as goal

pub returns-then-slice : goal.returns-then-slice
returns-then-slice g c = λ d t h.
    let raw = subst (λ b. DescribesText d b c.args.slice.bytes.now (Text t)) c.if-slice.true h in
    rw raw.0 at c.put.ensures

pub returns-then-not-ends : goal.returns-then-not-ends
returns-then-not-ends g c = λ d t h.
    let raw = subst (λ b. DescribesText d b c.args.slice.bytes.now (Text t)) c.if-slice.false h in
    rw raw at c.put_string.ensures

pub returns : goal.returns
returns g c = λ d t h.
    let raw : c.args.slice.bytes.now ≡ t =
    subst (λ b. DescribesText d b c.args.slice.bytes.now (Text t)) c.if-slice.false h in
    let text = unescaped_text c.args.slice.bytes.now c.long_prefix.result.0.now
    c.long_prefix.result.1.now t c.long_prefix.ensures.whole c.long_prefix.ensures.every
    (c.ends.ensures.all c.if-not-ends.false) raw in
    let inside = rw text at c.put-sent-2.ensures in
    then c.put-sent.ensures (then inside c.put-2.ensures)
