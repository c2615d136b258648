use Rattle.std.proofs.Common.{subst}
use Rattle.sf_value.specs.declared.value.Bare.TheVariants.{Blob}
use Rattle.sf_view.specs.View.{DescribesText}
use Rattle.sf_view.proofs.writing.put_bytes.Goals as goal

pub returns-then-slice : goal.returns-then-slice
returns-then-slice g c = λ d t h.
    c.put_base64_text.ensures t
    (subst (λ b. DescribesText d b c.args.slice.bytes.now (Blob t)) c.if-slice.true h)

pub returns : goal.returns
returns g c = λ d t h.
    let raw = subst (λ b. DescribesText d b c.args.slice.bytes.now (Blob t)) c.if-slice.false h in
    rw raw at c.put_blob.ensures
