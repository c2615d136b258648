use Rattle.std.proofs.Common.{arith, rules}
use Rattle.sf_write.proofs.Following.{then}
use Rattle.sf_view.proofs.Writes.{last_group}
use Rattle.sf_view.proofs.writing.put_groups.Goals as goal

pub returns-in_default : goal.returns-in_default
returns-in_default g c = λ t h.
    let last = last_group c.args.text.now t _ _ _ h (search rules) c.split_at.ensures.front
    c.split_at.ensures.back in
    let short = c.in_default.ensures.short last.left last.remains in
    let few = last.few in
    absurd (omega arith)

pub returns : goal.returns
returns g c = λ t h.
    let last = last_group c.args.text.now t _ _ _ h (search rules) c.split_at.ensures.front
    c.split_at.ensures.back in
    let bytes = c.in-Some.ensures.decoded last.left last.remains in
    rw last.canonical (then c.put-sent.ensures (rw bytes at c.put_base64.ensures))
