use Rattle.std.proofs.Common.{◌∙◌}
use Rattle.sf_write.proofs.Following.{then}
use Rattle.sf_tool.proofs.deciding.put_decision.Goals as goal

pub returns : goal.returns
returns g c =
    let cache = rw (c.as_bytes.ensures.value ∙ c.word_of.ensures) at c.put-sent.ensures in
    let cause = rw (c.as_bytes-2.ensures.value ∙ c.cause_word.ensures) at c.put-sent-3.ensures in
    then cache
    (then c.put_reuse-sent.ensures (then c.put-sent-2.ensures (then cause c.put.ensures)))
