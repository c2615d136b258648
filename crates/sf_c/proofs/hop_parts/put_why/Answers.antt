use Rattle.std.proofs.lemmas.Bool.{MatchBool-at_true, MatchBool-at_false}
use Rattle.sf_write.proofs.Following.{then, nothing}
use Rattle.sf_c.proofs.hop_parts.put_why.Goals as goal

pub returns-then-is_forwarded : goal.returns-then-is_forwarded
returns-then-is_forwarded g c = λ o h.
    let p = MatchBool-at_true _ _ c.if-is_forwarded.true (c.is_forwarded.ensures c.args.bytes.now o h) in
    let token = c.why_part.ensures p.0.why p.2.0 in
    rw p.1 (then c.put-sent.ensures (rw token at c.put.ensures))

pub returns : goal.returns
returns g c = λ o h.
    rw (MatchBool-at_false _ _ c.if-is_forwarded.false (c.is_forwarded.ensures c.args.bytes.now o h))
    nothing
