use Rattle.std.proofs.lemmas.Bool.{MatchBool-at_true, MatchBool-at_false}
use Rattle.sf_write.proofs.Following.{nothing}
use Rattle.sf_c.proofs.hop_parts.put_status.Goals as goal

pub returns-then-is_forwarded : goal.returns-then-is_forwarded
returns-then-is_forwarded g c = λ bytes o h.
    let p = MatchBool-at_true _ _ c.if-is_forwarded.true (c.is_forwarded.ensures bytes o h) in
    rw p.1 (c.put_code.ensures p.0.status p.2.1)

pub returns : goal.returns
returns g c = λ bytes o h.
    rw (MatchBool-at_false _ _ c.if-is_forwarded.false (c.is_forwarded.ensures bytes o h)) nothing
