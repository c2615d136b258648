use Rattle.sf_write.proofs.Following.{then, nothing}
use Rattle.sf_c.proofs.WrittenHops.{absent_value, given_value}
use Rattle.sf_c.proofs.hop_parts.put_key.Goals as goal

pub returns-then-hop-eq0 : goal.returns-then-hop-eq0
returns-then-hop-eq0 g c = λ x h.
    rw (absent_value c.args.hop.now.has_key _ x c.if-hop-eq0.true h) nothing

pub returns : goal.returns
returns g c = λ x h.
    let v = given_value c.args.hop.now.has_key _ x c.if-hop-eq0.false h in
    let same = c.part.ensures v.0 v.2.0 in
    rw v.1 (then c.put-sent.ensures (rw same at c.put_string.ensures))
