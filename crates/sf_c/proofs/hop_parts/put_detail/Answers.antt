use Rattle.sf_write.proofs.Following.{then, nothing}
use Rattle.sf_c.proofs.WrittenHops.{absent_value, given_value}
use Rattle.sf_c.proofs.WrittenHops.{detail_value}
use Rattle.sf_c.proofs.hop_parts.put_detail.Goals as goal

pub returns-then-hop-eq0 : goal.returns-then-hop-eq0
returns-then-hop-eq0 g c = λ x h.
    rw (absent_value c.args.hop.now.has_detail _ x c.if-hop-eq0.true h) nothing

pub returns : goal.returns
returns g c = λ x h.
    let v = given_value c.args.hop.now.has_detail _ x c.if-hop-eq0.false h in
    rw (v.1, detail_value v.0) (then c.put-sent.ensures (c.put_name.ensures v.0 v.2))
