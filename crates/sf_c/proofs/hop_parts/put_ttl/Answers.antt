use Rattle.std.proofs.Common.{w64}
use Rattle.std.proofs.lemmas.Int.{to_z-of_z}
use Rattle.sf_write.proofs.Following.{then, nothing}
use Rattle.sf_c.proofs.WrittenHops.{absent_value, given_value, small_fits}
use Rattle.sf_c.proofs.hop_parts.put_ttl.Goals as goal

pub returns-then-hop-eq0 : goal.returns-then-hop-eq0
returns-then-hop-eq0 g c = λ x h.
    rw (absent_value c.args.hop.now.has_ttl _ x c.if-hop-eq0.true h) nothing

pub returns : goal.returns
returns g c = λ x h.
    let v = given_value c.args.hop.now.has_ttl _ x c.if-hop-eq0.false h in
    let same = to_z-of_z w64 c.args.hop.now.ttl (small_fits c.args.hop.now.ttl v.2.1) in
    rw (v.1, v.2.0) (then c.put-sent.ensures (rw same at c.put_number.ensures))
