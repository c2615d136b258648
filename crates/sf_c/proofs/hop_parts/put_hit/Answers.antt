use Rattle.sf_write.proofs.Following.{nothing}
use Rattle.sf_c.proofs.WrittenHops.{hit_written, hit_beside, no_hit}
use Rattle.sf_c.proofs.hop_parts.put_hit.Goals as goal

pub returns-then-hop-eq-HIT : goal.returns-then-hop-eq-HIT
returns-then-hop-eq-HIT g c = λ bytes o h.
    rw (hit_written bytes c.args.hop.now o c.if-hop-eq-HIT.true h) c.put.ensures

pub returns-then-hop-eq-CONFLICT : goal.returns-then-hop-eq-CONFLICT
returns-then-hop-eq-CONFLICT g c = λ bytes o h.
    rw (hit_beside bytes c.args.hop.now o c.if-hop-eq-CONFLICT.true h) c.put-then-hop-eq-CONFLICT.ensures

pub returns : goal.returns
returns g c = λ bytes o h.
    rw (no_hit bytes c.args.hop.now o c.if-hop-eq-HIT.false c.if-hop-eq-CONFLICT.false h) nothing
