use Rattle.sf_c.proofs.WrittenHops.{passed_on, passed_beside, not_passed}
use Rattle.sf_c.proofs.hop_parts.is_forwarded.Goals as goal

pub returns-then-hop-eq-FORWARDED : goal.returns-then-hop-eq-FORWARDED
returns-then-hop-eq-FORWARDED c = λ bytes o h. passed_on bytes c.args.hop.now o c.if-hop-eq-FORWARDED.true h

pub returns-then-hop-eq-CONFLICT : goal.returns-then-hop-eq-CONFLICT
returns-then-hop-eq-CONFLICT c = λ bytes o h. passed_beside bytes c.args.hop.now o c.if-hop-eq-CONFLICT.true h

pub returns : goal.returns
returns c = λ bytes o h.
    not_passed bytes c.args.hop.now o c.if-hop-eq-FORWARDED.false c.if-hop-eq-CONFLICT.false h
