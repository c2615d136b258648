use Rattle.sf_write.proofs.Following.{then, nothing}
use Rattle.sf_c.proofs.WrittenHops.{absent_value, given_value, false_flag, true_flag}
use Rattle.sf_c.proofs.hop_parts.put_flag.Goals as goal

pub returns-then-has_flag-eq0 : goal.returns-then-has_flag-eq0
returns-then-has_flag-eq0 g c = λ k x e h.
    rw (absent_value c.args.has_flag _ x c.if-has_flag-eq0.true h) nothing

pub returns-then-flag-eq0 : goal.returns-then-flag-eq0
returns-then-flag-eq0 g c = λ k x e h.
    let v = given_value c.args.has_flag _ x c.if-has_flag-eq0.false h in
    rw (v.1, false_flag c.args.flag v.0 c.if-flag-eq0.true v.2)
    (then (rw e at c.put-sent.ensures) c.put.ensures)

pub returns : goal.returns
returns g c = λ k x e h.
    let v = given_value c.args.has_flag _ x c.if-has_flag-eq0.false h in
    rw (v.1, true_flag c.args.flag v.0 c.if-flag-eq0.false v.2)
    (then (rw e at c.put-sent.ensures) nothing)
