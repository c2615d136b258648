use Rattle.std.proofs.Common.{◌≡◌, w64, pos, ◌∙◌}
use Rattle.std.proofs.lemmas.Int.{to_z-of_z}
use Rattle.sf_write.proofs.Following.{then, nothing}
use Rattle.sf_c.proofs.WrittenHops.{absent_value, given_value, code_fits}
use Rattle.sf_c.proofs.hop_parts.put_code.Goals as goal

pub returns-then-has_status-eq0 : goal.returns-then-has_status-eq0
returns-then-has_status-eq0 g c = λ x h.
    rw (absent_value c.args.has_status _ x c.if-has_status-eq0.true h) nothing

pub returns : goal.returns
returns g c = λ x h.
    let v = given_value c.args.has_status _ x c.if-has_status-eq0.false h in
    let value : c.from.result ≡ pos c.args.status = cc in
    let same = to_z-of_z w64 c.from.result (code_fits c.from.result c.args.status value v.2.1) ∙ value in
    rw (v.1, v.2.0) (then c.put-sent.ensures (rw same at c.put_number.ensures))
