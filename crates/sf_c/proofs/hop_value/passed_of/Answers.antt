use Rattle.std.proofs.lemmas.Result.{err_from_is_err_and}
use Rattle.sf_c.proofs.GivenHops.{no_passed}
use Rattle.sf_c.proofs.hop_value.passed_of.Goals as goal

pub returns-in_err-why_of : goal.returns-in_err-why_of
returns-in_err-why_of c =
    let p = err_from_is_err_and c.from_residual-in_err-why_of.result
    c.from_residual-in_err-why_of.ensures.1 in
    rw (p.1, p.2)
    (no_passed c.args.bytes.now c.args.hop.now c.in_ok-status.status c.flag_of-stored.result
    c.flag_of-collapsed.result c.in_err-why_of.field-0.0 c.in_ok-status.ensures.gives
    c.flag_of-stored.ensures.gives c.flag_of-collapsed.ensures.gives c.in_err-why_of.ensures)
