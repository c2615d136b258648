use Rattle.std.proofs.lemmas.Result.{err_from_is_err_and}
use Rattle.sf_c.specs.GivenHops.{AreBytes, GivesString}
use Rattle.sf_c.proofs.GivenHops.{no_whole}
use Rattle.sf_c.proofs.GivenTexts.{no_string}
use Rattle.sf_c.proofs.hop_value.string_of.Goals as goal

pub returns-in-Err : goal.returns-in-Err
returns-in-Err c =
    rw c.status_of_fault.ensures
    (no_string c.args.bytes.now c.args.span c.in_ok-bytes_of.field-0.now c.in-Err.fault
    c.in_ok-bytes_of.ensures.gives c.in-Err.ensures.exact)

pub returns-in_err-bytes_of : goal.returns-in_err-bytes_of
returns-in_err-bytes_of c =
    let p = err_from_is_err_and c.from_residual.result c.from_residual.ensures.1 in
    rw (p.1, p.2)
    (no_whole (AreBytes c.args.bytes.now c.args.span) (GivesString c.args.bytes.now c.args.span)
    (λ text. text) (λ text g. g.0) c.in_err-bytes_of.field-0.0 c.in_err-bytes_of.ensures.invalid
    c.in_err-bytes_of.ensures.gives)
