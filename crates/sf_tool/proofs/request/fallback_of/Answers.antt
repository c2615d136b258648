use Rattle.std.proofs.Common.{Some, ap, codes, refl, ◌∙◌}
use Rattle.std.proofs.lemmas.Result.{err_from_is_err_and}
use Rattle.clap.specs.Words.{found_of, rows_of}
use Rattle.sf_tool.proofs.CommandLine.{age-alone, age-fails, neither, other-fallback}
use Rattle.sf_tool.proofs.CommandLine.{value-none, value-some}
use Rattle.sf_tool.proofs.request.fallback_of.Goals as goal

pub returns-in_err-age : goal.returns-in_err-age
returns-in_err-age c =
    let p = err_from_is_err_and c.from_residual.result c.from_residual.ensures.1 in
    rw (p.1, p.2)
    (c.in_err-age.ensures.0, age-fails (rows_of (found_of c.args.given.now)) c.in_err-age.ensures.1)

pub returns-in-Some-age : goal.returns-in-Some-age
returns-in-Some-age c =
    let f = found_of c.args.given.now in
    let absent = value-none f (codes "fallback") c.get_str.result c.get_str.ensures c.in_default.is in
    (refl, age-alone (rows_of f) _ absent (rw c.in-Some-age.is at c.in_ok-age.ensures))

pub returns-in-None : goal.returns-in-None
returns-in-None c =
    let f = found_of c.args.given.now in
    neither (rows_of f)
    (value-none f (codes "fallback") c.get_str.result c.get_str.ensures c.in_default.is)
    (rw c.in-None.is at c.in_ok-age.ensures)

pub returns-in-text : goal.returns-in-text
returns-in-text c =
    let f = found_of c.args.given.now in (
      value-some f (codes "fallback") c.get_str.result c.in-Some.word c.get_str.ensures c.in-Some.is
          ∙ ap Some c.in-text.is,
      (c.in_ok-age.age, c.in_ok-age.ensures, c.unwrap_or.ensures),
    )

pub returns-in_default-word : goal.returns-in_default-word
returns-in_default-word c = (
  refl,
  other-fallback (found_of c.args.given.now) c.get_str.result c.in-Some.word c.get_str.ensures
      c.in-Some.is c.in_default-word.not-text,
)
