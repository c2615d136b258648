use Rattle.std.proofs.Common.{Option, Some, None, codes, sym, subst, refl}
use Rattle.clap.specs.Words.{found_of}
use Rattle.clap.specs.Walk.{Text}
use Rattle.sf_tool.specs.CommandLine.{IsGivenAge}
use Rattle.sf_tool.proofs.CommandLine.{value-some, value-none, no-age}
use Rattle.sf_tool.proofs.request.age_of.Goals as goal

pub returns-in_default : goal.returns-in_default
returns-in_default c =
    let P : Option Text → Type 0 = λ o. IsGivenAge o None in
    subst P
    (sym (value-none (found_of c.args.given.now) (codes "age") c.get_str.result c.get_str.ensures
    c.in_default.is))
    tt

pub returns-in-Ok : goal.returns-in-Ok
returns-in-Ok c =
    let P : Option Text → Type 0 = λ o. IsGivenAge o (Some c.in-Ok.age) in
    let parses = c.in-Ok.ensures.value.0 in
    subst P
    (sym (value-some (found_of c.args.given.now) (codes "age") c.get_str.result c.in-Some.word
    c.get_str.ensures c.in-Some.is))
    (parses.0.0, parses.0.1, parses.1)

pub returns-in-Err : goal.returns-in-Err
returns-in-Err c =
    let fails = c.in-Err.ensures.value.0 in (
      refl,
      no-age (found_of c.args.given.now) c.get_str.result c.in-Some.word c.get_str.ensures
          c.in-Some.is (λ seconds given. fails (given.0, given.1)),
    )
