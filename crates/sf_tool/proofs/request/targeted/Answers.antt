use Rattle.std.proofs.Common.{◌≡◌, List, Some, None, ap, codes, map, refl, sym, ◌∙◌}
use Rattle.std.specs.Prelude.{option_map}
use Rattle.std.specs.Borrow.{Bor}
use Rattle.std.proofs.lemmas.Result.{err_from_is_err_and}
use Rattle.clap.specs.Words.{found_of, rows_of}
use Rattle.clap.specs.Walk.{Text, all_of}
use Rattle.clap.proofs.WalkLemmas.{raw_values-rows}
use Rattle.sf_tool.proofs.CommandLine.{fallback-fault, names-fault, no-names}
use Rattle.sf_tool.proofs.request.targeted.Goals as goal

abbrev texts : Bor (List (Bor Text)) → List Text
texts s = map (λ v. v.now) s.now

pub returns-in_err-fallback : goal.returns-in_err-fallback
returns-in_err-fallback c =
    let p = err_from_is_err_and c.from_residual.result c.from_residual.ensures.1 in
    rw (p.1, p.2)
    (fallback-fault (rows_of (found_of c.args.given.now)) c.in_err-fallback.field-0.0
    c.in_err-fallback.ensures)

pub returns-in_default : goal.returns-in_default
returns-in_default c =
    let f = found_of c.args.given.now in
    let given : all_of (codes "name") (rows_of f) ≡ None =
    sym (raw_values-rows f (codes "name")) ∙ sym c.get_strs.ensures
    ∙ ap (option_map texts) c.in_default.is in
    no-names (rows_of f) given

pub returns-in_err-names : goal.returns-in_err-names
returns-in_err-names c =
    let f = found_of c.args.given.now in
    let given : all_of (codes "name") (rows_of f) ≡ Some (texts c.in-Some.words) =
    sym (raw_values-rows f (codes "name")) ∙ sym c.get_strs.ensures
    ∙ ap (option_map texts) c.in-Some.is in
    let p = err_from_is_err_and c.from_residual-in_err-names.result
    c.from_residual-in_err-names.ensures.1 in
    rw (p.1, p.2)
    (names-fault (rows_of f) (texts c.in-Some.words) given c.in_err-names.field-0.0
    c.in_err-names.ensures)

pub returns-in-Some-fallback : goal.returns-in-Some-fallback
returns-in-Some-fallback c =
    let f = found_of c.args.given.now in
    let given : all_of (codes "name") (rows_of f) ≡ Some (texts c.in-Some.words) =
    sym (raw_values-rows f (codes "name")) ∙ sym c.get_strs.ensures
    ∙ ap (option_map texts) c.in-Some.is in (
      refl,
      (
        rw c.in-Some-fallback.is at c.in_ok-fallback.ensures,
        (texts c.in-Some.words, given, c.in_ok-names.ensures),
      ),
    )

pub returns-in-None : goal.returns-in-None
returns-in-None c =
    let f = found_of c.args.given.now in
    let given : all_of (codes "name") (rows_of f) ≡ Some (texts c.in-Some.words) =
    sym (raw_values-rows f (codes "name")) ∙ sym c.get_strs.ensures
    ∙ ap (option_map texts) c.in-Some.is in (
      refl,
      (
        rw c.in-None.is at c.in_ok-fallback.ensures,
        (texts c.in-Some.words, given, c.in_ok-names.ensures),
      ),
    )
