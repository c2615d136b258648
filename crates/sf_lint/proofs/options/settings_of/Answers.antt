use Rattle.std.proofs.Common.{◌≡◌, List, Some, None, ap, codes, ◌∙◌, sym, subst, map, refl}
use Rattle.std.specs.Prelude.{option_map, Option}
use Rattle.std.specs.Borrow.{Bor}
use Rattle.clap.specs.Words.{found_of, rows_of}
use Rattle.clap.specs.Walk.{Text, all_of}
use Rattle.clap.proofs.WalkLemmas.{raw_values-rows}
use Rattle.sf_lint.specs.Options.{AreFields, field_words}
use Rattle.sf_lint.proofs.OptionWords.{given-fault}
use Rattle.sf_lint.proofs.options.settings_of.Goals as goal

abbrev texts : Bor (List (Bor Text)) → List Text
texts s = map (λ v. v.now) s.now

pub returns-in_err-fields-in-Some : goal.returns-in_err-fields-in-Some
returns-in_err-fields-in-Some c =
    let f = found_of c.args.given.now in
    let given : all_of (codes "field") (rows_of f) ≡ Some (texts c.in-Some.words) =
    sym (raw_values-rows f (codes "field")) ∙ sym c.get_strs.ensures
    ∙ ap (option_map texts) c.in-Some.is in
    given-fault (rows_of f) (texts c.in-Some.words) given c.in_err-fields-in-Some.field-0.0
    c.in_err-fields-in-Some.ensures c.from_residual.result c.from_residual.ensures.1

pub returns-in-Some : goal.returns-in-Some
returns-in-Some c =
    let f = found_of c.args.given.now in
    let given : all_of (codes "field") (rows_of f) ≡ Some (texts c.in-Some.words) =
    sym (raw_values-rows f (codes "field")) ∙ sym c.get_strs.ensures
    ∙ ap (option_map texts) c.in-Some.is in
    let P : Option (List Text) → Type 0 =
    λ ws. AreFields (field_words ws) c.in_ok-fields-in-Some.fields.items in
    (subst P (sym given) c.in_ok-fields-in-Some.ensures, (c.has_flag-quiet.ensures, refl))

pub returns-in-None : goal.returns-in-None
returns-in-None c =
    let f = found_of c.args.given.now in
    let given : all_of (codes "field") (rows_of f) ≡ None =
    sym (raw_values-rows f (codes "field")) ∙ sym c.get_strs.ensures
    ∙ ap (option_map texts) c.in-None.is in
    let P : Option (List Text) → Type 0 =
    λ ws. AreFields (field_words ws) c.new.result.items in (
      subst P (sym given) (ap (map Some) (sym c.new.ensures.items)),
      (c.has_flag-quiet.ensures, refl),
    )
