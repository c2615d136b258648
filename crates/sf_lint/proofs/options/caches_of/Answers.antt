use Rattle.std.proofs.Common.{◌≡◌, codes, ◌∙◌, sym}
use Rattle.clap.specs.Words.{found_of, rows_of}
use Rattle.clap.specs.Walk.{all_of}
use Rattle.clap.proofs.WalkLemmas.{raw_values-rows}
use Rattle.sf_lint.specs.Options.{target_words}
use Rattle.sf_lint.proofs.CacheWords.{no-age, not-asked, some-caches, targets-fault}
use Rattle.sf_lint.proofs.options.caches_of.Goals as goal

pub returns-in_err-age : goal.returns-in_err-age
returns-in_err-age c =
    no-age (rows_of (found_of c.args.given.now)) c.in_err-age.field-0.0 c.in_err-age.ensures
    c.from_residual.result c.from_residual.ensures.1

pub returns-in_err-targets : goal.returns-in_err-targets
returns-in_err-targets c =
    let f = found_of c.args.given.now in
    let given : all_of (codes "target") (rows_of f) ≡ target_words c.get_strs-words.result =
    sym (raw_values-rows f (codes "target")) ∙ sym c.get_strs-words.ensures in
    targets-fault (rows_of f) (target_words c.get_strs-words.result)
    (sym c.has_flag.ensures ∙ c.if-not-has_flag.false) given c.in_err-targets.field-0.0
    c.in_err-targets.ensures c.from_residual-in_err-targets.result
    c.from_residual-in_err-targets.ensures.1

pub returns : goal.returns
returns c =
    let f = found_of c.args.given.now in
    let given : all_of (codes "target") (rows_of f) ≡ target_words c.get_strs-words.result =
    sym (raw_values-rows f (codes "target")) ∙ sym c.get_strs-words.ensures in
    some-caches (rows_of f) (target_words c.get_strs-words.result) _
    (sym c.has_flag.ensures ∙ c.if-not-has_flag.false) given c.in_ok-age.ensures
    c.in_ok-targets.ensures

pub returns-then-not-has_flag : goal.returns-then-not-has_flag
returns-then-not-has_flag c =
    let f = found_of c.args.given.now in
    let given : all_of (codes "target") (rows_of f) ≡ target_words c.get_strs-words.result =
    sym (raw_values-rows f (codes "target")) ∙ sym c.get_strs-words.ensures in
    not-asked (rows_of f) _ (target_words c.get_strs-words.result)
    (sym c.has_flag.ensures ∙ c.if-not-has_flag.true) c.in_ok-age.ensures given
    c.no_caches.result c.no_caches.ensures
