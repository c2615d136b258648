use Rattle.std.proofs.Common.{◌≡◌, true, [], ap, ◌∙◌, sym, map}
use Rattle.std.specs.Prelude.{string_bytes}
use Rattle.clap.specs.Faults.{fault_of, is_simple_and_free}
use Rattle.clap.specs.Simple.{App, app_of, is_simple, matches_of}
use Rattle.clap.specs.Words.{found_of, rows_of}
use Rattle.sf_lint.specs.Options.{command_line}
use Rattle.sf_lint.proofs.OptionWords.{command_line-is_simple, command_line-is_free, options-from}
use Rattle.sf_lint.proofs.options.read_options.Goals as goal

pub returns : goal.returns
returns c =
    let words = map string_bytes c.args.words.now in
    let matches = c.in-Ok-try_get_matches_from.matches in
    let app : app_of c.in-Ok.command ≡ command_line = c.in-Ok.ensures in
    let simple : is_simple (app_of c.in-Ok.command) ≡ true =
    ap is_simple app ∙ command_line-is_simple in
    let free : is_simple_and_free (app_of c.in-Ok.command) ≡ true =
    ap is_simple_and_free app ∙ command_line-is_free in
    let rows : rows_of (found_of matches) ≡ matches_of command_line words =
    (c.in-Ok-try_get_matches_from.ensures.matches simple).0
    ∙ ap (λ (a : App). matches_of a words) app in
    let none : fault_of command_line words ≡ [] =
    sym (ap (λ (a : App). fault_of a words) app)
    ∙ c.in-Ok-try_get_matches_from.ensures.kinds free in
    options-from words (rows_of (found_of matches)) none rows c.options_of.result
    c.options_of.ensures
