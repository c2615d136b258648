use Rattle.std.proofs.Common.{◌≡◌, codes, ap, sym, rules, bytes_eq}
use Rattle.clap.specs.Walk.{first_of}
use Rattle.clap.specs.Words.{found_of, rows_of}
use Rattle.sf_tool.proofs.CommandLine.{value-some, value-none}
use Rattle.sf_lint.specs.Options.{is_true}
use Rattle.sf_lint.proofs.options.has_flag.Goals as goal

pub returns-in-Some : goal.returns-in-Some
returns-in-Some c =
    let f = found_of c.args.given.now in
    let given = value-some f c.args.name.now c.get_str.result c.in-Some.word c.get_str.ensures
    c.in-Some.is in
    let is : is_true (first_of c.args.name.now (rows_of f))
    ≡ bytes_eq c.in-Some.word.now (codes "true") =
    ap is_true given in
    rw is (search rules)

pub returns-in-None : goal.returns-in-None
returns-in-None c =
    let f = found_of c.args.given.now in
    sym (ap is_true
    (value-none f c.args.name.now c.get_str.result c.get_str.ensures c.in-None.is))
