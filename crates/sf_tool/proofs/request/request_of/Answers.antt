use Rattle.std.proofs.Common.{sym, subst}
use Rattle.std.specs.Prelude.{MatchResult}
use Rattle.clap.specs.Walk.{Text}
use Rattle.clap.specs.Words.{found_of, rows_of}
use Rattle.sf_tool.specs.CommandLine.{AsksFor}
use Rattle.sf_tool.specs.Commands.{IsCommandFault}
use Rattle.sf_tool.proofs.request.request_of.Goals as goal

pub returns-in-targeted : goal.returns-in-targeted
returns-in-targeted c =
    let rows = rows_of (found_of c.args.given.now) in
    let P : Text → Type 0 =
    λ word. MatchResult c.targeted.result (AsksFor word rows) (IsCommandFault word rows) in
    subst P (sym c.in-targeted.is) c.targeted.ensures
