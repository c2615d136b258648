use Rattle.std.proofs.Common.{◌≡◌, true, map, string_bytes, subst, rules}
use Rattle.std.specs.Prelude.{IfOk}
use Rattle.clap.specs.Faults.{fault_of, is_simple_and_free}
use Rattle.clap.specs.Kinds.{FailsBy}
use Rattle.clap.specs.Simple.{App, HasMatchesOf}
use Rattle.sf_tool.proofs.CommandLine.{command_line-is_free, request-few, request-read}
use Rattle.sf_tool.proofs.FirstWord.{stray-fails}
use Rattle.sf_tool.proofs.request.read_request.Goals as goal

pub returns-clause-request : goal.returns-clause-request
returns-clause-request c =
    let words = map string_bytes c.args.words.now in
    let parsed = c.try_get_matches_from.result in
    let P : App → Type 0 = λ a. IfOk parsed (HasMatchesOf a words) in
    let Q : App → Type 0 =
    λ a. is_simple_and_free a ≡ true → FailsBy (fault_of a words) parsed in
    request-read words parsed c.request_in.result
    (subst P c.in-Ok.ensures c.try_get_matches_from.ensures.matches)
    (subst Q c.in-Ok.ensures c.try_get_matches_from.ensures.kinds command_line-is_free)
    c.request_in.ensures.found c.request_in.ensures.fault

pub returns-clause-few : goal.returns-clause-few
returns-clause-few c =
    request-few (map string_bytes c.args.words.now) c.request_in.result (returns-clause-request c)

pub returns-then-is_stray-clause-request : goal.returns-then-is_stray-clause-request
returns-then-is_stray-clause-request c =
    λ request asks. stray-fails (map string_bytes c.args.words.now) (search rules) asks.0
