use Rattle.std.proofs.Common.{◌≡◌, false, take}
use Rattle.http_header.specs.Token.{lowercase}
use Rattle.sf_tool.specs.Fields.{is_listed}
use Rattle.sf_tool.proofs.header_names.is_listed.Given as goal

abbrev pub invariant-loop-target : goal.invariant-loop-target
invariant-loop-target l =
    is_listed (take l.target-index l.targets) (lowercase l.word) ≡ false
