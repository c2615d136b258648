use Rattle.std.proofs.Common.{◌≡◌, take}
use Rattle.sf_parse.specs.Spots.{printed}
use Rattle.sf_tool.proofs.marking.line_text.Given as goal

abbrev pub invariant-loop-byte : goal.invariant-loop-byte
invariant-loop-byte l = l.text.items ≡ printed (take l.byte-index l.line)
