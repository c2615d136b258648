use Rattle.std.proofs.Common.{drop, map}
use Rattle.sf_tool.proofs.MapCapacity.{IsListedMap}
use Rattle.sf_tool.proofs.LineByLine.{ReadsOn}
use Rattle.sf_tool.proofs.fields.read_field_lines.Given as goal

abbrev pub invariant-loop-number : goal.invariant-loop-number
invariant-loop-number l = record {
  listed : IsListedMap l.targets l.headers l.number;
  reads : ReadsOn l.targets (map (λ line. line.now) l.lines)
      (drop l.number (map (λ line. line.now) l.lines)) l.number l.headers;
}
