use Rattle.std.proofs.Common.{◌∙◌, ◌<◌, ◌≤◌, ◌-◌, length, arith, rules}
use Rattle.sf_tool.specs.Lines.{trim}
use Rattle.sf_tool.proofs.Spots.{place-further}
use Rattle.sf_tool.proofs.explaining.find_spot.Goals as goal

pub loop-first-preserved : goal.loop-first-preserved
loop-first-preserved c =
    let line = c.in-Some.first.now in
    let more = c.in-Some.more.now in
    let rest = c.loop-first.rest in
    let some : 0 < length more = search rules in
    let far : 2 ≤ rest - length (trim line) = search rules in
    let next = place-further c.loop-first.line c.loop-first.left.now line more rest
    c.in-Some.ensures.lines some far in
    record {
      same = rw c.trimmed-text.ensures (c.loop-first.invariant.same ∙ next);
      counted = omega (arith, c.loop-first.invariant.counted, c.in-Some.ensures.shorter);
    }
