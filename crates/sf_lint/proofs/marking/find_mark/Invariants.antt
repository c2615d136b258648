use Rattle.std.proofs.Common.{◌≡◌, ◌+◌, drop, map}
use Rattle.sf_lint.specs.Marks.{mark_in}
use Rattle.sf_lint.proofs.marking.find_mark.Given as goal

abbrev pub invariant-loop-text : goal.invariant-loop-text
invariant-loop-text l = record {
  same : mark_in l.number l.name (map (λ line. line.now) l.lines) l.place
      ≡ mark_in l.line l.name (map (λ line. line.now) (drop l.text-index l.lines)) l.rest;
  counted : l.line ≡ l.number + l.text-index;
}
