use Rattle.std.proofs.Common.{◌≤◌, map}
use Rattle.sf_lint.specs.Heads.{ReportsLinesWith}
use Rattle.sf_lint.proofs.report.report_lines.Given as goal

abbrev pub invariant-loop-n : goal.invariant-loop-n
invariant-loop-n l = record {
  reported : ReportsLinesWith l.caches l.settings (map (λ line. line.now) l.lines) l.n
      l.all.text.items l.all.refused l.all.others;
  few : l.all.others ≤ l.n;
}
