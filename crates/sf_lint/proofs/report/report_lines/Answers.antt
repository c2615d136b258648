use Rattle.std.proofs.Common.{ℕ, ◌++◌, List, add-one, ap, ◌∙◌, arith, map}
use Rattle.sf_lint.proofs.WithDecisions.{reports-more, reports-none}
use Rattle.sf_lint.proofs.report.report_lines.Goals as goal

pub loop-n-init : goal.loop-n-init
loop-n-init c =
    record {
      reported = reports-none c.args.caches.now c.args.settings.now _ _ _ _ c.nothing-all.ensures;
      few = omega (arith, c.nothing-all.ensures.2);
    }

pub loop-n-preserved : goal.loop-n-preserved
loop-n-preserved c =
    let all = c.loop-n.all in
    let one = c.in_ok-reported.reported in
    let text = c.in_ok-extend_from_slice.ensures.items
    ∙ ap (λ (line : List ℕ). all.text.items ++ line) c.as_slice.ensures.value in
    let longer = c.in_ok-extend_from_slice-2.ensures.items
    ∙ ap (λ (line : List ℕ). c.extend_from_slice.new.self.items ++ line)
    c.as_slice-in-loop-n.ensures.value in
    record {
      reported = rw add-one
          (reports-more c.args.caches.now c.args.settings.now
          (map (λ line. line.now) c.args.lines.now) c.loop-n.n all.text.items one.text.items
          c.in_ok-decided.decided.items c.extend_from_slice.new.self.items _ all.refused
          one.refused all.others one.others c.loop-n.invariant.reported
          c.in_ok-reported.ensures.reported c.in_ok-decided.ensures text longer);
      few = omega (arith, c.loop-n.invariant.few, c.in_ok-reported.ensures.few);
    }
