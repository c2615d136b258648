use Rattle.std.proofs.Common.{ℕ, List, subst}
use Rattle.std.proofs.Common.{sym, arith}
use Rattle.sf_value.specs.declared.dialect.Dialect.{Dialect}
use Rattle.sf_write.proofs.Following.{then}
use Rattle.sf_view.specs.View.{DescribesField}
use Rattle.sf_view.specs.Views.{IsViewed}
use Rattle.sf_tool.specs.Run.{canonical_line}
use Rattle.sf_tool.specs.Scanning.{ReportsOnly}
use Rattle.sf_tool.proofs.AcceptedLines.{kind_spelled}
use Rattle.sf_tool.proofs.answering.answer_viewed.Goals as goal

pub returns : goal.returns
returns g c = by
  where
    by : (d : Dialect) (t : List ℕ) → IsViewed d c.args.kind t c.args.nodes.now
        → ReportsOnly canonical_line d c.args.kind t (g.W.Sink.state c.args.sink.now)
        (g.W.Sink.state c.put.new.out) c.ended.result
    by d t viewed =
        let v = viewed.value in
        let describes : DescribesField d c.args.nodes.now.text.now c.args.nodes.now.nodes.now v =
        subst (λ s. DescribesField d s c.args.nodes.now.nodes.now v) (sym viewed.text)
        viewed.describes in
        let kind = kind_spelled d c.args.kind t v viewed.only.spelled in
        let all = then (c.put_view-sent.ensures d v describes kind) c.put.ensures in
        (v, viewed.only, c.ended.ensures _ _ _ (all.goes_on (omega arith)))
