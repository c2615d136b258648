use Rattle.sf_view.proofs.CountedParts.{sum_more, marked_more}
use Rattle.sf_view.proofs.counting.ByMarksTally.add.Goals as goal

pub returns : goal.returns
returns c = λ ps s. (
  sum_more _ _ ps _ _ s.0 c.in_ok-self.ensures.nodes c.in_ok-self.ensures.bytes,
  marked_more c.args.self.now.marks c.with-self.result ps _ _ _ c.mark.ensures c.with-self.ensures
      c.if-self.false s.1,
)
