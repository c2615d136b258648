use Rattle.sf_view.proofs.CountedParts.{sum_more, entered_more}
use Rattle.sf_view.proofs.counting.ByTableTally.add.Goals as goal

pub returns : goal.returns
returns c = λ ps s. (
  sum_more _ _ ps _ _ s.0 c.in_ok-self.ensures.nodes c.in_ok-self.ensures.bytes,
  entered_more c.args.self.now.table.now c.enter.new.table ps _ _ _ c.tag.ensures
      c.enter.ensures.kept (c.enter.ensures.entered c.if-not-enter.false) s.1,
)
