use Rattle.sf_view.proofs.KeyMarks.{mark_added}
use Rattle.sf_view.proofs.keys.Marks.with.Goals as goal

pub returns : goal.returns
returns c = λ ks k e h n.
    mark_added c.args.self.bits c.args.mark ks k e c.if-self-bit-eq1.false h
