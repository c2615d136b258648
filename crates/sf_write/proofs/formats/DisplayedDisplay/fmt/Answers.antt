use Rattle.std.proofs.Common.{rules}
use Rattle.sf_write.proofs.FormattedTexts.{formatted}
use Rattle.sf_write.proofs.formats.DisplayedDisplay.fmt.Goals as goal

pub returns-in-Ok-clause-writes : goal.returns-in-Ok-clause-writes
returns-in-Ok-clause-writes g c = λ plain ok.
    let calls = rw c.in-Ok.is at c.put.ensures.calls in
    formatted g.W.Write.write_str_gives _ c.put.new.out _ _ calls (search rules) plain
