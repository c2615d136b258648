use Rattle.std.proofs.Common.{rules}
use Rattle.sf_tool.proofs.Cuts.{lines-first, lines-last}
use Rattle.sf_tool.proofs.cutting.split_line.Goals as goal

pub returns-in-Some-clause-lines : goal.returns-in-Some-clause-lines
returns-in-Some-clause-lines c =
    rw (c.without_return.ensures, c.in-Some.ensures.1, c.in-Some.ensures.2)
    (lines-first c.args.input.now c.in-Some.ensures.0)

pub returns-in-None-clause-lines : goal.returns-in-None-clause-lines
returns-in-None-clause-lines c = lines-last c.args.input.now (search rules) c.in-None.ensures
