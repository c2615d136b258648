use Rattle.std.proofs.Common.{refl, rules}
use Rattle.sf_lint.proofs.Lines.{colon, no-colon}
use Rattle.sf_lint.proofs.head.is_named.Goals as goal

pub returns-in-Some : goal.returns-in-Some
returns-in-Some c =
    let is = colon c.args.line.now c.in-Some.ensures.0 in
    rw (is, ← c.in-Some.ensures.1) (search rules)

pub returns-in-None : goal.returns-in-None
returns-in-None c = rw (no-colon c.args.line.now c.in-None.ensures) refl
