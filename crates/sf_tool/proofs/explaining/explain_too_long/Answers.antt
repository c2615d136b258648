use Rattle.std.proofs.Common.{inr, arith, rules}
use Rattle.sf_write.proofs.Following.{then}
use Rattle.sf_tool.specs.Explaining.{IsExplained}
use Rattle.sf_tool.proofs.explaining.explain_too_long.Goals as goal

pub returns-then-explains : goal.returns-then-explains
returns-then-explains g c =
    let explained : IsExplained c.args.errors.now.is_terminal c.args.status = search rules in
    let all = then c.put-sent.ensures (then c.put_number-sent.ensures c.put.ensures) in
    inr (explained, (_, all.goes_on (omega arith)))
