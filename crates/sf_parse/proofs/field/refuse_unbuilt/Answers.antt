use Rattle.std.proofs.Common.{Err, subst}
use Rattle.sf_parse.specs.Parsers.{Parses}
use Rattle.sf_parse.proofs.field.refuse_unbuilt.Goals as goal

pub returns-in-Some-clause-parses : goal.returns-in-Some-clause-parses
returns-in-Some-clause-parses g c =
    subst (λ k. Parses c.args.context.now.dialect k c.args.text.now (Err c.in-Some.refusal))
    c.requires c.in-Some.ensures.0
