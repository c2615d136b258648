use Rattle.sf_c.proofs.ParsedNodes.{exceeding}
use Rattle.sf_c.proofs.parse.parse_counted.Goals as goal

pub returns-in-Some : goal.returns-in-Some
returns-in-Some c =
    exceeding c.args.dialect c.args.kind c.args.text.now c.args.counts c.args.nodes.now c.args.bytes.now
    c.args.sizes.now c.exceeds.new.sizes c.args.refusal.now c.in-Some.status c.nodes_are_few.ensures.nodes
    c.nodes_are_few.ensures.bytes c.requires.counted c.in-Some.ensures
