use Rattle.std.proofs.Common.{subst}
use Rattle.sf_field.specs.Asking.{Asks}
use Rattle.sf_tool.proofs.InputLines.{ask_of_text}
use Rattle.sf_tool.proofs.running.ask_input.Goals as goal

pub returns-clause-asks : goal.returns-clause-asks
returns-clause-asks g c =
    let meaning = g.C.Consumer.meaning c.args.consumer.now in
    subst (λ ls. Asks g.C.Consumer.KIND meaning ls c.ask_from.result) c.new.ensures
    c.ask_from.ensures.answers

pub returns-clause-of_text : goal.returns-clause-of_text
returns-clause-of_text g c =
    let meaning = g.C.Consumer.meaning c.args.consumer.now in
    ask_of_text g.C.Consumer.KIND meaning c.args.input.now c.ask_from.result c.requires
    (subst (λ ls. Asks g.C.Consumer.KIND meaning ls c.ask_from.result) c.new.ensures
    c.ask_from.ensures.answers)
