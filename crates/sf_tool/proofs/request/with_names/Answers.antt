use Rattle.std.proofs.Common.{ap, codes, ◌∙◌}
use Rattle.std.proofs.lemmas.Result.{IfOk-weaker}
use Rattle.clap.specs.Simple.{App, with_rule}
use Rattle.sf_tool.specs.CommandLine.{option_of}
use Rattle.sf_tool.proofs.request.with_names.Goals as goal

pub returns : goal.returns
returns c =
    IfOk-weaker c.with_option-2.result _ _
    (λ new h. h
    ∙ ap (λ (a : App). with_rule a (option_of (codes "age")))
    (c.in_ok-command-2.ensures
    ∙ ap (λ (a : App). with_rule a (option_of (codes "fallback"))) c.in_ok-command.ensures))
    c.with_option-2.ensures
