use Rattle.std.proofs.Common.{ap, codes, ◌∙◌}
use Rattle.std.proofs.lemmas.Result.{IfOk-weaker}
use Rattle.clap.specs.Simple.{App, with_rule}
use Rattle.sf_tool.specs.CommandLine.{option_of}
use Rattle.sf_lint.specs.Options.{target_option}
use Rattle.sf_lint.proofs.options.with_caches.Goals as goal

pub returns : goal.returns
returns c =
    IfOk-weaker c.with_target.result _ _
    (λ new h. h
    ∙ ap (λ (a : App). with_rule a target_option)
    (c.in_ok-aged.ensures
    ∙ ap (λ (a : App). with_rule a (option_of (codes "age"))) c.in_ok-deciding.ensures))
    c.with_target.ensures
