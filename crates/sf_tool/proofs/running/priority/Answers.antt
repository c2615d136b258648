use Rattle.std.proofs.Common.{Ok}
use Rattle.sf_value.specs.declared.value.Kind.TheVariants as kind
use Rattle.sf_use.specs.Priority.{params_of_field}
use Rattle.sf_tool.specs.declared.request.Request.TheVariants.{Priority}
use Rattle.sf_tool.proofs.Reports.{reports_ask_fault}
use Rattle.sf_tool.proofs.running.priority.Goals as goal

pub returns-in-Err : goal.returns-in-Err
returns-in-Err g c =
    reports_ask_fault Priority kind.Dict (λ v. Ok (params_of_field v)) c.args.input.now
    c.in-Err.fault _ _ _ tt (λ line r. r) (λ index m. let other = m.2 in absurd cc)
    c.in-Err.ensures.asks c.answer_ask_fault.ensures
