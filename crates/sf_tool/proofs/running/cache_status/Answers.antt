use Rattle.std.proofs.Common.{inl, inr, refl}
use Rattle.sf_value.specs.declared.value.Kind.TheVariants as kind
use Rattle.sf_use.specs.CacheStatus.Hops.{hops}
use Rattle.sf_tool.specs.declared.request.Request.TheVariants.{CacheStatus}
use Rattle.sf_tool.proofs.Reports.{reports_ask_fault}
use Rattle.sf_tool.proofs.running.cache_status.Goals as goal

pub returns-in-Err : goal.returns-in-Err
returns-in-Err g c =
    reports_ask_fault CacheStatus kind.List hops c.args.input.now c.in-Err.fault _ _ _ tt
    (λ line r. inl r) (λ index m. inr (m.0, m.1, index, m.2, refl)) c.in-Err.ensures.asks
    c.answer_ask_fault.ensures
