use Rattle.std.proofs.Common.{ap, ◌∙◌}
use Rattle.sf_use.specs.Caching.{decision}
use Rattle.sf_rfc_use.proofs.StalenessAgrees.{text_used}
use Rattle.sf_rfc_use.proofs.caching.reuse.Goals as goal

pub returns : goal.returns
returns c =
    text_used c.args.cache c.args.understands c.args.age c.args.expires c.args.text.now
    c.in_ok-written.written c.decide_with.result c.in_ok-written.ensures
    (c.decide_with.ensures
    ∙ ap (λ r. decision r c.args.cache c.args.expires c.args.age) c.rules_for-rules.ensures)
