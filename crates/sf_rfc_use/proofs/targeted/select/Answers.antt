use Rattle.sf_value.specs.declared.dialect.Dialect.TheVariants.{Rfc9651}
use Rattle.sf_rfc_use.proofs.TargetedAgrees.{result_agrees}
use Rattle.sf_rfc_use.proofs.targeted.select.Goals as goal

pub returns : goal.returns
returns c =
    result_agrees Rfc9651 _ c.args.headers.now c.select.result c.select.ensures.chosen
