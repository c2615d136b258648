use Rattle.std.proofs.Common.{refl, subst}
use Rattle.sf_value.specs.declared.value.Field.TheVariants as field
use Rattle.sf_use.specs.TargetedChoice.{MayOffer}
use Rattle.sf_c.proofs.ScannedTexts.{directs}
use Rattle.sf_c.proofs.cache_control.offered.Goals as goal

pub returns-in-Some : goal.returns-in-Some
returns-in-Some c = λ d may.
    directs c.args.policy.now _ d _ (subst (MayOffer (field.Dict d)) c.in-Some.is may) c.of.ensures

pub returns-in-None : goal.returns-in-None
returns-in-None c = λ d may. (subst (MayOffer (field.Dict d)) c.in-None.is may d refl, refl)
