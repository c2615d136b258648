use Rattle.std.proofs.Common.{Ok, rules, ◌∙◌, subst}
use Rattle.sf_value.specs.declared.value.Kind.TheVariants.{Dict}
use Rattle.sf_field.specs.Asking.{AsksIn}
use Rattle.sf_field.specs.Headers.{value_lines}
use Rattle.sf_use.specs.Targeted.{policy}
use Rattle.sf_use.specs.TargetedChoice.{offer}
use Rattle.sf_use.proofs.Choosing.{of_target, offers}
use Rattle.sf_use.proofs.targeted.offered.Goals as goal

pub offer_in-requires : goal.offer_in-requires
offer_in-requires c =
    of_target c.args.dialect policy c.args.headers.now c.args.name.now c.ask_from_in.result
    (subst
    (λ vs. AsksIn c.args.dialect Dict (λ f. Ok (offer f)) (value_lines vs) c.ask_from_in.result)
    (c.iter.ensures ∙ c.get_all.ensures.value) c.ask_from_in.ensures.answers)

pub returns-clause-offer : goal.returns-clause-offer
returns-clause-offer c =
    offers c.args.dialect policy c.args.headers.now c.args.name.now c.ask_from_in.result
    c.offer_in.result
    (search rules)
    (subst
    (λ vs. AsksIn c.args.dialect Dict (λ f. Ok (offer f)) (value_lines vs) c.ask_from_in.result)
    (c.iter.ensures ∙ c.get_all.ensures.value) c.ask_from_in.ensures.answers)
    c.offer_in.ensures
