use Rattle.std.proofs.Common.{refl, ap, ◌∙◌, ◌∷◌, arith}
use Rattle.sf_value.specs.declared.value.Bare.TheVariants as bare
use Rattle.sf_scan.proofs.Bares.{token_read}
use Rattle.sf_scan.proofs.Lists.{front_of}
use Rattle.sf_scan.proofs.bare.token.Goals as goal

pub returns : goal.returns
returns c = λ d.
    let r = c.long_prefix.ensures in
    let b = c.requires.0 in
    token_read d b c.long_prefix.result.0.now _ c.split_at.result.0.now _ _ c.requires.2 r.every
    (c.requires.1 ∙ ap (λ x. b ∷ x) r.whole) r.longest refl
    (ap bare.Token (c.split_at.ensures.front ∙ front_of _ (b ∷ c.long_prefix.result.0.now) _ _
    (c.requires.1 ∙ ap (λ x. b ∷ x) r.whole) (omega arith)))
