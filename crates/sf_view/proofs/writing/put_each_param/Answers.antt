use Rattle.std.proofs.Common.{◌∷◌, [], refl}
use Rattle.sf_value.specs.Grammar.Canonical.{canon_params}
use Rattle.sf_write.proofs.Following.{remains_all}
use Rattle.sf_view.specs.View.{DescribesParams}
use Rattle.sf_view.specs.CanonicalParts.{canon_param}
use Rattle.sf_view.proofs.Writes.{unwritten_less, unwritten_none, params_are}
use Rattle.sf_view.proofs.writing.put_each_param.Goals as goal

pub loop-param-init : goal.loop-param-init
loop-param-init g c = λ d r ps t. record { left = ps; describes = t; rest = remains_all }

pub loop-param-preserved : goal.loop-param-preserved
loop-param-preserved g c = λ d r ps t.
    unwritten_less (λ s. DescribesParams d s r) canon_params c.loop-param.rest
    (λ s ns p. DescribesParams d s r ns (p ∷ [])) canon_params canon_param params_are
    c.in-Some.param c.in-Some.others (c.loop-param.invariant d r ps t) c.in-Some.ensures.text
    (c.in-Some.ensures.params d r) (λ p. c.put_param-sent.ensures d r p.0 p.1)

pub returns-in_default : goal.returns-in_default
returns-in_default g c = λ d r ps t.
    unwritten_none (λ s. DescribesParams d s r) canon_params c.loop-param.rest
    (c.loop-param.invariant d r ps t) (c.in_default.ensures.params d r) refl
