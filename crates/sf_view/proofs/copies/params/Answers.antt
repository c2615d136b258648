use Rattle.std.proofs.Common.{◌≡◌, ◌∷◌, [], Some, None}
use Rattle.sf_value.specs.Grammar.Tokens.{IsKey}
use Rattle.sf_value.specs.Grammar.Valid.{ValidBare}
use Rattle.sf_value.specs.Grammar.Words.{Each}
use Rattle.sf_view.specs.View.{DescribesParams}
use Rattle.sf_view.proofs.Copying.{pairs_more, pairs_stuck, settled_more}
use Rattle.sf_view.proofs.copies.params.Goals as goal

pub returns-in_default-2 : goal.returns-in_default-2
returns-in_default-2 c = λ d r ps t all.
    let is = c.in_default-2.is in
    let none : c.in_ok-key.field-0 ≡ None = cc in
    pairs_stuck (λ s ns p. DescribesParams d s r ns (p ∷ [])) (λ s. DescribesParams d s r)
    (λ p. Each (λ q. IsKey q.0 × ValidBare d q.1) ps → IsKey p.0 × ValidBare d p.1)
    c.loop-param.rest c.in-Some.param c.in-Some.others c.loop-param.all ps
    (c.loop-param.invariant.left d r ps t) c.in-Some.ensures.text (c.in-Some.ensures.params d r)
    (λ p u e. let stuck = rw none at (c.in_ok-key.ensures d r p.0 p.1 u) in stuck (e all))

pub loop-param-preserved : goal.loop-param-preserved
loop-param-preserved c =
    let key = c.in-Some-2.key in
    let value = c.in-Some-2.value in
    let is = c.in-Some-2.is in
    let key_is = c.in-Some-2.key-is in
    let value_is = c.in-Some-2.value-is in
    let some : c.in_ok-key.field-0 ≡ Some (key, value) = cc in
    let e = c.in_ok-set.ensures.new in
    record {
      settled = settled_more c.loop-param.all c.set.new.self key value e;
      left = λ d r ps t.
          pairs_more (λ s ns p. DescribesParams d s r ns (p ∷ [])) (λ s. DescribesParams d s r)
          (λ p. Each (λ q. IsKey q.0 × ValidBare d q.1) ps → IsKey p.0 × ValidBare d p.1)
          c.loop-param.rest c.in-Some.param c.in-Some.others c.loop-param.all ps
          (c.loop-param.invariant.left d r ps t) c.in-Some.ensures.text
          (c.in-Some.ensures.params d r) c.set.new.self key value
          (λ p u _. rw some at (c.in_ok-key.ensures d r p.0 p.1 u)) e;
    }
