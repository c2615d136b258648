use Rattle.std.proofs.Common.{◌≡◌, ◌≢◌, ◌∷◌, ◌∙◌, ap, rules, arith}
use Rattle.sf_view.proofs.Decoding.{quote_ends, backslash_takes, plain_takes}
use Rattle.sf_view.proofs.bytes.unescaped.Goals as goal

pub returns-then-first-eq34-clause-none : goal.returns-then-first-eq34-clause-none
returns-then-first-eq34-clause-none c = λ s h.
    let t = c.if-first-eq34.true in
    let e : c.in-Some.first ≡ 34 = first_of (search rules, grind arith) in
    quote_ends c.args.text.now c.in-Some.rest.now s
    (c.in-Some.ensures.some ∙ ap (λ y. y ∷ c.in-Some.rest.now) e) h

pub returns-then-first-ne92-clause-some : goal.returns-then-first-ne92-clause-some
returns-then-first-ne92-clause-some c = λ s h.
    let t = c.if-first-eq34.false in
    let u = c.if-first-ne92.true in
    let n : c.in-Some.first ≢ 34 = first_of (search rules, grind arith) in
    let m : c.in-Some.first ≢ 92 = first_of (search rules, grind arith) in
    plain_takes c.args.text.now c.in-Some.rest.now s c.in-Some.first c.in-Some.ensures.some n m h

pub returns-clause-some : goal.returns-clause-some
returns-clause-some c = λ s h.
    let t = c.if-first-ne92.false in
    let e : c.in-Some.first ≡ 92 = first_of (search rules, grind arith) in
    backslash_takes c.args.text.now c.in-Some.rest.now s c.in-Some-first_of.byte
    c.in-Some-first_of.later.now (c.in-Some.ensures.some ∙ ap (λ y. y ∷ c.in-Some.rest.now) e)
    c.in-Some-first_of.ensures.some h
