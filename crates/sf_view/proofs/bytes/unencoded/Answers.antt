use Rattle.std.proofs.Common.{◌≡◌, ◌≢◌, ◌∷◌, ◌∙◌, ap, rules, arith}
use Rattle.sf_view.proofs.Decoding.{shown_none, shown_ends, at_escape, escape_takes, unencoded_takes}
use Rattle.sf_view.proofs.bytes.unencoded.Goals as goal

pub returns-in_default-clause-none : goal.returns-in_default-clause-none
returns-in_default-clause-none c = λ s h. shown_none c.args.text.now s c.in_default.ensures.none h

pub returns-then-first-eq34-clause-none : goal.returns-then-first-eq34-clause-none
returns-then-first-eq34-clause-none c = λ s h.
    let t = c.if-first-eq34.true in
    let e : c.in-Some.first ≡ 34 = first_of (search rules, grind arith) in
    shown_ends c.args.text.now c.in-Some.rest.now s
    (c.in-Some.ensures.some ∙ ap (λ y. y ∷ c.in-Some.rest.now) e) h

pub returns-then-first-ne37-clause-some : goal.returns-then-first-ne37-clause-some
returns-then-first-ne37-clause-some c = λ s h.
    let t = c.if-first-eq34.false in
    let u = c.if-first-ne37.true in
    let n : c.in-Some.first ≢ 34 = first_of (search rules, grind arith) in
    let m : c.in-Some.first ≢ 37 = first_of (search rules, grind arith) in
    unencoded_takes c.args.text.now c.in-Some.rest.now s c.in-Some.first c.in-Some.ensures.some n m h

pub returns-in_default-hex_byte-clause-none : goal.returns-in_default-hex_byte-clause-none
returns-in_default-hex_byte-clause-none c = λ s h.
    let t = c.if-first-ne37.false in
    let e : c.in-Some.first ≡ 37 = first_of (search rules, grind arith) in
    let a =
    at_escape c.args.text.now c.in-Some.rest.now s
    (c.in-Some.ensures.some ∙ ap (λ y. y ∷ c.in-Some.rest.now) e) h in
    absurd (c.in_default-hex_byte.ensures.none a.byte a.later a.small a.text)

pub returns-clause-some : goal.returns-clause-some
returns-clause-some c = λ s h.
    let t = c.if-first-ne37.false in
    let e : c.in-Some.first ≡ 37 = first_of (search rules, grind arith) in
    let a =
    at_escape c.args.text.now c.in-Some.rest.now s
    (c.in-Some.ensures.some ∙ ap (λ y. y ∷ c.in-Some.rest.now) e) h in
    let g = c.in-Some-hex_byte.ensures.some a.byte a.later a.small a.text in
    escape_takes c.in-Some.rest.now s c.in-Some-hex_byte.byte c.in-Some-hex_byte.later.now a g.0 g.1
