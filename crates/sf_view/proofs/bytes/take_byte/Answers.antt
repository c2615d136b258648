use Rattle.std.proofs.Common.{subst}
use Rattle.sf_view.specs.Decoding.{Remains}
use Rattle.sf_view.proofs.bytes.take_byte.Goals as goal

pub returns-in_default-first_byte-clause-none : goal.returns-in_default-first_byte-clause-none
returns-in_default-first_byte-clause-none c = λ s h.
    c.in_default-first_byte.ensures.none s
    (subst (λ y. Remains y c.args.rest.now s) c.in-First.is h)

pub returns-in_default-second_byte-clause-none : goal.returns-in_default-second_byte-clause-none
returns-in_default-second_byte-clause-none c = λ s h.
    c.in_default-second_byte.ensures.none s
    (subst (λ y. Remains y c.args.rest.now s) c.in-Second.is h)

pub returns-in_default-third_byte-clause-none : goal.returns-in_default-third_byte-clause-none
returns-in_default-third_byte-clause-none c = λ s h.
    c.in_default-third_byte.ensures.none s
    (subst (λ y. Remains y c.args.rest.now s) c.in-Third.is h)
