use Rattle.std.proofs.Common.{refl, ap, ◌∙◌}
use Rattle.sf_parse.proofs.AllocationFreeSteps.{field_free_first, field_free_after}
use Rattle.sf_parse.proofs.Feeding.{sound_taken, fed_taken}
use Rattle.sf_parse.proofs.Prefixes.{never}
use Rattle.sf_parse.proofs.parser.Parser.take.Goals as goal

pub invariant_of-self-2 : goal.invariant_of-self-2
invariant_of-self-2 c =
    let none = ap (λ p. p.refusal) c.self.view_is ∙ c.requires.unrefused in
    let capacity = rw (← c.self.view_is) at c.requires.capacity in
    sound_taken _ _ _ _ _ _ _ _ c.self.invariant none capacity c.in-Ok.ensures.prefix

pub returns-clause-fed : goal.returns-clause-fed
returns-clause-fed c =
    let capacity = rw (← c.self.view_is) at c.requires.capacity in
    rw (← c.self.view_is)
    (fed_taken _ _ _ _ c.self.invariant capacity c.in-Ok.ensures.prefix
    (record { dialect = refl; kind = refl; max = refl }) refl refl)

pub returns-clause-allocation_free : goal.returns-clause-allocation_free
returns-clause-allocation_free c =
    rw (← c.self.view_is)
    (λ more h. record {
      unrefused = h.unrefused;
      state =
          field_free_after c.self.inside.context.dialect _ _ _ _ more h.state
          c.in-Ok.ensures.prefix.goes;
    })

pub returns-in-Err-clause-allocation_free : goal.returns-in-Err-clause-allocation_free
returns-in-Err-clause-allocation_free c =
    rw (← c.self.view_is)
    (λ more h. never (c.in-Err.ensures.allocation_free (field_free_first _ _ more h.state)))
