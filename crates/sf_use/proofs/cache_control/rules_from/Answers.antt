use Rattle.std.proofs.Common.{Option, None, Some, sym, subst, rules, arith}
use Rattle.std.proofs.lemmas.Grind.{common_steps}
use Rattle.sf_use.specs.declared.caching.CacheRules.{CacheRules}
use Rattle.sf_use.specs.CacheControlSteps.{ReadsFrom}
use Rattle.sf_use.proofs.CacheControlTexts.{reads_less, reads_none, reads_off, reads_on, reads_to_end}
use Rattle.sf_use.proofs.cache_control.rules_from.Goals as goal

pub returns-in_err-with_element : goal.returns-in_err-with_element
returns-in_err-with_element c =
    let none = c.loop-with_element.invariant None
    (reads_none c.loop-with_element.so_far c.loop-with_element.rest.now
    c.in_err-with_element.ensures) in
    let P : Option CacheRules → Type 0 = ReadsFrom c.args.rules c.args.text.now in
    subst P (sym c.from_residual.ensures) none

pub returns-in_default : goal.returns-in_default
returns-in_default c =
    c.loop-with_element.invariant (Some c.in_ok-with_element.with_element)
    (reads_to_end c.loop-with_element.so_far c.in_ok-with_element.with_element
    c.loop-with_element.rest.now c.in_ok-with_element.after.now c.in_ok-with_element.ensures
    (first_of (search rules, grind (arith, common_steps))))

pub returns-then-first-ne44 : goal.returns-then-first-ne44
returns-then-first-ne44 c =
    c.loop-with_element.invariant None
    (reads_off c.loop-with_element.so_far c.in_ok-with_element.with_element
    c.loop-with_element.rest.now c.in_ok-with_element.after.now c.in-Some.more.now
    c.in-Some.first.now c.in_ok-with_element.ensures c.in-Some.ensures.cases.0
    c.if-first-ne44.true)

pub loop-with_element-smaller : goal.loop-with_element-smaller
loop-with_element-smaller c =
    reads_less c.loop-with_element.so_far c.in_ok-with_element.with_element
    c.loop-with_element.rest.now c.in_ok-with_element.after.now c.in-Some.more.now
    c.in-Some.first.now c.in_ok-with_element.ensures c.in-Some.ensures.cases.0

pub loop-with_element-preserved : goal.loop-with_element-preserved
loop-with_element-preserved c = λ o more.
    c.loop-with_element.invariant o
    (reads_on c.loop-with_element.so_far c.in_ok-with_element.with_element
    c.loop-with_element.rest.now c.in_ok-with_element.after.now c.in-Some.more.now
    c.in-Some.first.now o c.in_ok-with_element.ensures c.in-Some.ensures.cases.0
    c.if-first-ne44.false more)
