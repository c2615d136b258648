use Rattle.std.proofs.Common.{subst}
use Rattle.sf_parse.proofs.Prefixes.{never, goes_more, free_goes}
use Rattle.sf_parse.proofs.Prefixes.{prefix_none, turn_on, turn_stop}
use Rattle.sf_parse.proofs.level.Level.take.Goals as goal

pub returns-in_err-rest-clause-allocation_free : goal.returns-in_err-rest-clause-allocation_free
returns-in_err-rest-clause-allocation_free g c =
    let d = c.args.context.now.dialect in
    let next = g.Self.Level.next d in
    λ h. never (c.in_err-rest.ensures.allocation_free
    (free_goes next (g.Self.Level.allocation_free d) (g.met.Self.Level.keeps d) _ _ _ _ h
    c.loop-self.invariant))

pub returns-in_default-clause-prefix : goal.returns-in_default-clause-prefix
returns-in_default-clause-prefix g c =
    let next = g.Self.Level.next c.args.context.now.dialect in
    prefix_none next _ _ _ _ c.in_default.ensures.cases
    (goes_more next _ _ _ _ _ _ c.loop-self.invariant c.in_ok-rest.ensures.goes)

pub returns-in_err-turn-clause-allocation_free : goal.returns-in_err-turn-clause-allocation_free
returns-in_err-turn-clause-allocation_free g c =
    let d = c.args.context.now.dialect in
    let next = g.Self.Level.next d in
    let free = g.Self.Level.allocation_free d in
    let goes = goes_more next _ _ _ _ _ _ c.loop-self.invariant c.in_ok-rest.ensures.goes in
    λ h. never (c.in_err-turn.ensures.allocation_free _
    (subst (free c.take_part.new.self) c.in-Some.ensures.cases.0
    (free_goes next free (g.met.Self.Level.keeps d) _ _ _ _ h goes)))

pub returns-then-not-branch-clause-prefix : goal.returns-then-not-branch-clause-prefix
returns-then-not-branch-clause-prefix g c =
    let d = c.args.context.now.dialect in
    turn_stop (g.Self.Level.next d) (g.Self.Level.stuck d c.take_part.new.self) _ _ _ _ _ _ _ _ _ _
    c.loop-self.invariant c.in_ok-rest.ensures.goes c.in_ok-rest.ensures.stuck
    c.in-Some.ensures.cases.0 c.if-not-branch.true c.in_ok-turn.ensures.step

pub loop-self-preserved : goal.loop-self-preserved
loop-self-preserved g c =
    let d = c.args.context.now.dialect in
    turn_on (g.Self.Level.next d) (g.Self.Level.stuck d c.take_part.new.self) _ _ _ _ _ _ _ _ _ _
    c.loop-self.invariant c.in_ok-rest.ensures.goes c.in_ok-rest.ensures.stuck
    c.in-Some.ensures.cases.0 c.if-not-branch.false c.in_ok-turn.ensures.step
