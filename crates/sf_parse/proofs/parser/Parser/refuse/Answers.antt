use Rattle.std.proofs.Common.{refl}
use Rattle.sf_parse.proofs.FedChunks.{fed_stop, fed_past, refuses_at, refuses_other}
use Rattle.sf_parse.proofs.parser.Parser.refuse.Goals as goal

pub returns-then-self-clause-fed : goal.returns-then-self-clause-fed
returns-then-self-clause-fed c =
    rw (← c.self.view_is)
    (fed_past _ _ _ c.self.invariant c.if-self.true
    (record { dialect = refl; kind = refl; max = refl }) refl refl)

pub returns-clause-fed : goal.returns-clause-fed
returns-clause-fed c =
    let stops = rw (← c.self.view_is) at c.requires.stops in
    rw (← c.self.view_is)
    (fed_stop _ _ _ _ c.self.invariant c.if-self.false (stops c.if-self.false)
    c.refuse-refusal.ensures
    (record { dialect = refl; kind = refl; max = refl }) refl refl)

pub returns-clause-other : goal.returns-clause-other
returns-clause-other c = refuses_other _ _ _ _ _ c.refuse-refusal.ensures

pub invariant_of-self-2 : goal.invariant_of-self-2
invariant_of-self-2 c = refuses_at _ _ _ _ _ _ c.refuse-refusal.ensures
