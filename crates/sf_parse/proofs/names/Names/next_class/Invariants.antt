use Rattle.std.proofs.Common.{◌≡◌, ◌-◌}
use Rattle.sf_parse.specs.Names.{names_left}
use Rattle.sf_parse.proofs.names.Names.next_class.Given as goal

abbrev pub invariant-loop-self : goal.invariant-loop-self
invariant-loop-self l = names_left l.fn.self ≡ names_left l.self

abbrev pub decreases-loop-self : goal.decreases-loop-self
decreases-loop-self l = 9 - l.self.place
