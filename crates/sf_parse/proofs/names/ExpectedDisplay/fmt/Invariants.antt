use Rattle.std.proofs.Common.{◌≡◌, ℕ, List, ◌++◌, length}
use Rattle.std.specs.Fmt.{HasWritten, IsPlainFormatter}
use Rattle.sf_parse.specs.Names.{names_left, names_of, and_more, listed}
use Rattle.sf_parse.proofs.Listing.{from_next}
use Rattle.sf_parse.proofs.names.ExpectedDisplay.fmt.Given as goal

abbrev pub invariant-loop-next : goal.invariant-loop-next
invariant-loop-next g l =
    IsPlainFormatter l.fn.f
    → (shown : List ℕ) × HasWritten g.W.Write.write_str_gives l.fn.f shown l.f
    × (shown ++ and_more (from_next l.next (names_left l.names))
    ≡ listed (names_of l.fn.self.set l.fn.self.may_end))

abbrev pub decreases-loop-next : goal.decreases-loop-next
decreases-loop-next g l = length (from_next l.next (names_left l.names))
