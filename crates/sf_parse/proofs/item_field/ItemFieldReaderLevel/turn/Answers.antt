use Rattle.std.proofs.Common.{◌∷◌}
use Rattle.sf_parse.proofs.Prefixes.{never}
use Rattle.sf_parse.proofs.item_field.ItemFieldReaderLevel.turn.Goals as goal

pub returns-in_err-end-in-Inside-clause-allocation_free : goal.returns-in_err-end-in-Inside-clause-allocation_free
returns-in_err-end-in-Inside-clause-allocation_free c =
    rw (← c.self.view_is, c.in-Inside.is)
    (λ more h. never (c.in_err-end-in-Inside.ensures.allocation_free tt (_ ∷ more) h))
