use Rattle.std.proofs.Common.{ℕ, List, Err, sym, ◌∙◌, subst}
use Rattle.sf_parse.specs.Parsers.{HasTaken, Finishes}
use Rattle.sf_parse.proofs.FedChunks.{finish_stop, refuses_other}
use Rattle.sf_parse.proofs.parser.Parser.refusal_at_end.Goals as goal

pub returns-clause-ended : goal.returns-clause-ended
returns-clause-ended c =
    subst (λ p. (s : List ℕ) → HasTaken p s → Finishes p.dialect p.kind s (Err c.refuse.result))
    c.self.view_is
    (finish_stop _ _ c.self.invariant c.refuse.ensures (sym c.if-may_end.false
    ∙ c.may_end.ensures))

pub returns-clause-allocation_free : goal.returns-clause-allocation_free
returns-clause-allocation_free c = λ h. refuses_other _ _ _ _ _ c.refuse.ensures
