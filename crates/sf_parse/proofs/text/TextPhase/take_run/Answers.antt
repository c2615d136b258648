use Rattle.sf_parse.proofs.ByteRuns.{text_goes, visible_run}
use Rattle.sf_parse.proofs.text.TextPhase.take_run.Goals as goal

pub returns-in_ok-extend-in-Inside-clause-goes : goal.returns-in_ok-extend-in-Inside-clause-goes
returns-in_ok-extend-in-Inside-clause-goes c =
    rw c.in-Inside.is
    (text_goes _ _ _ _ _ c.long_prefix.ensures.whole c.long_prefix.ensures.every
    c.in_ok-extend-in-Inside.ensures.bytes)

pub returns-in_ok-extend-in-Inside-clause-visible : goal.returns-in_ok-extend-in-Inside-clause-visible
returns-in_ok-extend-in-Inside-clause-visible c =
    λ h. visible_run _ _ _ c.in_ok-extend-in-Inside.ensures.bytes c.long_prefix.ensures.every h
