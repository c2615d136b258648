use Rattle.std.specs.Option.{option_map}
use Rattle.std.proofs.Common.{refl, ap}
use Rattle.sf_value.specs.Grammar.Classes.{is_token_start, is_in_token}
use Rattle.sf_parse.specs.Machine.Texts.{text_step, word_step}
use Rattle.sf_parse.specs.Machine.Blobs.{blob_step}
use Rattle.sf_parse.specs.Machine.Showns.{shown_step}
use Rattle.sf_parse.specs.Machine.Numbers.{number_step, date_step}
use Rattle.sf_parse.specs.Machine.Bares.{InNumber, InText, InToken, InDate, InBlob, InShown}
use Rattle.sf_parse.specs.Machine.Bares.{bare_step}
use Rattle.sf_parse.proofs.Prefixes.{part_goes, goes_above}
use Rattle.sf_parse.proofs.ByteRuns.{word_goes, word_run_kept}
use Rattle.sf_parse.proofs.bare.BareReaderLevel.take_part.Goals as goal

pub returns-in-Text-clause-goes : goal.returns-in-Text-clause-goes
returns-in-Text-clause-goes c =
    rw (← c.self.view_is, c.in-Text.is)
    (part_goes text_step bare_step InText (λ s t b e. ap (option_map InText) e) _ _ _ _ _ refl
    c.take_run.ensures.goes)

pub invariant_of-self-in-Token : goal.invariant_of-self-in-Token
invariant_of-self-in-Token c =
    let token = rw c.in-Token.is at c.self.invariant in
    rw c.in-Token.is
    (word_run_kept is_token_start is_in_token _ _ _ c.in_ok-extend-in-Token.ensures.bytes
    c.long_prefix.ensures.every token)

pub returns-in-Token-clause-goes : goal.returns-in-Token-clause-goes
returns-in-Token-clause-goes c =
    rw (← c.self.view_is, c.in-Token.is)
    (goes_above (word_step is_in_token) bare_step InToken (λ s t b e. ap (option_map InToken) e) _ _
    _ _
    (word_goes is_in_token _ _ _ _ _ c.long_prefix.ensures.whole c.long_prefix.ensures.every
    c.in_ok-extend-in-Token.ensures.bytes))

pub returns-in-Blob-clause-goes : goal.returns-in-Blob-clause-goes
returns-in-Blob-clause-goes c =
    rw (← c.self.view_is, c.in-Blob.is)
    (part_goes blob_step bare_step InBlob (λ s t b e. ap (option_map InBlob) e) _ _ _ _ _ refl
    c.take_run-in-Blob.ensures)

pub returns-in-Shown-clause-goes : goal.returns-in-Shown-clause-goes
returns-in-Shown-clause-goes c =
    rw (← c.self.view_is, c.in-Shown.is)
    (part_goes shown_step bare_step InShown (λ s t b e. ap (option_map InShown) e) _ _ _ _ _ refl
    c.take_run-in-Shown.ensures.goes)

pub returns-in-Number-clause-goes : goal.returns-in-Number-clause-goes
returns-in-Number-clause-goes c =
    rw (← c.self.view_is, c.in-Number.is)
    (goes_above number_step bare_step InNumber (λ s t b e. ap (option_map InNumber) e) _ _ _ _
    c.take_run-in-Number.ensures.goes)

pub returns-in-Number-clause-stuck : goal.returns-in-Number-clause-stuck
returns-in-Number-clause-stuck c = rw c.in-Number.is c.take_run-in-Number.ensures.stop

pub returns-in-Date-clause-goes : goal.returns-in-Date-clause-goes
returns-in-Date-clause-goes c =
    rw (← c.self.view_is, c.in-Date.is)
    (goes_above date_step bare_step InDate (λ s t b e. ap (option_map InDate) e) _ _ _ _
    c.take_run-in-Date.ensures)
