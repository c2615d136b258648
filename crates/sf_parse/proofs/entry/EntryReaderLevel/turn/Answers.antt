use Rattle.std.proofs.Common.{sym, ◌∙◌}
use Rattle.sf_value.specs.Grammar.Classes.{is_key_start, is_in_key}
use Rattle.sf_value.proofs.Words.{word_push}
use Rattle.sf_parse.proofs.entry.EntryReaderLevel.turn.Goals as goal

pub invariant_of-self-in-InKey : goal.invariant_of-self-in-InKey
invariant_of-self-in-InKey c =
    let fits = c.self.invariant in
    rw c.in_ok-push-in-InKey.ensures.bytes (
      word_push is_key_start is_in_key _ _ fits.0
          (sym c.has.ensures ∙ c.if-not-has.false),
      fits.1,
    )
