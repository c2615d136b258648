use Rattle.std.proofs.Common.{sym, ◌∙◌}
use Rattle.sf_value.specs.Grammar.Classes.{is_key_start, is_in_key}
use Rattle.sf_value.proofs.Words.{word_push}
use Rattle.sf_parse.proofs.parameters.ParamsReaderLevel.turn.Goals as goal

pub invariant_of-self-in-InKey : goal.invariant_of-self-in-InKey
invariant_of-self-in-InKey c =
    let key = rw c.in-InKey.is at c.self.invariant in
    rw (c.in-InKey.is, c.in_ok-push-in-InKey.ensures.bytes)
    (word_push is_key_start is_in_key _ _ key
    (sym c.has.ensures ∙ c.if-not-has.false))
