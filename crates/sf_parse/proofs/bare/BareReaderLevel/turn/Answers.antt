use Rattle.std.proofs.Common.{sym, ◌∙◌}
use Rattle.sf_value.specs.Grammar.Classes.{is_token_start, is_in_token}
use Rattle.sf_value.proofs.Words.{word_push}
use Rattle.sf_parse.proofs.bare.BareReaderLevel.turn.Goals as goal

pub invariant_of-self-in-Token : goal.invariant_of-self-in-Token
invariant_of-self-in-Token c =
    let token = rw c.in-Token.is at c.self.invariant in
    rw (c.in-Token.is, c.in_ok-push-in-Token.ensures.bytes)
    (word_push is_token_start is_in_token _ _ token
    (sym c.has.ensures ∙ c.if-not-has.false))
