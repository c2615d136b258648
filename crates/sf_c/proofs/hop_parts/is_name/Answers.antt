use Rattle.sf_c.proofs.DecidedHops.{text_name_decided, token_name_decided}
use Rattle.sf_c.proofs.hop_parts.is_name.Goals as goal

pub returns-then-name_is_token-eq0 : goal.returns-then-name_is_token-eq0
returns-then-name_is_token-eq0 c =
    text_name_decided c.args.bytes.now c.args.span c.args.name_is_token c.is_string.result
    c.if-name_is_token-eq0.true c.is_string.ensures

pub returns : goal.returns
returns c =
    token_name_decided c.args.bytes.now c.args.span c.args.name_is_token c.is_token.result
    c.if-name_is_token-eq0.false c.is_token.ensures
