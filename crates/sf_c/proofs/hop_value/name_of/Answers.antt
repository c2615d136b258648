use Rattle.sf_c.proofs.GivenHops.{no_text_name, no_token_name}
use Rattle.sf_c.proofs.hop_value.name_of.Goals as goal

pub returns-in-Err : goal.returns-in-Err
returns-in-Err c =
    no_text_name c.args.bytes.now c.args.span c.args.is_token c.in-Err.status
    c.if-is_token-eq0.true c.in-Err.ensures

pub returns-in-Err-token_of : goal.returns-in-Err-token_of
returns-in-Err-token_of c =
    no_token_name c.args.bytes.now c.args.span c.args.is_token c.in-Err-token_of.status
    c.if-is_token-eq0.false c.in-Err-token_of.ensures
