use Rattle.sf_c.proofs.WrittenHops.{string_name, token_name}
use Rattle.sf_c.proofs.hop_parts.put_name.Goals as goal

pub returns-then-name_is_token-eq0 : goal.returns-then-name_is_token-eq0
returns-then-name_is_token-eq0 g c = λ x h.
    rw (string_name c.args.bytes.now c.args.span c.args.name_is_token x c.part-name.result.now
    c.if-name_is_token-eq0.true h c.part-name.ensures) c.put_string.ensures

pub returns : goal.returns
returns g c = λ x h.
    rw (token_name c.args.bytes.now c.args.span c.args.name_is_token x c.part-name.result.now
    c.if-name_is_token-eq0.false h c.part-name.ensures) c.put.ensures
