use Rattle.std.proofs.Common.{◌∙◌, sym, arith}
use Rattle.sf_c.proofs.ScannedPaths.{hop_long, outcome_shown}
use Rattle.sf_c.proofs.hop_scan.with_hop.Goals as goal

pub returns-clause-bytes : goal.returns-clause-bytes
returns-clause-bytes c = λ h s.
    let own = hop_long c.args.hop h c.decoded_len-name.result c.decoded_len-why_token.result
    c.decoded_len-key.result c.decoded_len-detail.result c.name_slice.result
    c.token_slice.result c.text_slice.result c.detail_slice.result s c.name_slice.ensures
    c.token_slice.ensures c.text_slice.ensures c.detail_slice.ensures c.decoded_len-name.ensures
    c.decoded_len-why_token.ensures c.decoded_len-key.ensures c.decoded_len-detail.ensures in
    let two = c.in_ok-checked_add.ensures in
    let three = c.in_ok-checked_add-2.ensures in
    let four = c.in_ok-own.ensures in
    let all = c.in_ok-checked_add-4.ensures in
    first_of (omega arith, grind arith)

pub returns-clause-hit : goal.returns-clause-hit
returns-clause-hit c = λ h s e.
    c.last_hit.ensures.hit (c.outcome_of.ensures ∙ outcome_shown c.args.hop h s ∙ e)

pub returns-clause-other : goal.returns-clause-other
returns-clause-other c = λ h s n.
    c.last_hit.ensures.other
    (λ e. n (sym (outcome_shown c.args.hop h s) ∙ sym c.outcome_of.ensures ∙ e))
