use Rattle.sf_c.proofs.ScannedPaths.{hop_is_put}
use Rattle.sf_c.proofs.hop_scan.put_hop.Goals as goal

pub returns-clause-put : goal.returns-clause-put
returns-clause-put c = λ h s.
    hop_is_put c.args.hop h c.args.bytes.now c.put_slice.new.bytes c.put_slice-2.new.bytes
    c.put_slice-3.new.bytes c.put_slice-4.new.bytes c.args.used c.end.result c.end-2.result
    c.end-3.result c.in_ok-name.name c.in_ok-why_token.why_token c.in_ok-key.key
    c.in_ok-detail.detail c.node_of.result c.name_slice.result c.token_slice.result
    c.text_slice.result c.detail_slice.result s c.name_slice.ensures c.token_slice.ensures
    c.text_slice.ensures c.detail_slice.ensures c.in_ok-name.ensures.put
    c.in_ok-why_token.ensures.put c.in_ok-key.ensures.put c.in_ok-detail.ensures.put
    c.end.ensures c.end-2.ensures c.end-3.ensures c.node_of.ensures.name
    c.node_of.ensures.why_token c.node_of.ensures.key c.node_of.ensures.detail
    c.node_of.ensures.says
