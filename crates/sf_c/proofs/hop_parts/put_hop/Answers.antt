use Rattle.sf_write.proofs.Following.{then, nothing}
use Rattle.sf_c.proofs.WrittenHops.{hop_written}
use Rattle.sf_c.proofs.hop_parts.put_hop.Goals as goal

pub returns : goal.returns
returns g c = λ h v.
    rw (hop_written h)
    (then (c.put_name-name.ensures h.name v.0)
    (then (c.put_hit-hit.ensures c.args.bytes.now h.outcome v.1)
    (then (c.put_why-why.ensures h.outcome v.1)
    (then (c.put_status-status.ensures c.args.bytes.now h.outcome v.1)
    (then (c.put_ttl-ttl.ensures h.ttl v.2)
    (then (c.put_stored-stored.ensures c.args.bytes.now h.outcome v.1)
    (then (c.put_collapsed-collapsed.ensures c.args.bytes.now h.outcome v.1)
    (then (c.put_key-key.ensures h.key v.3)
    (then (c.put_detail.ensures h.detail v.4) nothing)))))))))
