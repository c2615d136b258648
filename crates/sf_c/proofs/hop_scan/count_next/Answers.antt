use Rattle.sf_c.proofs.ScannedPaths.{hop_counted}
use Rattle.sf_c.proofs.hop_scan.count_next.Goals as goal

pub returns : goal.returns
returns c = λ d t u e nodes bytes s r.
    hop_counted d t u e c.args.hop c.args.sizes _ s r c.in_ok-with_hop.ensures.hops
    c.in_ok-with_hop.ensures.bytes c.in_ok-with_hop.ensures.hit c.in_ok-with_hop.ensures.other
