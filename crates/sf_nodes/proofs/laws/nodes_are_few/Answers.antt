use Rattle.std.proofs.Common.{length}
use Rattle.sf_nodes.proofs.NodeBound.{nodes_bound, bytes_bound}
use Rattle.sf_nodes.proofs.laws.nodes_are_few.Goals as goal

pub returns : goal.returns
returns c =
    let short = c.canon_is_short.ensures in
    let valid = c.spelled_is_valid.ensures in
    record {
      nodes = λ d kind t v spelled.
          nodes_bound d kind v (length t) (valid d kind t v spelled) (short d kind t v spelled);
      bytes = λ d kind t v spelled.
          bytes_bound d kind v (length t) (valid d kind t v spelled) (short d kind t v spelled);
    }
