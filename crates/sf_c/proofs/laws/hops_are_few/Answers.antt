use Rattle.std.proofs.Common.{arith}
use Rattle.sf_c.proofs.HopBound.{path_few}
use Rattle.sf_c.proofs.laws.hops_are_few.Goals as goal

pub returns : goal.returns
returns c = record {
  hops = λ d kind t v hs spelled meant.
      let nodes = c.nodes_are_few.ensures.nodes d kind t v spelled in
      let few = path_few v hs meant in
      let count = few.0 in
      omega arith;
  bytes = λ d kind t v hs spelled meant.
      let bytes = c.nodes_are_few.ensures.bytes d kind t v spelled in
      let few = path_few v hs meant in
      let size = few.1 in
      omega arith;
}
