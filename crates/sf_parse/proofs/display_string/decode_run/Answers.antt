use Rattle.std.proofs.Common.{refl, arith}
use Rattle.sf_parse.proofs.Decoding.{block_more}
use Rattle.sf_parse.proofs.display_string.decode_run.Goals as goal

pub loop-count-init : goal.loop-count-init
loop-count-init c = record {
  within = omega arith;
  bytes = block_more _ c.args.block.now _ _ 0 c.args.first (omega arith) refl refl;
  shorter = omega arith;
}
