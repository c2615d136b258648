use Rattle.std.proofs.Common.{length, sym, subst, arith}
use Rattle.std.proofs.lemmas.Grind.{common_steps}
use Rattle.sf_value.specs.Capacities.{HasGrown}
use Rattle.sf_value.proofs.store.copy_left.Goals as goal

pub loop-key-preserved : goal.loop-key-preserved
loop-key-preserved g c =
    record {
      all = grind (arith, common_steps);
      seeds = c.push_copy.ensures.seeds c.loop-key.invariant.seeds;
      room = grind (arith, common_steps);
      many = grind (arith, common_steps);
      grown = subst (λ n. HasGrown (length c.args.map.now.entries) n) (sym c.push_copy.ensures.room)
          c.loop-key.invariant.grown;
    }
