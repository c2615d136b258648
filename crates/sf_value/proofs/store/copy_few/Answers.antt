use Rattle.std.proofs.Common.{length, sym, subst, arith}
use Rattle.std.proofs.lemmas.Grind.{common_steps}
use Rattle.sf_value.specs.Capacities.{HasGrown}
use Rattle.sf_value.proofs.store.copy_few.Goals as goal

pub loop-source-preserved : goal.loop-source-preserved
loop-source-preserved g c =
    record {
      copied = grind (arith, common_steps);
      seeds = c.push_copy.ensures.seeds c.loop-source.invariant.seeds;
      many = grind (arith, common_steps);
      room = grind (arith, common_steps);
      grown = subst (λ n. HasGrown (length c.args.sources.now) n) (sym c.push_copy.ensures.room)
          c.loop-source.invariant.grown;
    }
