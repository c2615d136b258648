use Rattle.std.proofs.Common.{sym, subst}
use Rattle.sf_field.specs.Meaning.{Gives}
use Rattle.sf_use.specs.CacheStatus.Hops.{hops, hops_of}
use Rattle.sf_use.proofs.cache_status.path.CacheStatusConsumer.answer.Goals as goal

pub returns : goal.returns
returns c =
    subst (λ f. Gives (hops f) c.read_path.result) (sym c.in-List.is)
    (subst (λ ms. Gives (hops_of ms) c.read_path.result) c.as_slice.ensures c.read_path.ensures)
