use Rattle.sf_rfc_use.proofs.CacheStatusAgrees.{path_agrees}
use Rattle.sf_rfc_use.proofs.cache_status.path_of.Goals as goal

pub returns : goal.returns
returns c = path_agrees c.args.field.now c.answer.result c.requires c.answer.ensures
