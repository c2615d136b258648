use Rattle.sf_rfc_use.proofs.PriorityAgrees.{merged_is}
use Rattle.sf_rfc_use.proofs.priority.merged.Goals as goal

pub returns : goal.returns
returns c =
    merged_is c.args.client.now c.args.server.now _ _ _ c.from_dict.ensures c.from_dict-2.ensures
    c.merge.ensures
