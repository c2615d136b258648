use Rattle.sf_parse.proofs.WholeParts.{entry_flag, named_entry}
use Rattle.sf_parse.proofs.whole_parts.find_value.Goals as goal

pub returns-in_default-clause-entry : goal.returns-in_default-clause-entry
returns-in_default-clause-entry c = λ text ps rest e r. entry_flag _ _ _ _ _ ps e c.requires r

pub returns-clause-entry : goal.returns-clause-entry
returns-clause-entry c = λ text ps rest e r.
    named_entry _ _ _ _ _ _ _ _ ps e c.requires c.in-Some.ensures c.in_ok-leaf.ensures.reads r
