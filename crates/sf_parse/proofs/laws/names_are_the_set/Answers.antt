use Rattle.sf_parse.proofs.NamedSets as named_sets
use Rattle.sf_parse.proofs.laws.names_are_the_set.Goals as goal

pub returns : goal.returns
returns c = named_sets.names_are_the_set
