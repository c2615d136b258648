use Rattle.sf_value.specs.declared.dialect.Dialect.TheVariants.{Rfc9651}
use Rattle.sf_use.proofs.RulesChoosing as choosing
use Rattle.sf_use.proofs.laws.rules_of_the_selected.Goals as goal

pub returns-clause-selected : goal.returns-clause-selected
returns-clause-selected c = choosing.chosen_as_selected Rfc9651

pub returns-clause-selected_in : goal.returns-clause-selected_in
returns-clause-selected_in c = choosing.chosen_as_selected

pub returns-clause-named : goal.returns-clause-named
returns-clause-named c = choosing.only_named_decide
