-- The field that is chosen is one of the names.
use Rattle.std.proofs.Common.{◌≡◌, ℕ, List, [], ◌∷◌, ◌+◌, ◌<◌, ◌∙◌, length, refl, sym, arith}
use Rattle.std.proofs.Common.{inl, inr}
use Rattle.std.proofs.lemmas.Option.{slice_get_within}
use Rattle.sf_value.specs.declared.dialect.Dialect.{Dialect}
use Rattle.sf_field.specs.Headers.{Headers}
use Rattle.sf_use.specs.declared.targeted.Choice.{Choice}
use Rattle.sf_use.specs.declared.targeted.Choice.TheVariants as choice_is
use Rattle.sf_use.specs.declared.targeted.Policy.{Policy}
use Rattle.sf_use.specs.TargetedChoice.{IsChosen, IsChosenFrom}
use Rattle.sf_use.specs.declared.targeted_rules.RulesChoice.{RulesChoice}
use Rattle.sf_use.specs.declared.targeted_rules.RulesChoice.TheVariants as rules_choice_is
use Rattle.sf_use.specs.TargetedRules.{IsRulesChosenIn}
use Rattle.sf_tool.specs.ChoiceLines.{IsPlaceOf}
use Rattle.sf_tool.specs.Deciding.{IsRulesPlaceOf}

-- a chosen field is one of the names
pub chosen_is_place : (index : ℕ) (names : List (List ℕ)) (headers : Headers) (choice : Choice)
    → IsChosenFrom index names headers choice
    → (k : ℕ) (p : Policy) → choice ≡ choice_is.Field k p → k < index + length names
chosen_is_place index [] headers choice h k p e =
    let never : choice_is.Field k p ≡ choice_is.Fallback = sym e ∙ h in absurd cc
chosen_is_place index (name ∷ names) headers choice h k p e =
    elim h [
      | inl here ↦
          let same : choice_is.Field k p ≡ choice_is.Field index here.0 = sym e ∙ here.2 in
          let at : k ≡ index = cc in
          omega (arith, at)
      | inr later ↦
          omega (arith, chosen_is_place (index + 1) names headers choice later.1 k p e)
    ]

pub is_place : (names : List (List ℕ)) (headers : Headers) (choice : Choice)
    → IsChosen names headers choice → IsPlaceOf names choice
is_place names headers (choice_is.Field k p) h =
    omega (arith, chosen_is_place 0 names headers (choice_is.Field k p) h k p refl)
is_place names headers choice_is.Fallback h = tt

-- the same of a choice with its rules
pub is_rules_place : (d : Dialect) (names : List (List ℕ)) (headers : Headers)
    (choice : RulesChoice) → IsRulesChosenIn d names headers choice → IsRulesPlaceOf names choice
is_rules_place d names headers (rules_choice_is.Field index r) h =
    slice_get_within names index h.0 h.1
is_rules_place d names headers rules_choice_is.Fallback h = tt
