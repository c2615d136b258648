-- The choice among targets, with the rules of its field.
use Rattle.std.proofs.Common.{◌≡◌, ◌⊎◌, Bool, ℕ, ◌+◌, ◌<◌, ◌≤◌, List, [], ◌∷◌, length, take, get_or}
use Rattle.std.proofs.Common.{Option, Some, None, refl, sym, ap, ◌∙◌, subst}
use Rattle.std.specs.Prelude.{All, slice_get}
use Rattle.std.proofs.lemmas.List.{take_all}
use Rattle.std.proofs.lemmas.Option.{slice_get-get_or}
use Rattle.sf_value.specs.declared.dialect.Dialect.{Dialect}
use Rattle.sf_field.specs.Headers.{Headers}
use Rattle.sf_use.specs.declared.caching.CacheRules.{CacheRules}
use Rattle.sf_use.specs.declared.targeted_rules.RulesChoice.{RulesChoice}
use Rattle.sf_use.specs.declared.targeted_rules.RulesChoice.TheVariants as choice
use Rattle.sf_use.specs.TargetedChoice.{IsOfferIn}
use Rattle.sf_use.specs.TargetedLaws.{IsFirstIn}
use Rattle.sf_use.specs.TargetedRules.{IsRulesChosenIn, IsRulesOfferIn, policy_choice}
use Rattle.sf_use.specs.TargetedRules.{ChosenAsSelectedIn, OnlyNamedDecide}
use Rattle.sf_use.proofs.Firsts.{chosen_is_first}

module _ (dialect : Dialect) where
  -- the target with this index is the first
  pub is_first : (index : ℕ) (names : List (List ℕ)) (name : List ℕ) (h : Headers) (r : CacheRules)
      → index < length names → name ≡ get_or names index name
      → IsRulesOfferIn dialect h name (Some r)
      → All (λ n. IsOfferIn dialect h n None) (take index names)
      → IsRulesChosenIn dialect names h (choice.Field index r)
  is_first index names name h r lt here offer passed =
      (name, slice_get-get_or names index name lt ∙ ap Some (sym here), offer, passed)

  -- all targets were passed over
  pub is_fallback : (index : ℕ) (names : List (List ℕ)) (h : Headers) → length names ≤ index
      → All (λ n. IsOfferIn dialect h n None) (take index names)
      → IsRulesChosenIn dialect names h choice.Fallback
  is_fallback index names h le passed =
      subst (All (λ n. IsOfferIn dialect h n None)) (take_all index names le) passed

  pub chosen_as_selected : ChosenAsSelectedIn dialect
  chosen_as_selected targets headers c x =
      (chosen_is_first dialect targets headers (policy_choice c)).1 (by c x)
    where
      by : (c : RulesChoice) → IsRulesChosenIn dialect targets headers c
          → IsFirstIn dialect targets headers (policy_choice c)
      by (choice.Field index r) (name, at, (d, usable, is), passed) =
          (name, at, (d, usable, ap (λ r. r.policy) is), passed)
      by choice.Fallback passed = passed

pub only_named_decide : OnlyNamedDecide
only_named_decide d e s =
    rw (
      s.max_age,
      s.s_maxage,
      s.must_revalidate,
      s.no_store,
      s.no_cache,
      s.is_private,
      s.proxy_revalidate,
      s.must_understand,
      s.is_public,
    ) refl
