-- The directives of a targeted field for the decision of a cache (RFC 9213 section 2.1), and of the
-- field of a target list that it obeys (section 2.2).
use Rattle.std.specs.Prelude.{◌≡◌, ◌≢◌, ℕ, Bool, false, ◌&&◌, List as Seq, [], All, take, slice_get, codes}
use Rattle.std.specs.Prelude.{Option, Some, None, is_some, is_none, if◌then◌else◌, unwrap_or}
use Rattle.std.specs.Str.{bytes_eq}
use Rattle.sf_value.specs.declared.dialect.Dialect.{Dialect}
use Rattle.sf_value.specs.declared.dialect.Dialect.TheVariants.{Rfc9651}
use Rattle.sf_value.specs.declared.value.Bare.{Bare}
use Rattle.sf_value.specs.declared.value.Bare.TheVariants.{Boolean}
use Rattle.sf_value.specs.declared.value.Dict.{Dict}
use Rattle.sf_value.specs.declared.value.Field.{Field}
use Rattle.sf_value.specs.declared.value.Field.TheVariants as field
use Rattle.sf_value.specs.declared.value.Member.{Member}
use Rattle.sf_value.specs.declared.value.Member.TheVariants as member
use Rattle.sf_value.specs.Grammar.Pairs.{value_at}
use Rattle.sf_field.specs.Headers.{Headers}
use Rattle.sf_view.specs.Overwriting.{overwritten}
use Rattle.sf_use.specs.declared.caching.CacheRules.{CacheRules}
use Rattle.sf_use.specs.declared.targeted.Choice.{Choice}
use Rattle.sf_use.specs.declared.targeted.Choice.TheVariants as plain
use Rattle.sf_use.specs.declared.targeted_rules.RulesChoice.{RulesChoice}
use Rattle.sf_use.specs.declared.targeted_rules.RulesChoice.TheVariants as choice
use Rattle.sf_use.specs.Scanning.{with_directive}
use Rattle.sf_use.specs.Targeted.{delta_seconds, is_set, nothing, policy}
use Rattle.sf_use.specs.TargetedChoice.{IsChosenIn, IsOfferIn, UsableIn}

-- the directive is present, but "a consuming implementation" must not coerce its value (RFC 9213
-- section 2.1): it is no number of seconds, so the freshness information is invalid (RFC 9111
-- section 4.2.1)
abbrev pub is_invalid : Option Member → Bool
is_invalid m = is_some m && is_none (delta_seconds m)

-- a directive that permits something is set only by Boolean true: a value of another type is not
-- consumed (RFC 9213 section 2.1)
abbrev pub is_true : Bare → Bool
is_true (Boolean b) = b
is_true x = false

abbrev pub permits : Option Member → Bool
permits (Some (member.Item i)) = is_true i.bare
permits m = false

-- the rules of a Dictionary: its policy, and what that leaves out
abbrev pub rules : Dict → CacheRules
rules d = record {
  policy = policy d;
  invalid_max_age = is_invalid (value_at (codes "max-age") d.members);
  invalid_s_maxage = is_invalid (value_at (codes "s-maxage") d.members);
  proxy_revalidate = is_set (value_at (codes "proxy-revalidate") d.members);
  must_understand = permits (value_at (codes "must-understand") d.members);
  is_public = permits (value_at (codes "public") d.members);
}

-- the rules of a field; a field that is no Dictionary is never passed, and would have none
abbrev pub field_rules : Field → CacheRules
field_rules (field.Dict d) = rules d
field_rules f = rules nothing

-- the rules of a field that was read, if it is a Dictionary with a member, otherwise none
abbrev pub MayOfferRules : Field → Option CacheRules → Type 0
MayOfferRules f (Some r) =
    (d : Dict) × (f ≡ field.Dict d) × (d.members ≢ []) × (r ≡ rules d)
MayOfferRules f None = (d : Dict) → f ≡ field.Dict d → d.members ≡ []

-- in the dialect: the rules of the field of this name, if its Dictionary can be used, otherwise
-- none
abbrev pub IsRulesOfferIn : Dialect → Headers → Seq ℕ → Option CacheRules → Type 0
IsRulesOfferIn dialect headers name (Some r) =
    (d : Dict) × UsableIn dialect headers name d × (r ≡ rules d)
IsRulesOfferIn dialect headers name None = IsOfferIn dialect headers name None

-- the choice among the targets: the first, in the order of the list, with a field that can be used
-- (RFC 9213 section 2.2); Fallback if there is none
abbrev pub IsRulesChosenIn : Dialect → Seq (Seq ℕ) → Headers → RulesChoice → Type 0
IsRulesChosenIn dialect targets headers (choice.Field index r) =
    (name : Seq ℕ)
    × (slice_get targets index ≡ Some name)
    × IsRulesOfferIn dialect headers name (Some r)
    × All (λ n. IsOfferIn dialect headers n None) (take index targets)
IsRulesChosenIn dialect targets headers choice.Fallback =
    All (λ n. IsOfferIn dialect headers n None) targets

-- the same by RFC 9651
abbrev pub IsRulesChosen : Seq (Seq ℕ) → Headers → RulesChoice → Type 0
IsRulesChosen targets headers c = IsRulesChosenIn Rfc9651 targets headers c

-- the rules after one more member, which overwrites what an earlier one with its key said
abbrev pub with_rule : CacheRules → Seq ℕ × Member → CacheRules
with_rule r p = record {
  policy = with_directive r.policy p;
  invalid_max_age = overwritten is_invalid (codes "max-age") r.invalid_max_age p;
  invalid_s_maxage = overwritten is_invalid (codes "s-maxage") r.invalid_s_maxage p;
  proxy_revalidate = overwritten is_set (codes "proxy-revalidate") r.proxy_revalidate p;
  must_understand = overwritten permits (codes "must-understand") r.must_understand p;
  is_public = overwritten permits (codes "public") r.is_public p;
}

-- the choice with the policy alone
abbrev pub policy_choice : RulesChoice → Choice
policy_choice (choice.Field index r) = plain.Field index r.policy
policy_choice choice.Fallback = plain.Fallback

-- the same field is chosen for its policy alone
abbrev pub ChosenAsSelectedIn : Dialect → Type 0
ChosenAsSelectedIn dialect =
    (targets : Seq (Seq ℕ)) (headers : Headers) (c : RulesChoice)
    → IsRulesChosenIn dialect targets headers c
    → IsChosenIn dialect targets headers (policy_choice c)

-- the same by RFC 9651
abbrev pub ChosenAsSelected : Type 0
ChosenAsSelected = ChosenAsSelectedIn Rfc9651

-- two Dictionaries have the same value, or none, for these directives
pub record SameDirectives (d e : Dict) : Type 0 where
  pub max_age : value_at (codes "max-age") d.members ≡ value_at (codes "max-age") e.members
  pub s_maxage : value_at (codes "s-maxage") d.members ≡ value_at (codes "s-maxage") e.members
  pub must_revalidate :
      value_at (codes "must-revalidate") d.members ≡ value_at (codes "must-revalidate") e.members
  pub no_store : value_at (codes "no-store") d.members ≡ value_at (codes "no-store") e.members
  pub no_cache : value_at (codes "no-cache") d.members ≡ value_at (codes "no-cache") e.members
  pub is_private : value_at (codes "private") d.members ≡ value_at (codes "private") e.members
  pub proxy_revalidate :
      value_at (codes "proxy-revalidate") d.members ≡ value_at (codes "proxy-revalidate") e.members
  pub must_understand :
      value_at (codes "must-understand") d.members ≡ value_at (codes "must-understand") e.members
  pub is_public : value_at (codes "public") d.members ≡ value_at (codes "public") e.members

-- "unrecognized extension directives are ignored" (RFC 9213 section 2.2)
abbrev pub OnlyNamedDecide : Type 0
OnlyNamedDecide = (d e : Dict) → SameDirectives d e → rules d ≡ rules e
