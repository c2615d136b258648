-- The directives of a targeted field, for the decision of a cache, as a struct.
use Rattle.std.specs.Prelude.{◌≡◌, ◌≢◌, ℕ, ◌==◌, not, List as Seq, []}
use Rattle.sf_value.specs.declared.dialect.Dialect.{Dialect}
use Rattle.sf_value.specs.declared.value.Dict.{Dict}
use Rattle.sf_value.specs.declared.value.Field.TheVariants as field
use Rattle.sf_value.specs.declared.value.Kind.TheVariants as kind
use Rattle.sf_parse.specs.Parsers.{IsOnly}
use Rattle.sf_use.specs.declared.caching.CacheRules.{CacheRules}
use Rattle.sf_use.specs.TargetedRules.{rules}
use Rattle.sf_c.specs.declared.cache_rules.RulesFlags.{RulesFlags}
use Rattle.sf_c.specs.declared.refusal.SyntaxRefusal.{SyntaxRefusal}
use Rattle.sf_c.specs.declared.status.Status.{Status}
use Rattle.sf_c.specs.declared.status.Status.TheVariants.{Answered, Refused, Empty, OutOfMemory}
use Rattle.sf_c.specs.Policies.{SaysPolicy, policy_by}
use Rattle.sf_c.specs.Refusals.{SaysRefusal, flag_number}

-- the struct has the directives
abbrev pub SaysRules : RulesFlags → CacheRules → Type 0
SaysRules n r =
    SaysPolicy n.policy r.policy
    × (n.invalid_max_age ≡ flag_number r.invalid_max_age)
    × (n.invalid_s_maxage ≡ flag_number r.invalid_s_maxage)
    × (n.proxy_revalidate ≡ flag_number r.proxy_revalidate)
    × (n.must_understand ≡ flag_number r.must_understand)
    × (n.is_public ≡ flag_number r.is_public)

-- the directives of a struct; any number but 0 sets a flag
abbrev pub rules_by : RulesFlags → CacheRules
rules_by n = record {
  policy = policy_by n.policy;
  invalid_max_age = not (n.invalid_max_age == 0);
  invalid_s_maxage = not (n.invalid_s_maxage == 0);
  proxy_revalidate = not (n.proxy_revalidate == 0);
  must_understand = not (n.must_understand == 0);
  is_public = not (n.is_public == 0);
}

-- a Dictionary without members is Empty; of another one the struct has the directives
abbrev pub Rules : RulesFlags → RulesFlags → Dict → Status → Type 0
Rules old new d Answered = (d.members ≢ []) × SaysRules new (rules d)
Rules old new d Empty = (d.members ≡ []) × (new ≡ old)
Rules old new d status = ⊥

-- what reading the directives may write to
pub record RulesOutput : Type 0 where
  pub rules : RulesFlags
  pub refusal : SyntaxRefusal

-- in the dialect d the text spells a Dictionary with a member, and the struct has its directives;
-- or it is Empty; or the other struct has the refusal. Everything else is unchanged
abbrev pub RulesCache : RulesOutput → RulesOutput → Seq ℕ → Dialect → Status → Type 0
RulesCache old new t d Answered =
    (dict : Dict)
    × IsOnly d kind.Dict t (field.Dict dict)
    × Rules old.rules new.rules dict Answered
    × (new.refusal ≡ old.refusal)
RulesCache old new t d Empty =
    (dict : Dict)
    × IsOnly d kind.Dict t (field.Dict dict)
    × Rules old.rules new.rules dict Empty
    × (new.refusal ≡ old.refusal)
RulesCache old new t d Refused =
    SaysRefusal d kind.Dict t new.refusal × (new.rules ≡ old.rules)
RulesCache old new t d OutOfMemory = new ≡ old
RulesCache old new t d status = ⊥
