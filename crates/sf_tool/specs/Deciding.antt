-- What is printed of the decisions of a cache, by the field that it obeys or by Cache-Control.
use Rattle.std.specs.Prelude.{◌≡◌, ℕ, ◌<◌, Bool, true, false, List, [], ◌∷◌, ◌++◌, get_or, length}
use Rattle.std.specs.Prelude.{codes, decimal, None, ⊤}
use Rattle.std.specs.Str.{bytes_eq}
use Rattle.sf_value.specs.declared.dialect.Dialect.{Dialect}
use Rattle.sf_value.specs.declared.dialect.Dialect.TheVariants.{Rfc8941, Rfc9651}
use Rattle.sf_field.specs.Headers.{Headers}
use Rattle.sf_use.specs.declared.caching.CacheKind.{CacheKind}
use Rattle.sf_use.specs.declared.caching.CacheKind.TheVariants as cache
use Rattle.sf_use.specs.declared.caching.CacheRules.{CacheRules}
use Rattle.sf_use.specs.declared.caching.Cause.{Cause}
use Rattle.sf_use.specs.declared.caching.Cause.TheVariants as cause
use Rattle.sf_use.specs.declared.caching.Decision.{Decision}
use Rattle.sf_use.specs.declared.caching.Reuse.{Reuse}
use Rattle.sf_use.specs.declared.caching.Reuse.TheVariants as reuse
use Rattle.sf_use.specs.declared.targeted_rules.RulesChoice.{RulesChoice}
use Rattle.sf_use.specs.declared.targeted_rules.RulesChoice.TheVariants as choice
use Rattle.sf_use.specs.CacheControl.{IsFallback}
use Rattle.sf_use.specs.Caching.{decision}
use Rattle.sf_use.specs.TargetedRules.{IsRulesChosenIn}
use Rattle.sf_tool.specs.ChoiceLines.{policy_lines}

-- the fields that are read: the targets, and the field that decides if none of them does
abbrev pub with_cache_control : List (List ℕ) → List (List ℕ)
with_cache_control names = names ++ codes "cache-control" ∷ []

-- how a response may be used, with the seconds for which it stays fresh
abbrev pub reuse_text : Reuse → List ℕ
reuse_text reuse.NotStored = codes "not-stored"
reuse_text (reuse.Fresh seconds) = codes "fresh " ++ decimal seconds
reuse_text reuse.Stale = codes "stale"
reuse_text reuse.MustRevalidate = codes "revalidate"
reuse_text reuse.Unspecified = codes "unspecified"

-- the directive that decided
abbrev pub cause_text : Cause → List ℕ
cause_text cause.Nothing = codes "nothing"
cause_text cause.NoStore = codes "no-store"
cause_text cause.Private = codes "private"
cause_text cause.MustUnderstand = codes "must-understand"
cause_text cause.NoCache = codes "no-cache"
cause_text cause.MaxAge = codes "max-age"
cause_text cause.SMaxage = codes "s-maxage"
cause_text cause.InvalidMaxAge = codes "invalid-max-age"
cause_text cause.InvalidSMaxage = codes "invalid-s-maxage"
cause_text cause.Expires = codes "expires"
cause_text cause.MustRevalidate = codes "must-revalidate"
cause_text cause.ProxyRevalidate = codes "proxy-revalidate"

abbrev pub cache_word : CacheKind → List ℕ
cache_word cache.Shared = codes "shared "
cache_word cache.Private = codes "private "

-- the line of what a cache of this kind decides
abbrev pub decision_line : CacheKind → Decision → List ℕ
decision_line kind d =
    cache_word kind ++ (reuse_text d.reuse ++ (codes " " ++ (cause_text d.by ++ codes "\n")))

-- the lines of rules, and of what is decided by them about a response of this age: Expires is not
-- read
abbrev pub rules_lines : ℕ → CacheRules → List ℕ
rules_lines age r =
    policy_lines r.policy
    ++ (decision_line cache.Shared (decision r cache.Shared None age)
    ++ decision_line cache.Private (decision r cache.Private None age))

-- the index of the field that is obeyed, its name, and its rules
abbrev pub obeyed_lines : ℕ → List ℕ → ℕ → CacheRules → List ℕ
obeyed_lines index name age r =
    codes "field "
    ++ (decimal index ++ (codes " " ++ (name ++ (codes "\n" ++ rules_lines age r))))

-- the rules of Cache-Control
abbrev pub fallback_lines : ℕ → CacheRules → List ℕ
fallback_lines age r = codes "fallback cache-control\n" ++ rules_lines age r

-- the index of a chosen field is that of one of the names
abbrev pub IsRulesPlaceOf : List (List ℕ) → RulesChoice → Type 0
IsRulesPlaceOf names (choice.Field index r) = index < length names
IsRulesPlaceOf names choice.Fallback = ⊤

-- the lines of a choice; if no field of a name can be used, those of Cache-Control
abbrev pub IsChoiceText : List (List ℕ) → ℕ → Headers → RulesChoice → List ℕ → Type 0
IsChoiceText names age headers (choice.Field index r) text =
    text ≡ obeyed_lines index (get_or names index []) age r
IsChoiceText names age headers choice.Fallback text =
    (r : CacheRules) × IsFallback headers r × (text ≡ fallback_lines age r)

-- in the dialect: the lines of the field that is obeyed, or of Cache-Control
abbrev pub IsDecisionTextIn : Dialect → List (List ℕ) → ℕ → Headers → List ℕ → Type 0
IsDecisionTextIn d names age headers text =
    (c : RulesChoice) × IsRulesChosenIn d names headers c × IsChoiceText names age headers c text

-- which dialects answer so
abbrev pub same_text : List ℕ → List ℕ
same_text text = codes "by RFC 8941 and RFC 9651:\n" ++ text

abbrev pub different_text : List ℕ → List ℕ → List ℕ
different_text older newer =
    codes "by RFC 8941:\n" ++ (older ++ (codes "by RFC 9651:\n" ++ newer))

-- the answer by both dialects if they have the same, otherwise both answers
abbrev pub dialects_text : Bool → List ℕ → List ℕ → List ℕ
dialects_text true older newer = same_text older
dialects_text false older newer = different_text older newer

-- RFC 9213 cites RFC 8941, and other caches read by RFC 9651
abbrev pub IsDecisionText : List (List ℕ) → ℕ → Headers → List ℕ → Type 0
IsDecisionText names age headers text =
    (older : List ℕ) × (newer : List ℕ)
    × IsDecisionTextIn Rfc8941 names age headers older
    × IsDecisionTextIn Rfc9651 names age headers newer
    × (text ≡ dialects_text (bytes_eq older newer) older newer)
