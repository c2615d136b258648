-- What is printed of the decisions of caches about the response of a head.
use Rattle.std.specs.Prelude.{◌≡◌, ℕ, ◌+◌, ◌^◌, ◌-◌, ◌⊎◌, Bool, true, false, ◌||◌}
use Rattle.std.specs.Prelude.{List, [], ◌∷◌, ◌++◌, get_or, codes, decimal, Option, Some, None}
use Rattle.std.specs.Str.{bytes_eq}
use Rattle.sf_value.specs.declared.dialect.Dialect.{Dialect}
use Rattle.sf_value.specs.declared.dialect.Dialect.TheVariants.{Rfc8941, Rfc9651}
use Rattle.sf_field.specs.Headers.{Headers, lines_under}
use Rattle.sf_use.specs.declared.caching.CacheKind.{CacheKind}
use Rattle.sf_use.specs.declared.caching.CacheKind.TheVariants as cache
use Rattle.sf_use.specs.declared.caching.CacheRules.{CacheRules}
use Rattle.sf_use.specs.declared.caching.Decision.{Decision}
use Rattle.sf_use.specs.declared.caching.Reuse.{Reuse}
use Rattle.sf_use.specs.declared.caching.Reuse.TheVariants as reuse
use Rattle.sf_use.specs.declared.targeted_rules.RulesChoice.{RulesChoice}
use Rattle.sf_use.specs.declared.targeted_rules.RulesChoice.TheVariants as choice
use Rattle.sf_use.specs.CacheControl.{IsFallback}
use Rattle.sf_use.specs.Caching.{decision}
use Rattle.sf_use.specs.Expires.{IsExpiresOf}
use Rattle.sf_use.specs.TargetedRules.{IsRulesChosenIn}
use Rattle.sf_tool.specs.Deciding.{cache_word, decision_line, different_text}
use Rattle.sf_tool.specs.Fields.{AreFieldsOf, IsFirstRefusedOf}
use Rattle.sf_lint.specs.declared.deciding.Response.{Response}
use Rattle.sf_lint.specs.declared.settings.CacheSettings.{CacheSettings}
use Rattle.sf_lint.specs.Ages.{age_of_lines}
use Rattle.sf_lint.specs.StatusCodes.{is_storable, rules_for}

-- the fields that are read: the targets, the fields that decide if none of them does, and those
-- that the lifetime of Expires and the age are computed from
abbrev pub field_names : List (List ℕ) → List (List ℕ)
field_names targets =
    targets ++ codes "cache-control" ∷ codes "expires" ∷ codes "date" ∷ codes "age" ∷ []

-- the age of a response: that of the settings, or else the one that its Age states
abbrev pub given_age : Option ℕ → ℕ → ℕ
given_age (Some seconds) stated = seconds
given_age None stated = stated

abbrev pub age_in : CacheSettings → Headers → ℕ
age_in caches headers = given_age caches.age (age_of_lines (lines_under headers (codes "age")))

-- the time of receipt is not known; without a Date no Expires is after this one
abbrev pub unknown_time : ℕ
unknown_time = 2 ^ 64 - 1

abbrev pub is_not_stored : Reuse → Bool
is_not_stored reuse.NotStored = true
is_not_stored (reuse.Fresh seconds) = false
is_not_stored reuse.Stale = false
is_not_stored reuse.MustRevalidate = false
is_not_stored reuse.Unspecified = false

-- the status code decides: nothing permits to store the response
abbrev pub by_status_text : CacheKind → List ℕ
by_status_text kind = cache_word kind ++ codes "not-stored status\n"

-- the rules decide, or the status code
abbrev pub outcome_text : CacheKind → Decision → Bool → List ℕ
outcome_text kind d true = decision_line kind d
outcome_text kind d false = by_status_text kind

-- the rules decide if they forbid to store the response, or if something permits it; otherwise it
-- is not stored because of its status code
abbrev pub outcome_of : CacheKind → Decision → Bool → List ℕ
outcome_of kind d is_storable = outcome_text kind d (is_not_stored d.reuse || is_storable)

-- the name of the field that is obeyed, and the decision
abbrev pub decided_by : CacheKind → List ℕ → CacheRules → Option ℕ → Response → List ℕ
decided_by kind name r expires p =
    codes "decision "
    ++ (name ++ (codes ": "
    ++ outcome_of kind (decision r kind expires p.age) (is_storable p.status r kind expires)))

abbrev pub decided_line : CacheKind → List ℕ → CacheRules → Option ℕ → Response → List ℕ
decided_line kind name r expires p = decided_by kind name (rules_for p.status r) expires p

-- the lines of a shared and of a private cache
abbrev pub decided_lines : List ℕ → CacheRules → Option ℕ → Response → List ℕ
decided_lines name r expires p =
    decided_line cache.Shared name r expires p ++ decided_line cache.Private name r expires p

-- the lines of a choice: a targeted field decides alone, and Expires is ignored (RFC 9213 section
-- 2.2); if none can be used, Cache-Control decides, and Expires if that has no max-age (for a
-- shared cache, no s-maxage either)
abbrev pub IsChoiceText : List (List ℕ) → Headers → Response → RulesChoice → List ℕ → Type 0
IsChoiceText targets headers p (choice.Field index r) text =
    text ≡ decided_lines (get_or targets index []) r None p
IsChoiceText targets headers p choice.Fallback text =
    (r : CacheRules) × (expires : Option ℕ)
    × IsFallback headers r
    × IsExpiresOf headers unknown_time expires
    × (text ≡ decided_lines (codes "cache-control") r expires p)

-- in the dialect: the lines of the field that is obeyed
abbrev pub IsDecisionTextIn : Dialect → List (List ℕ) → Headers → Response → List ℕ → Type 0
IsDecisionTextIn d targets headers p text =
    (c : RulesChoice) × IsRulesChosenIn d targets headers c × IsChoiceText targets headers p c text

-- the answer once if both dialects have the same, otherwise both answers
abbrev pub dialects_text : Bool → List ℕ → List ℕ → List ℕ
dialects_text true older newer = older
dialects_text false older newer = different_text older newer

abbrev pub IsDecisionText : List (List ℕ) → Headers → Response → List ℕ → Type 0
IsDecisionText targets headers p text =
    (older : List ℕ) × (newer : List ℕ)
    × IsDecisionTextIn Rfc8941 targets headers p older
    × IsDecisionTextIn Rfc9651 targets headers p newer
    × (text ≡ dialects_text (bytes_eq older newer) older newer)

-- nothing is decided by a head with a line that is no field line, of this number
abbrev pub unread_line : ℕ → List ℕ
unread_line number =
    codes "decision none: line " ++ (decimal number ++ codes " is no field line\n")

abbrev pub response_of : CacheSettings → Option ℕ → Headers → Response
response_of caches status headers = record { status = status; age = age_in caches headers }

-- what is printed for a head with this status code and these lines after its status line, of which
-- the first has this number: the decisions by their fields, or the first line that is none
abbrev pub IsHeadText : CacheSettings → Option ℕ → ℕ → List (List ℕ) → List ℕ → Type 0
IsHeadText caches status number lines text =
    ((headers : Headers) × AreFieldsOf (field_names caches.targets.items) lines headers
    × IsDecisionText caches.targets.items headers (response_of caches status headers) text)
    ⊎ ((n : ℕ) × IsFirstRefusedOf (field_names caches.targets.items) lines n
    × (text ≡ unread_line (number + n)))
