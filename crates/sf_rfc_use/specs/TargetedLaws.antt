-- What it means that targeted fields are chosen and read as RFC 9213 states.
use Rattle.std.specs.Prelude.{◌≡◌, ◌↔◌, ℕ, Bool, true, false, not, List as Seq, length, All}
use Rattle.std.specs.Prelude.{codes, Option, Some, if◌then◌else◌}
use Rattle.std.specs.Option.{option_or}
use Rattle.http_header.specs.HeaderMap.{ContainsKey}
use Rattle.sf_value.specs.declared.dialect.Dialect.{Dialect}
use Rattle.sf_value.specs.declared.value.Bare.{Bare}
use Rattle.sf_value.specs.declared.value.Bare.TheVariants.{Boolean}
use Rattle.sf_value.specs.declared.value.Dict.{Dict}
use Rattle.sf_value.specs.declared.value.Member.{Member}
use Rattle.sf_value.specs.declared.value.Member.TheVariants as member
use Rattle.sf_value.specs.Grammar.Valid.{ValidEntries}
use Rattle.sf_field.specs.Headers.{Headers, lines_under}
use Rattle.sf_use.specs.declared.targeted.Policy.{Policy}
use Rattle.sf_use.specs.declared.targeted.Choice.{Choice}
use Rattle.sf_use.specs.declared.targeted.Choice.TheVariants as choice
use Rattle.sf_use.specs.declared.targeted_rules.RulesChoice.{RulesChoice}
use Rattle.sf_use.specs.declared.targeted_rules.RulesChoice.TheVariants as rules_choice
use Rattle.sf_use.specs.declared.caching.CacheKind.{CacheKind}
use Rattle.sf_use.specs.declared.caching.CacheRules.{CacheRules}
use Rattle.sf_use.specs.CacheControl.{CacheDirective}
use Rattle.sf_use.specs.Caching.{decision, understood}
use Rattle.sf_use.specs.CachingLaws.{IsValidated, reuse_of}
use Rattle.sf_use.specs.Targeted.{policy, life}
use Rattle.sf_use.specs.TargetedChoice.{IsChosenIn}
use Rattle.sf_use.specs.TargetedRules.{IsRulesChosenIn, rules}
use Rattle.sf_rfc.specs.Rfc9651.Parsing.{Map}
use Rattle.sf_rfc_use.specs.OrderedMaps.{value_of}
use Rattle.sf_rfc_use.specs.Rfc9213.{Selects, FallsBack, Directive, NotThere, Has, Violates}
use Rattle.sf_rfc_use.specs.Rfc9213.{Directives, directives, consumed, in_effect, violates}
use Rattle.sf_rfc_use.specs.Rfc9213.{AreDirectives, makes_inoperative, operative_max_age}
use Rattle.sf_rfc_use.specs.Rfc9111.{Situation}
use Rattle.sf_rfc_use.specs.CachingLaws.{as_directives, kind_of, use_of}

-- whether a directive is the Item ?0
abbrev pub bare_is_false : Bare → Bool
bare_is_false (Boolean b) = not b
bare_is_false x = false

abbrev pub is_false : Option Member → Bool
is_false (Some (member.Item i)) = bare_is_false i.bare
is_false m = false

-- whether a directive counts as set. Ours: one with a value that violates its constraint counts
-- too, unless it is the Item ?0, while section 2.1 says that it SHOULD NOT be consumed
abbrev pub counts : {X : Type 0} → Directive X → Option Member → Bool
counts (Has x) m = true
counts NotThere m = false
counts Violates m = not (is_false m)

-- the policy of directives, for members with these
abbrev pub as_policy : Directives → Map Member → Policy
as_policy s members = record {
  max_age = consumed s.max_age;
  s_maxage = consumed s.s_maxage;
  must_revalidate = counts s.must_revalidate (value_of (codes "must-revalidate") members);
  no_store = counts s.no_store (value_of (codes "no-store") members);
  no_cache = counts s.no_cache (value_of (codes "no-cache") members);
  is_private = counts s.is_private (value_of (codes "private") members);
}

-- for every Dictionary: its policy is that of its directives
abbrev pub PolicyAgrees : Type 0
PolicyAgrees =
    (members : Map Member)
    → policy (record { members = members }) ≡ as_policy (directives members) members

-- the rules of directives, for members with these: a max-age or s-maxage that violates its
-- constraint is invalid freshness information (RFC 9111 section 4.2.1), and public and
-- must-understand, which permit something, are set exactly if they are in effect
abbrev pub as_rules : Directives → Map Member → CacheRules
as_rules s members = record {
  policy = as_policy s members;
  invalid_max_age = violates s.max_age;
  invalid_s_maxage = violates s.s_maxage;
  proxy_revalidate = counts s.proxy_revalidate (value_of (codes "proxy-revalidate") members);
  must_understand = in_effect s.must_understand;
  is_public = in_effect s.is_public;
}

-- for every Dictionary: its rules are those of its directives
abbrev pub RulesAgree : Type 0
RulesAgree =
    (members : Map Member)
    → rules (record { members = members }) ≡ as_rules (directives members) members

-- what section 2.1 says of a value, and what is done: no difference if it keeps to its constraint;
-- otherwise only a set directive that SHOULD NOT be consumed
abbrev pub CountsAsInEffect : Type 0
CountsAsInEffect =
    (s : Directive (Option (Seq ℕ))) (m : Option Member)
    → ((s ≡ Violates → ⊥) → counts s m ≡ in_effect s)
    × (s ≡ Violates → in_effect s ≡ false)

-- the result of a choice, as the RFC's. It cites RFC 8941, which is one of the dialects
abbrev pub IsChoice : Dialect → Seq (Seq ℕ) → Headers → Choice → Type 0
IsChoice d targets response (choice.Field index p) =
    (name : Seq ℕ) × (members : Map Member)
    × (s : Selects d targets response name members)
    × (index ≡ length s.before)
    × (p ≡ as_policy (directives members) members)
IsChoice d targets response choice.Fallback = FallsBack d targets response

-- for each dialect, target list and response: the field that is chosen is the one that the cache
-- MUST select
abbrev pub ChoiceAgrees : Type 0
ChoiceAgrees =
    (d : Dialect) (targets : Seq (Seq ℕ)) (response : Headers) (c : Choice)
    → IsChosenIn d targets response c ↔ IsChoice d targets response c

-- the same of a choice with all rules
abbrev pub IsRulesChoice : Dialect → Seq (Seq ℕ) → Headers → RulesChoice → Type 0
IsRulesChoice d targets response (rules_choice.Field index r) =
    (name : Seq ℕ) × (members : Map Member)
    × (s : Selects d targets response name members)
    × (index ≡ length s.before)
    × (r ≡ as_rules (directives members) members)
IsRulesChoice d targets response rules_choice.Fallback = FallsBack d targets response

abbrev pub RulesChoiceAgrees : Type 0
RulesChoiceAgrees =
    (d : Dialect) (targets : Seq (Seq ℕ)) (response : Headers) (c : RulesChoice)
    → IsRulesChosenIn d targets response c ↔ IsRulesChoice d targets response c

-- 2.2: "Targeted fields that are not on a cache's target list MUST NOT change that cache's
-- behavior": responses with the same fields of the target list have the same choice
abbrev pub OthersDoNotMatter : Type 0
OthersDoNotMatter =
    (d : Dialect) (targets : Seq (Seq ℕ)) (these those : Headers)
    → All (λ name. (ContainsKey these name ↔ ContainsKey those name)
    × (lines_under these name ≡ lines_under those name)) targets
    → (c : Choice) → IsChosenIn d targets these c ↔ IsChosenIn d targets those c

-- 2.2: without no-store and no-cache, the lifetime in a private cache is the operative max-age.
-- With them max-age is inoperative. Ours: the lifetime is what max-age and s-maxage say, and the
-- flags are reported beside it
abbrev pub LifetimeAgrees : Type 0
LifetimeAgrees =
    (members : Map Member)
    → let s : Directives = directives members in
    let p : Policy = policy (record { members = members }) in
    (p.no_store ≡ false → p.no_cache ≡ false → life p false ≡ operative_max_age s)
    × (life p false ≡ consumed s.max_age)
    × (life p true ≡ option_or (consumed s.s_maxage) (consumed s.max_age))

-- 2.2: "no-store and no-cache make max-age inoperative": with one of them no max-age changes what a
-- cache decides, and the response is never used without validation
abbrev pub InoperativeAgrees : Type 0
InoperativeAgrees =
    (members : Map Member) → makes_inoperative (directives members) ≡ true
    → (c : CacheKind) (other : Option ℕ) (age : ℕ) (max_age : Option ℕ) (invalid : Bool)
    → let r : CacheRules = rules (record { members = members }) in
    (decision
    (record r { policy = record r.policy { max_age = max_age }; invalid_max_age = invalid })
    c other age
    ≡ decision r c other age)
    × IsValidated (reuse_of r c other age)

-- the rules for a cache that understands the status code, or does not
abbrev pub rules_for : Situation → Dict → CacheRules
rules_for s d = if s.understands then understood (rules d) else rules d

-- 2.2: "The semantics and precedence of cache directives in a targeted field are the same as those
-- in Cache-Control.": a response with a Dictionary is used as one whose Cache-Control has the
-- directives that map to its members, if those that set a lifetime or permit something keep to
-- their constraint
abbrev pub SemanticsAgree : Type 0
SemanticsAgree =
    (d : Dialect) (members : Map Member) (ds : Seq CacheDirective) (s : Situation)
    → ValidEntries d members
    → AreDirectives members (as_directives ds)
    → violates (directives members).max_age ≡ false
    → violates (directives members).s_maxage ≡ false
    → violates (directives members).must_understand ≡ false
    → violates (directives members).is_public ≡ false
    → reuse_of (rules_for s (record { members = members })) (kind_of s.shared) s.expires s.age
    ≡ use_of s ds
