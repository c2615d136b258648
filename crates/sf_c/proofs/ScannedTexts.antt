-- What a Dictionary that was read in one pass says.
use Rattle.std.proofs.Common.{◌≡◌, ◌≢◌, ℕ, List as Seq, [], Option, Some, sym, ap, ◌∙◌, subst}
use Rattle.sf_value.specs.declared.dialect.Dialect.{Dialect}
use Rattle.sf_value.specs.declared.dialect.Dialect.TheVariants.{Rfc9651}
use Rattle.sf_value.specs.declared.value.Dict.{Dict}
use Rattle.sf_value.specs.declared.value.Field.{Field}
use Rattle.sf_value.specs.declared.value.Field.TheVariants as field
use Rattle.sf_value.specs.declared.value.Kind.TheVariants as kind
use Rattle.sf_parse.specs.Parsers.{IsOnly}
use Rattle.sf_use.specs.declared.priority.Asked.{Asked}
use Rattle.sf_use.specs.declared.caching.CacheRules.{CacheRules}
use Rattle.sf_use.specs.declared.response_priority.ResponsePriority.{ResponsePriority}
use Rattle.sf_use.specs.declared.targeted.Policy.{Policy}
use Rattle.sf_use.specs.Priority.{params_of_field}
use Rattle.sf_use.specs.ResponsePriority.{response_of_field}
use Rattle.sf_use.specs.Scanning.{IsScanned, IsScannedIn}
use Rattle.sf_use.specs.Targeted.{policy}
use Rattle.sf_use.specs.TargetedChoice.{MayOffer}
use Rattle.sf_use.specs.TargetedRules.{MayOfferRules, rules}
use Rattle.sf_c.specs.declared.cache_rules.RulesFlags.{RulesFlags}
use Rattle.sf_c.specs.declared.status.Status.{Status}
use Rattle.sf_c.specs.declared.status.Status.TheVariants as status
use Rattle.sf_c.specs.declared.cache_control.PolicyFlags.{PolicyFlags}
use Rattle.sf_c.specs.Policies.{Directs, PolicyOutput, SaysPolicy, SaysToCache}
use Rattle.sf_c.specs.Priorities.{AsksFor, PriorityOutput, SaysAsked}
use Rattle.sf_c.specs.ResponsePriorities.{AnswersPriority, ResponseOutput, SaysResponse}
use Rattle.sf_c.specs.Rules.{Rules, RulesCache, RulesOutput, SaysRules}

-- a priority
pub asks_for : (old new : PriorityOutput) (t : Seq ℕ) (k : Dialect) (a : Asked)
    → IsScannedIn k (λ v a. a ≡ params_of_field v) t a → SaysAsked new.priority a
    → new.refusal ≡ old.refusal → AsksFor old new t k status.Answered
asks_for old new t k a (v, only, e) says same =
    (v, only, subst (SaysAsked new.priority) e says, same)

-- the priority of a response
pub answers_priority : (old new : ResponseOutput) (t : Seq ℕ) (k : Dialect) (r : ResponsePriority)
    → IsScannedIn k (λ v r. r ≡ response_of_field v) t r → SaysResponse new.priority r
    → new.refusal ≡ old.refusal → AnswersPriority old new t k status.Answered
answers_priority old new t k r (v, only, e) says same =
    (v, only, subst (SaysResponse new.priority) e says, same)

-- the policy that a Dictionary offers
the_dict : (d e : Dict) → field.Dict d ≡ field.Dict e → d ≡ e
the_dict d e h = cc

pub directs : (old new : PolicyFlags) (d : Dict) (p : Policy) → MayOffer (field.Dict d) (Some p)
    → SaysPolicy new p → Directs old new d status.Answered
directs old new d p (e, same, some, is) says =
    let there = the_dict d e same in (
      subst (λ y. y.members ≢ []) (sym there) some,
      subst (SaysPolicy new) (is ∙ ap policy (sym there)) says,
    )

pub says_to_cache : (old new : PolicyOutput) (t : Seq ℕ) (o : Option Policy) (s : Status)
    → IsScanned MayOffer t o
    → ((d : Dict) → MayOffer (field.Dict d) o → Directs old.policy new.policy d s)
    → new.refusal ≡ old.refusal → SaysToCache old new t (Some s)
says_to_cache old new t o s (v, only, may) h same = by v only may
  where
    by_status : (s : Status) (d : Dict) → IsOnly Rfc9651 kind.Dict t (field.Dict d)
        → Directs old.policy new.policy d s → SaysToCache old new t (Some s)
    by_status status.Answered d only x = (d, only, x, same)
    by_status status.Empty d only x = (d, only, x, same)
    by_status s d only x = absurd x

    by : (v : Field) → IsOnly Rfc9651 kind.Dict t v → MayOffer v o
        → SaysToCache old new t (Some s)
    by (field.Item i) only may = absurd only.spelled
    by (field.List l) only may = absurd only.spelled
    by (field.Dict d) only may = by_status s d only (h d may)

-- the directives that a Dictionary offers
pub gives_rules : (old new : RulesFlags) (d : Dict) (r : CacheRules)
    → MayOfferRules (field.Dict d) (Some r) → SaysRules new r → Rules old new d status.Answered
gives_rules old new d r (e, same, some, is) says =
    let there = the_dict d e same in (
      subst (λ y. y.members ≢ []) (sym there) some,
      subst (SaysRules new) (is ∙ ap rules (sym there)) says,
    )

pub rules_cache : (old new : RulesOutput) (t : Seq ℕ) (k : Dialect) (o : Option CacheRules)
    (s : Status) → IsScannedIn k MayOfferRules t o
    → ((d : Dict) → MayOfferRules (field.Dict d) o → Rules old.rules new.rules d s)
    → new.refusal ≡ old.refusal → RulesCache old new t k s
rules_cache old new t k o s (v, only, may) h same = by v only may
  where
    by_status : (s : Status) (d : Dict) → IsOnly k kind.Dict t (field.Dict d)
        → Rules old.rules new.rules d s → RulesCache old new t k s
    by_status status.Answered d only x = (d, only, x, same)
    by_status status.Empty d only x = (d, only, x, same)
    by_status s d only x = absurd x

    by : (v : Field) → IsOnly k kind.Dict t v → MayOfferRules v o → RulesCache old new t k s
    by (field.Item i) only may = absurd only.spelled
    by (field.List l) only may = absurd only.spelled
    by (field.Dict d) only may = by_status s d only (h d may)
