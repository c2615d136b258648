-- A cache decides as RFC 9111 states.
use Rattle.std.proofs.Common.{◌≡◌, ◌≢◌, ◌⊎◌, inl, inr, ⊎_elim, ℕ, ◌+◌, ◌-◌, ◌<◌, Bool, true, false}
use Rattle.std.proofs.Common.{List, Option, Some, None, refl, sym, ap, subst, ◌∙◌, arith, codes}
use Rattle.std.specs.Prelude.{◌&&◌, ◌||◌, ◌↔◌, not, if◌then◌else◌, is_some, nat_lt}
use Rattle.std.proofs.lemmas.Bool.{lt-ltb}
use Rattle.sf_use.specs.declared.caching.CacheKind.{CacheKind}
use Rattle.sf_use.specs.declared.caching.CacheKind.TheVariants as kind
use Rattle.sf_use.specs.declared.caching.CacheRules.{CacheRules}
use Rattle.sf_use.specs.declared.caching.Cause.{Cause}
use Rattle.sf_use.specs.declared.caching.Cause.TheVariants as cause
use Rattle.sf_use.specs.declared.caching.Decision.{Decision}
use Rattle.sf_use.specs.declared.caching.Lifetime.{Lifetime}
use Rattle.sf_use.specs.declared.caching.Lifetime.TheVariants as life
use Rattle.sf_use.specs.declared.caching.Reuse.{Reuse}
use Rattle.sf_use.specs.declared.caching.Reuse.TheVariants as reuse
use Rattle.sf_use.specs.CacheControl.{CacheDirective, agreed, cache_rules, disagree, is_present}
use Rattle.sf_use.specs.CacheControl.{values}
use Rattle.sf_use.specs.Caching.{aged, by_lifetime, decided, first_match, has_s_maxage, is_shared}
use Rattle.sf_use.specs.Caching.{lifetime, other_lifetime, permits_storing, private_lifetime}
use Rattle.sf_use.specs.Caching.{saturated, stale, stored, understood, unless_refused}
use Rattle.sf_use.proofs.Decisions as decisions
use Rattle.sf_rfc_use.specs.CachingLaws.{FreshAsCalculated, FreshIsUsed, StaleAsPermitted}
use Rattle.sf_rfc_use.specs.CachingLaws.{StoredAsAllowed, StoringAsAllowed, ValidatedAsRequired}
use Rattle.sf_rfc_use.specs.CachingLaws.{as_directives, kind_of, rules_of, use_of}
use Rattle.sf_rfc_use.specs.Rfc9111.{AllowsStoring, HasValue, IsForShared, IsLifetime, IsPresent}
use Rattle.sf_rfc_use.specs.Rfc9111.{MayStore, ProhibitsStale}
use Rattle.sf_rfc_use.specs.Rfc9111.{Situation}
use Rattle.sf_rfc_use.proofs.DirectivesAgree.{has_it, has_value, no_value, present_by, present_is}
use Rattle.sf_rfc_use.proofs.DirectivesAgree.{qualified_or_not, unqualified_present, value_has}

-- the rules of a cache that understands the status code, or does not
abbrev rules_when : Bool → CacheRules → CacheRules
rules_when u r = if u then understood r else r

abbrev pub effective : Bool → CacheRules → CacheRules
effective u r = record r {
  policy = record r.policy { no_store = r.policy.no_store && not (u && r.must_understand) };
  must_understand = r.must_understand && not u;
}

and_true : (x : Bool) → (x && true) ≡ x
and_true true = refl
and_true false = refl

and_false : (x : Bool) → (x && false) ≡ false
and_false true = refl
and_false false = refl

abbrev with_flags : CacheRules → Bool → Bool → CacheRules
with_flags r n m = record r {
  policy = record r.policy { no_store = n };
  must_understand = m;
}

same_flags : (r : CacheRules) (n m p q : Bool) → n ≡ p → m ≡ q → with_flags r n m ≡ with_flags r p q
same_flags r n m p q e f = ap (λ x. with_flags r x m) e ∙ ap (with_flags r p) f

pub is_effective : (u : Bool) (r : CacheRules) → rules_when u r ≡ effective u r
is_effective false r =
    same_flags r _ _ _ _ (sym (and_true r.policy.no_store)) (sym (and_true r.must_understand))
is_effective true r = by r.must_understand refl
  where
    by : (x : Bool) → r.must_understand ≡ x
        → (if x then with_flags r false false else r) ≡ effective true r
    by true e =
        same_flags r _ _ _ _
        (sym (ap (λ m. r.policy.no_store && not m) e ∙ and_false r.policy.no_store))
        (sym (and_false r.must_understand))
    by false e =
        same_flags r _ _ _ _
        (sym (ap (λ m. r.policy.no_store && not m) e ∙ and_true r.policy.no_store))
        (e ∙ sym (and_false r.must_understand))

-- a response that is stored is not refused, and one that is not stored is
abbrev IsStored : Reuse → Type 0
IsStored reuse.NotStored = ⊥
IsStored how = Unit {0}

abbrev refusal_by : Bool → Bool → Bool → Option Cause
refusal_by n p u =
    if n then Some cause.NoStore
    else (if p then Some cause.Private
    else (if u then Some cause.MustUnderstand else None))

not_refused : (n p u : Bool) (x : Decision)
    → (unless_refused (refusal_by n p u) x).reuse ≢ reuse.NotStored
    → (n ≡ false) × (p ≡ false) × (u ≡ false)
not_refused true p u x h = absurd (h refl)
not_refused false true u x h = absurd (h refl)
not_refused false false true x h = absurd (h refl)
not_refused false false false x h = (refl, refl, refl)

refused : (n p u : Bool) (x : Decision) → IsStored x.reuse
    → (unless_refused (refusal_by n p u) x).reuse ≡ reuse.NotStored
    → (n ≡ true) ⊎ ((p ≡ true) ⊎ (u ≡ true))
refused true p u x s h = inl refl
refused false true u x s h = inr (inl refl)
refused false false true x s h = inr (inr refl)
refused false false false x s h = absurd (subst IsStored h s)

pub stored_or_not : (o : Option Cause) (x : Decision)
    → ((unless_refused o x).reuse ≡ reuse.NotStored) ⊎ ((unless_refused o x).reuse ≡ x.reuse)
stored_or_not (Some by) x = inl refl
stored_or_not None x = inr refl

abbrev pub stale_by : Bool → Bool → Bool → Cause → Decision
stale_by m p s by =
    if m then decided reuse.MustRevalidate cause.MustRevalidate
    else (if p then decided reuse.MustRevalidate cause.ProxyRevalidate
    else (if s then decided reuse.MustRevalidate by else decided reuse.Stale by))

stale_stored : (m p s : Bool) (by : Cause) → IsStored (stale_by m p s by).reuse
stale_stored true p s by = tt
stale_stored false true s by = tt
stale_stored false false true by = tt
stale_stored false false false by = tt

stale_means : (m p s : Bool) (by : Cause) → (stale_by m p s by).reuse ≡ reuse.Stale
    → (m ≡ false) × (p ≡ false) × (s ≡ false)
stale_means true p s by h = absurd cc
stale_means false true s by h = absurd cc
stale_means false false true by h = absurd cc
stale_means false false false by h = (refl, refl, refl)

by_lifetime_stored : (r : CacheRules) (k : CacheKind) (age : ℕ) (l : Lifetime)
    → IsStored (by_lifetime r k age l).reuse
by_lifetime_stored r k age (life.Seconds n by) = pick (nat_lt (saturated age) (saturated n))
  where
    pick : (x : Bool)
        → IsStored (if x then decided (reuse.Fresh (saturated n - saturated age)) by
        else stale r k by).reuse
    pick true = tt
    pick false =
        stale_stored r.policy.must_revalidate (is_shared k && r.proxy_revalidate)
        (is_shared k && has_s_maxage r) by
by_lifetime_stored r k age (life.Invalid by) =
    stale_stored r.policy.must_revalidate (is_shared k && r.proxy_revalidate)
    (is_shared k && has_s_maxage r) by
by_lifetime_stored r k age life.Unspecified = tt

stored_is_stored : (r : CacheRules) (k : CacheKind) (other : Option ℕ) (age : ℕ)
    → IsStored (stored r k other age).reuse
stored_is_stored r k other age = pick r.policy.no_cache
  where
    pick : (x : Bool)
        → IsStored (if x then decided reuse.MustRevalidate cause.NoCache
        else by_lifetime r k age (lifetime r k other)).reuse
    pick true = tt
    pick false = by_lifetime_stored r k age (lifetime r k other)

-- what is stale is so because nothing prohibits it
pub record Stale (r : CacheRules) (k : CacheKind) : Type 0 where
  pub must : r.policy.must_revalidate ≡ false
  pub proxy : (is_shared k && r.proxy_revalidate) ≡ false
  pub s_maxage : (is_shared k && has_s_maxage r) ≡ false

stale_is : (r : CacheRules) (k : CacheKind) (by : Cause) → (stale r k by).reuse ≡ reuse.Stale
    → Stale r k
stale_is r k by h =
    let m = stale_means r.policy.must_revalidate (is_shared k && r.proxy_revalidate)
    (is_shared k && has_s_maxage r) by h in
    record { must = m.0; proxy = m.1; s_maxage = m.2 }

by_lifetime_stale : (r : CacheRules) (k : CacheKind) (age : ℕ) (l : Lifetime)
    → (by_lifetime r k age l).reuse ≡ reuse.Stale → Stale r k
by_lifetime_stale r k age (life.Seconds n by) h = pick (nat_lt (saturated age) (saturated n)) h
  where
    pick : (x : Bool)
        → (if x then decided (reuse.Fresh (saturated n - saturated age)) by
        else stale r k by).reuse ≡ reuse.Stale → Stale r k
    pick true e = absurd cc
    pick false e = stale_is r k by e
by_lifetime_stale r k age (life.Invalid by) h = stale_is r k by h
by_lifetime_stale r k age life.Unspecified h = absurd cc

pub stored_stale : (r : CacheRules) (k : CacheKind) (other : Option ℕ) (age : ℕ)
    → (stored r k other age).reuse ≡ reuse.Stale → (r.policy.no_cache ≡ false) × Stale r k
stored_stale r k other age h = pick r.policy.no_cache refl h
  where
    pick : (x : Bool) → r.policy.no_cache ≡ x
        → (if x then decided reuse.MustRevalidate cause.NoCache
        else by_lifetime r k age (lifetime r k other)).reuse ≡ reuse.Stale
        → (r.policy.no_cache ≡ false) × Stale r k
    pick true n e = absurd cc
    pick false n e = (n, by_lifetime_stale r k age (lifetime r k other) e)

pub shared_is : (x : Bool) → is_shared (kind_of x) ≡ x
shared_is true = refl
shared_is false = refl

and_means : (x y : Bool) → (x && y) ≡ false → x ≡ true → y ≡ false
and_means true y h e = h
and_means false y h e = absurd cc

pub and_parts_true : (x y : Bool) → (x && y) ≡ true → (x ≡ true) × (y ≡ true)
and_parts_true true y h = (refl, h)
and_parts_true false y h = absurd cc

not_false : (x : Bool) → not x ≡ false → x ≡ true
not_false true h = refl
not_false false h = absurd cc

not_true : (x : Bool) → not x ≡ true → x ≡ false
not_true true h = absurd cc
not_true false h = refl

pub not_both : (x : Bool) → x ≡ true → x ≡ false → ⊥
not_both x t f = let clash : true ≡ false = sym t ∙ f in cc

-- the decision of a situation, with its flags
module _ (s : Situation) (ds : List CacheDirective) where
  abbrev rules : CacheRules
  rules = cache_rules ds

  abbrev pub used : CacheRules
  used = effective s.understands rules

  abbrev cache : CacheKind
  cache = kind_of s.shared

  pub use_is : use_of s ds
      ≡ (unless_refused (refusal_by used.policy.no_store
      (used.policy.is_private && is_shared cache) used.must_understand)
      (stored used cache s.expires s.age)).reuse
  use_is =
      ap (λ r. (unless_refused (refusal_by r.policy.no_store
      (r.policy.is_private && is_shared cache) r.must_understand)
      (stored r cache s.expires s.age)).reuse) (is_effective s.understands rules)

  may_store : use_of s ds ≢ reuse.NotStored → MayStore s (as_directives ds)
  may_store h =
      let m = not_refused used.policy.no_store (used.policy.is_private && is_shared cache)
      used.must_understand (stored used cache s.expires s.age) (λ e. h (use_is ∙ e)) in
      record {
        understood = λ p.
            not_false s.understands
            (and_means rules.must_understand (not s.understands) m.2
            (present_by (codes "must-understand") ds p));
        no_store = λ p.
            let both = and_parts_true s.understands rules.must_understand
            (not_false (s.understands && rules.must_understand)
            (and_means rules.policy.no_store
            (not (s.understands && rules.must_understand)) m.0
            (present_by (codes "no-store") ds p))) in
            (present_is (codes "must-understand") ds both.1, both.0);
        is_private = λ shared p.
            not_both (is_shared cache) (shared_is s.shared ∙ shared)
            (and_means rules.policy.is_private (is_shared cache) m.1
            (unqualified_present (codes "private") ds p));
      }

  not_stored : MayStore s (as_directives ds) → use_of s ds ≡ reuse.NotStored
      → (rules.policy.is_private && is_shared cache) ≡ true
  not_stored may h =
      by (refused used.policy.no_store (used.policy.is_private && is_shared cache)
      used.must_understand (stored used cache s.expires s.age)
      (stored_is_stored used cache s.expires s.age) (sym use_is ∙ h))
    where
      by : (used.policy.no_store ≡ true)
          ⊎ (((used.policy.is_private && is_shared cache) ≡ true) ⊎ (used.must_understand ≡ true))
          → (rules.policy.is_private && is_shared cache) ≡ true
      by (inl n) =
          let parts = and_parts_true rules.policy.no_store
          (not (s.understands && rules.must_understand)) n in
          let (must, understands) = may.no_store (present_is (codes "no-store") ds parts.0) in
          let both : (s.understands && rules.must_understand) ≡ true =
          rw understands (present_by (codes "must-understand") ds must) in
          absurd (not_both (s.understands && rules.must_understand) both
          (not_true (s.understands && rules.must_understand) parts.1))
      by (inr (inl p)) = p
      by (inr (inr u)) =
          let parts = and_parts_true rules.must_understand (not s.understands) u in
          absurd (not_both s.understands
          (may.understood (present_is (codes "must-understand") ds parts.0))
          (not_true s.understands parts.1))

abbrev pub refusal_of : Situation → List CacheDirective → Option Cause
refusal_of s ds =
    refusal_by (used s ds).policy.no_store
    ((used s ds).policy.is_private && is_shared (kind_of s.shared)) (used s ds).must_understand

abbrev pub stored_of : Situation → List CacheDirective → Decision
stored_of s ds = stored (used s ds) (kind_of s.shared) s.expires s.age

pub stored_as_allowed : StoredAsAllowed
stored_as_allowed s ds = (
  may_store s ds,
  λ may h.
      let parts = and_parts_true (is_present (codes "private") ds) (is_shared (kind_of s.shared))
      (not_stored s ds may h) in
      let shared : s.shared ≡ true = sym (shared_is s.shared) ∙ parts.1 in (
        shared,
        ⊎_elim (λ u. absurd (may.is_private shared u)) (λ q. q)
            (qualified_or_not (codes "private") (as_directives ds)
            (present_is (codes "private") ds parts.0)),
      ),
)

pub validated_as_required : ValidatedAsRequired
validated_as_required s ds h =
    let n = unqualified_present (codes "no-cache") ds h in
    let validated : (stored_of s ds).reuse ≡ reuse.MustRevalidate = rw n refl in
    ⊎_elim (λ e. inl (use_is s ds ∙ e)) (λ e. inr (use_is s ds ∙ e ∙ validated))
    (stored_or_not (refusal_of s ds) (stored_of s ds))

pub stale_as_permitted : StaleAsPermitted
stale_as_permitted s ds h prohibited =
    by (stored_or_not (refusal_of s ds) (stored_of s ds))
  where
    means : ((used s ds).policy.no_cache ≡ false) × Stale (used s ds) (kind_of s.shared) → ProhibitsStale s (as_directives ds) → ⊥
    means (n, m) (inl p) =
        not_both (used s ds).policy.must_revalidate (present_by (codes "must-revalidate") ds p) m.must
    means (n, m) (inr (inl (shared, p))) =
        not_both (used s ds).proxy_revalidate (present_by (codes "proxy-revalidate") ds p)
        (and_means (is_shared (kind_of s.shared)) (used s ds).proxy_revalidate m.proxy
        (shared_is s.shared ∙ shared))
    means (n, m) (inr (inr (inl (shared, p)))) =
        not_both (has_s_maxage (used s ds))
        (has_it (codes "s-maxage") ds ∙ present_by (codes "s-maxage") ds p)
        (and_means (is_shared (kind_of s.shared)) (has_s_maxage (used s ds)) m.s_maxage
        (shared_is s.shared ∙ shared))
    means (n, m) (inr (inr (inr v))) =
        not_both (used s ds).policy.no_cache (unqualified_present (codes "no-cache") ds v) n

    by : ((unless_refused (refusal_of s ds) (stored_of s ds)).reuse ≡ reuse.NotStored)
        ⊎ ((unless_refused (refusal_of s ds) (stored_of s ds)).reuse
        ≡ (stored_of s ds).reuse) → ⊥
    by (inl e) = let clash : reuse.Stale ≡ reuse.NotStored = sym h ∙ use_is s ds ∙ e in cc
    by (inr e) =
        means (stored_stale (used s ds) (kind_of s.shared) s.expires s.age
        (sym e ∙ sym (use_is s ds) ∙ h)) prohibited

-- which rule sets a lifetime
first_cases : (invalid : Bool) (a : Cause) (seconds : Option ℕ) (b : Cause) (next : Lifetime)
    (m : ℕ) (by : Cause) → first_match invalid a seconds b next ≡ life.Seconds m by
    → (seconds ≡ Some m) ⊎ ((invalid ≡ false) × (seconds ≡ None) × (next ≡ life.Seconds m by))
first_cases true a seconds b next m by h = absurd cc
first_cases false a None b next m by h = inr (refl, refl, h)
first_cases false a (Some n) b next m by h = let same : n ≡ m = cc in inl (ap Some same)

other_is : (other : Option ℕ) (m : ℕ) (by : Cause) → other_lifetime other ≡ life.Seconds m by
    → other ≡ Some m
other_is None m by h = absurd cc
other_is (Some n) m by h = let same : n ≡ m = cc in ap Some same

pub absent : (name : List ℕ) (ds : List CacheDirective) → disagree (values name ds) ≡ false
    → agreed (values name ds) ≡ None → IsPresent name (as_directives ds) → ⊥
absent name ds d a p =
    let none : (disagree (values name ds) || is_some (agreed (values name ds))) ≡ false =
    rw (d, a) refl in
    not_both (is_present name ds) (present_by name ds p) (sym (has_it name ds) ∙ none)

private_means : (ds : List CacheDirective) (other : Option ℕ) (m : ℕ) (by : Cause)
    → private_lifetime (cache_rules ds) other ≡ life.Seconds m by
    → HasValue (codes "max-age") (as_directives ds) m
    ⊎ ((IsPresent (codes "max-age") (as_directives ds) → ⊥) × (other ≡ Some m))
private_means ds other m by h =
    ⊎_elim (λ e. inl (has_value (codes "max-age") ds m e))
    (λ (d, a, next). inr (absent (codes "max-age") ds d a, other_is other m by next))
    (first_cases (disagree (values (codes "max-age") ds)) cause.InvalidMaxAge
    (agreed (values (codes "max-age") ds)) cause.MaxAge (other_lifetime other) m by h)

not_shared : (s : Situation) (ds : List CacheDirective) (m : ℕ)
    → (IsForShared s (as_directives ds) → ⊥)
    → HasValue (codes "max-age") (as_directives ds) m
    ⊎ ((IsPresent (codes "max-age") (as_directives ds) → ⊥) × (s.expires ≡ Some m))
    → IsLifetime s (as_directives ds) m
not_shared s ds m missing (inl v) = inr (inl (missing, v))
not_shared s ds m missing (inr (none, e)) = inr (inr (missing, none, e))

lifetime_means : (s : Situation) (ds : List CacheDirective) (x : Bool) (m : ℕ) (by : Cause)
    → s.shared ≡ x → lifetime (cache_rules ds) (kind_of x) s.expires ≡ life.Seconds m by
    → IsLifetime s (as_directives ds) m
lifetime_means s ds false m by e h =
    not_shared s ds m (λ f. not_both s.shared f.0 e) (private_means ds s.expires m by h)
lifetime_means s ds true m by e h =
    ⊎_elim (λ v. inl (e, has_value (codes "s-maxage") ds m v))
    (λ (d, a, next).
    not_shared s ds m (λ f. absent (codes "s-maxage") ds d a f.1)
    (private_means ds s.expires m by next))
    (first_cases (disagree (values (codes "s-maxage") ds)) cause.InvalidSMaxage
    (agreed (values (codes "s-maxage") ds)) cause.SMaxage
    (private_lifetime (cache_rules ds) s.expires) m by h)

-- the flags that change don't matter for the lifetime
pub same_lifetime : (u x : Bool) (r : CacheRules) (other : Option ℕ)
    → lifetime (effective u r) (kind_of x) other ≡ lifetime r (kind_of x) other
same_lifetime u true r other = refl
same_lifetime u false r other = refl

pub fresh_as_calculated : FreshAsCalculated
fresh_as_calculated s ds left h =
    let young = decisions.fresh_is_younger (rules_of s ds) (kind_of s.shared) s.expires s.age left h in
    let same : lifetime (cache_rules ds) (kind_of s.shared) s.expires
    ≡ life.Seconds young.0 young.1 =
    sym (same_lifetime s.understands s.shared (cache_rules ds) s.expires)
    ∙ ap (λ q. lifetime q (kind_of s.shared) s.expires)
    (sym (is_effective s.understands (cache_rules ds)))
    ∙ young.2 in
    (young.0, lifetime_means s ds s.shared young.0 young.1 refl same, young.3, young.4)

-- the rule that the lifetime is set by
pub record ByRule (l : Lifetime) (m : ℕ) : Type 0 where
  pub cause : Cause
  pub set : l ≡ life.Seconds m cause

value_first : (name : List ℕ) (ds : List CacheDirective) (m : ℕ) (a b : Cause) (next : Lifetime)
    → HasValue name (as_directives ds) m
    → first_match (disagree (values name ds)) a (agreed (values name ds)) b next ≡ life.Seconds m b
value_first name ds m a b next v =
    let (e, d) = value_has name ds m v in
    rw (d, e) refl

pub absent_first : (name : List ℕ) (ds : List CacheDirective) (a b : Cause) (next : Lifetime)
    → (IsPresent name (as_directives ds) → ⊥)
    → first_match (disagree (values name ds)) a (agreed (values name ds)) b next ≡ next
absent_first name ds a b next missing = by (is_present name ds) refl
  where
    by : (x : Bool) → is_present name ds ≡ x
        → first_match (disagree (values name ds)) a (agreed (values name ds)) b next ≡ next
    by true e = absurd (missing (present_is name ds e))
    by false e = let (n, d) = no_value name ds e in rw (d, n) refl

private_is : (s : Situation) (ds : List CacheDirective) (m : ℕ)
    → (HasValue (codes "max-age") (as_directives ds) m
    ⊎ ((IsPresent (codes "max-age") (as_directives ds) → ⊥) × (s.expires ≡ Some m)))
    → ByRule (private_lifetime (cache_rules ds) s.expires) m
private_is s ds m (inl v) =
    record {
      cause = cause.MaxAge;
      set = value_first (codes "max-age") ds m cause.InvalidMaxAge cause.MaxAge
          (other_lifetime s.expires) v;
    }
private_is s ds m (inr (missing, e)) =
    record {
      cause = cause.Expires;
      set = absent_first (codes "max-age") ds cause.InvalidMaxAge cause.MaxAge
          (other_lifetime s.expires) missing ∙ ap other_lifetime e;
    }

pub lifetime_is : (s : Situation) (ds : List CacheDirective) (x : Bool) (m : ℕ) → s.shared ≡ x
    → IsLifetime s (as_directives ds) m
    → ByRule (lifetime (cache_rules ds) (kind_of x) s.expires) m
lifetime_is s ds false m e (inl (shared, v)) = absurd (not_both s.shared shared e)
lifetime_is s ds false m e (inr (inl (missing, v))) = private_is s ds m (inl v)
lifetime_is s ds false m e (inr (inr (missing, none, x))) = private_is s ds m (inr (none, x))
lifetime_is s ds true m e (inl (shared, v)) =
    record {
      cause = cause.SMaxage;
      set = value_first (codes "s-maxage") ds m cause.InvalidSMaxage cause.SMaxage
          (private_lifetime (cache_rules ds) s.expires) v;
    }
lifetime_is s ds true m e (inr (inl (missing, v))) =
    let p = private_is s ds m (inl v) in
    record {
      cause = p.cause;
      set = absent_first (codes "s-maxage") ds cause.InvalidSMaxage cause.SMaxage
          (private_lifetime (cache_rules ds) s.expires) (λ q. missing (e, q)) ∙ p.set;
    }
lifetime_is s ds true m e (inr (inr (missing, none, x))) =
    let p = private_is s ds m (inr (none, x)) in
    record {
      cause = p.cause;
      set = absent_first (codes "s-maxage") ds cause.InvalidSMaxage cause.SMaxage
          (private_lifetime (cache_rules ds) s.expires) (λ q. missing (e, q)) ∙ p.set;
    }

aged_fresh : (r : CacheRules) (k : CacheKind) (m : ℕ) (by : Cause) (age left : ℕ)
    → saturated age < saturated m → saturated age + left ≡ saturated m
    → (aged r k m by age).reuse ≡ reuse.Fresh left
aged_fresh r k m by age left young sum =
    let test : nat_lt (saturated age) (saturated m) ≡ true = lt-ltb (saturated age) (saturated m) young in
    let rest : saturated m - saturated age ≡ left = omega arith in
    rw test (ap reuse.Fresh rest)

-- a response that is stored and fresh by its lifetime, without no-cache
pub fresh_stored : (s : Situation) (ds : List CacheDirective) (m left : ℕ)
    → IsLifetime s (as_directives ds) m → saturated s.age < saturated m
    → saturated s.age + left ≡ saturated m
    → (used s ds).policy.no_cache ≡ false → (stored_of s ds).reuse ≡ reuse.Fresh left
fresh_stored s ds m left h young sum n =
    let rule = lifetime_is s ds s.shared m refl h in
    rw n
    (ap (λ l. (by_lifetime (used s ds) (kind_of s.shared) s.age l).reuse)
    (same_lifetime s.understands s.shared (cache_rules ds) s.expires ∙ rule.set)
    ∙ aged_fresh (used s ds) (kind_of s.shared) m rule.cause s.age left young sum)

pub fresh_is_used : FreshIsUsed
fresh_is_used s ds m left h young sum =
    by (stored_or_not (refusal_of s ds) (stored_of s ds)) (is_present (codes "no-cache") ds) refl
  where
    by : ((unless_refused (refusal_of s ds) (stored_of s ds)).reuse ≡ reuse.NotStored)
        ⊎ ((unless_refused (refusal_of s ds) (stored_of s ds)).reuse ≡ (stored_of s ds).reuse)
        → (x : Bool) → is_present (codes "no-cache") ds ≡ x
        → (use_of s ds ≡ reuse.Fresh left)
        ⊎ ((use_of s ds ≡ reuse.NotStored) ⊎ IsPresent (codes "no-cache") (as_directives ds))
    by (inl e) x n = inr (inl (use_is s ds ∙ e))
    by (inr e) true n = inr (inr (present_is (codes "no-cache") ds n))
    by (inr e) false n = inl (use_is s ds ∙ e ∙ fresh_stored s ds m left h young sum n)

-- what permits to store
pub or_cases : (x y : Bool) → (x || y) ≡ true → (x ≡ true) ⊎ (y ≡ true)
or_cases true y h = inl refl
or_cases false y h = inr h

pub or_first : (x y : Bool) → x ≡ true → (x || y) ≡ true
or_first x y h = rw h refl

pub or_second : (x y : Bool) → y ≡ true → (x || y) ≡ true
or_second true y h = refl
or_second false y h = h

storing : (s : Situation) (ds : List CacheDirective) (x : Bool) → s.shared ≡ x
    → (permits_storing (cache_rules ds) (kind_of x) ≡ true)
    ↔ AllowsStoring s (as_directives ds)
storing s ds true e = (there, back)
  where
    there : permits_storing (cache_rules ds) kind.Shared ≡ true
        → AllowsStoring s (as_directives ds)
    there h =
        ⊎_elim
        (λ p. ⊎_elim (λ q. inl (present_is (codes "public") ds q))
        (λ q. inr (inr (inl (present_is (codes "max-age") ds
        (sym (has_it (codes "max-age") ds) ∙ q)))))
        (or_cases _ _ p))
        (λ p. inr (inr (inr (
          e,
          present_is (codes "s-maxage") ds
              (sym (has_it (codes "s-maxage") ds) ∙ p),
        ))))
        (or_cases _ _ h)

    back : AllowsStoring s (as_directives ds)
        → permits_storing (cache_rules ds) kind.Shared ≡ true
    back (inl p) =
        or_first _ _ (or_first _ _ (present_by (codes "public") ds p))
    back (inr (inl (private, p))) = absurd (not_both s.shared e private)
    back (inr (inr (inl p))) =
        or_first _ _ (or_second _ _
        (has_it (codes "max-age") ds ∙ present_by (codes "max-age") ds p))
    back (inr (inr (inr (shared, p)))) =
        or_second _ _ (has_it (codes "s-maxage") ds ∙ present_by (codes "s-maxage") ds p)
storing s ds false e = (there, back)
  where
    there : permits_storing (cache_rules ds) kind.Private ≡ true
        → AllowsStoring s (as_directives ds)
    there h =
        ⊎_elim
        (λ p. ⊎_elim (λ q. inl (present_is (codes "public") ds q))
        (λ q. inr (inr (inl (present_is (codes "max-age") ds
        (sym (has_it (codes "max-age") ds) ∙ q)))))
        (or_cases _ _ p))
        (λ p. inr (inl (e, present_is (codes "private") ds p)))
        (or_cases _ _ h)

    back : AllowsStoring s (as_directives ds)
        → permits_storing (cache_rules ds) kind.Private ≡ true
    back (inl p) =
        or_first _ _ (or_first _ _ (present_by (codes "public") ds p))
    back (inr (inl (private, p))) = or_second _ _ (present_by (codes "private") ds p)
    back (inr (inr (inl p))) =
        or_first _ _ (or_second _ _
        (has_it (codes "max-age") ds ∙ present_by (codes "max-age") ds p))
    back (inr (inr (inr (shared, p)))) = absurd (not_both s.shared shared e)

pub storing_as_allowed : StoringAsAllowed
storing_as_allowed s ds = storing s ds s.shared refl
