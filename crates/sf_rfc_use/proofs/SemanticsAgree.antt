-- The directives of a targeted field decide as those of Cache-Control.
use Rattle.std.proofs.Common.{◌≡◌, ℕ, pos, ◌-◌, Bool, true, false, List, [], ◌∷◌}
use Rattle.std.proofs.Common.{Option, Some, None, refl, sym, ap, ap₂, subst, ◌∙◌, arith, codes}
use Rattle.std.specs.Prelude.{◌&&◌, ◌||◌, if◌then◌else◌, is_none, is_some, nat_lt}
use Rattle.std.specs.Prelude.{option_and_then}
use Rattle.std.specs.Char.{to_ascii_lowercase}
use Rattle.std.specs.List.{AllByRecursion}
use Rattle.std.specs.Map.{keys_of}
use Rattle.std.specs.Option.{option_map}
use Rattle.std.specs.Str.{bytes_eq, str_to_ascii_lowercase}
use Rattle.std.proofs.lemmas.Bool.Decides.{nat_tests}
use Rattle.std.proofs.lemmas.Map.Keys.{IsDistinct-head, IsDistinct-tail}
use Rattle.std.proofs.lemmas.Slice.Eq.{bytes_eq-Decides}
use Rattle.sf_value.specs.declared.dialect.Dialect.{Dialect}
use Rattle.sf_value.specs.declared.value.Bare.{Bare}
use Rattle.sf_value.specs.declared.value.Bare.TheVariants.{Integer, Boolean}
use Rattle.sf_value.specs.declared.value.Member.{Member}
use Rattle.sf_value.specs.declared.value.Member.TheVariants as member
use Rattle.sf_value.specs.Grammar.Classes.{is_in_key, is_key_start}
use Rattle.sf_value.specs.Grammar.Pairs.{HasDistinctKeys, value_at}
use Rattle.sf_value.specs.Grammar.Tokens.{IsKey}
use Rattle.sf_value.specs.Grammar.Valid.{ValidMember}
use Rattle.sf_value.specs.Grammar.Words.{Each, Every}
use Rattle.sf_use.specs.declared.caching.CacheKind.{CacheKind}
use Rattle.sf_use.specs.declared.caching.CacheKind.TheVariants as kind
use Rattle.sf_use.specs.declared.caching.CacheRules.{CacheRules}
use Rattle.sf_use.specs.declared.caching.Cause.{Cause}
use Rattle.sf_use.specs.declared.caching.Cause.TheVariants as cause
use Rattle.sf_use.specs.declared.caching.Decision.{Decision}
use Rattle.sf_use.specs.declared.caching.Lifetime.{Lifetime}
use Rattle.sf_use.specs.declared.caching.Lifetime.TheVariants as life
use Rattle.sf_use.specs.declared.caching.Reuse.TheVariants as reuse
use Rattle.sf_use.specs.CacheControl.{CacheDirective, agreed, cache_rules, disagree, is_named}
use Rattle.sf_use.specs.CacheControl.{is_present, values}
use Rattle.sf_use.specs.CacheControl.{delta_seconds as number_of}
use Rattle.sf_use.specs.CachingLaws.{reuse_of}
use Rattle.sf_use.specs.Caching.{by_lifetime, decided, decision, first_match, is_shared, lifetime}
use Rattle.sf_use.specs.Caching.{other_lifetime, private_lifetime, refusal, saturated, stale}
use Rattle.sf_use.specs.Caching.{understood, unless_refused}
use Rattle.sf_use.specs.Targeted.{delta_seconds, is_set, not_false, whole}
use Rattle.sf_use.specs.TargetedRules.{is_invalid, is_true, permits, rules}
use Rattle.sf_rfc.specs.Rfc9651.Parsing.{Map}
use Rattle.sf_rfc_use.specs.CachingLaws.{as_directives, kind_of}
use Rattle.sf_rfc_use.specs.OrderedMaps.{value_of}
use Rattle.sf_rfc_use.specs.Rfc9213.{AreDirectives, MapsTo, MapsToMember, always_true, constrained}
use Rattle.sf_rfc_use.specs.Rfc9213.{violates}
use Rattle.sf_rfc_use.proofs.LookUps.{found}
use Rattle.sf_rfc_use.specs.TargetedLaws.{SemanticsAgree}
use Rattle.sf_rfc_use.proofs.CachingAgrees.{stale_by}
use Rattle.sf_rfc_use.proofs.DirectivesAgree.{are_seconds}
use Rattle.sf_rfc_use.proofs.TargetedAgrees.{invalid_is}

-- a key has no upper case
lower_first : (b : ℕ) → is_key_start b ≡ true → to_ascii_lowercase b ≡ b
lower_first b h = grind (arith, nat_tests)

lower_next : (b : ℕ) → is_in_key b ≡ true → to_ascii_lowercase b ≡ b
lower_next b h = grind (arith, nat_tests)

lower_every : (t : List ℕ) → Every is_in_key t → str_to_ascii_lowercase t ≡ t
lower_every [] h = refl
lower_every (b ∷ t) h = ap₂ (λ x y. x ∷ y) (lower_next b h.0) (lower_every t h.1)

lower_key : (t : List ℕ) → IsKey t → str_to_ascii_lowercase t ≡ t
lower_key [] h = absurd h
lower_key (b ∷ t) h = ap₂ (λ x y. x ∷ y) (lower_first b h.0) (lower_every t h.1)

-- a directive has a name exactly if the key of its member is that name
module _ (n : List ℕ) (low : str_to_ascii_lowercase n ≡ n) where
  same_test : (k : List ℕ) → IsKey k → (d : CacheDirective) → d.name ≡ k
      → is_named n d ≡ bytes_eq n k
  same_test k key d e = by (is_named n d) refl (bytes_eq n k) refl
    where
      lower : str_to_ascii_lowercase d.name ≡ k
      lower = ap str_to_ascii_lowercase e ∙ lower_key k key

      by : (x : Bool) → is_named n d ≡ x → (y : Bool) → bytes_eq n k ≡ y
          → is_named n d ≡ bytes_eq n k
      by true f true g = f ∙ sym g
      by false f false g = f ∙ sym g
      by true f false g =
          let same : str_to_ascii_lowercase d.name ≡ str_to_ascii_lowercase n =
          (bytes_eq-Decides (str_to_ascii_lowercase d.name) (str_to_ascii_lowercase n)).0 f in
          let equal : n ≡ k = sym low ∙ sym same ∙ lower in
          let clash : true ≡ false = sym ((bytes_eq-Decides n k).1 equal) ∙ g in
          absurd cc
      by false f true g =
          let equal : n ≡ k = (bytes_eq-Decides n k).0 g in
          let same : str_to_ascii_lowercase d.name ≡ str_to_ascii_lowercase n =
          lower ∙ sym equal ∙ sym low in
          let clash : true ≡ false =
          sym ((bytes_eq-Decides (str_to_ascii_lowercase d.name)
          (str_to_ascii_lowercase n)).1 same) ∙ f in
          absurd cc

-- a member that a directive maps to is set
set_bare : (o : Option (List ℕ)) (x : Bare) → MapsTo o x → not_false x ≡ true
set_bare None (Boolean true) h = refl
set_bare None (Boolean false) h = absurd cc
set_bare None x h = absurd h
set_bare (Some v) (Boolean b) h = absurd h
set_bare (Some v) x h = refl

set_member : (o : Option (List ℕ)) (m : Member) → MapsToMember o m → is_set (Some m) ≡ true
set_member o (member.Item i) h = set_bare o i.bare h
set_member o (member.Inner l) h = absurd h

-- a member that a directive maps to permits, if it keeps to the constraint
permits_bare : (o : Option (List ℕ)) (x : Bare) → MapsTo o x → violates (always_true x) ≡ false
    → is_true x ≡ true
permits_bare None (Boolean true) h v = refl
permits_bare None (Boolean false) h v = absurd cc
permits_bare (Some t) (Boolean b) h v = absurd h
permits_bare o x h v = absurd cc

permits_member : (o : Option (List ℕ)) (m : Member) → MapsToMember o m
    → violates (constrained always_true (Some m)) ≡ false → permits (Some m) ≡ true
permits_member o (member.Item i) h v = permits_bare o i.bare h v
permits_member o (member.Inner l) h v = absurd h

-- the seconds of a directive are those of its member, which may be greater than 2^31
abbrev Reads : Option ℕ → List (Option ℕ) → Type 0
Reads None vs = vs ≡ []
Reads (Some n) vs = vs ≡ Some (saturated n) ∷ []

reads_bare : (o : Option (List ℕ)) (x : Bare) → MapsTo o x → is_none (whole x) ≡ false
    → Reads (whole x) (option_and_then number_of o ∷ [])
reads_bare None (Integer (pos n)) h e = absurd h
reads_bare (Some v) (Integer (pos n)) h e =
    ap (λ y. y ∷ []) (are_seconds v (saturated n) (h.0, h.1, ap saturated h.2))
reads_bare o x h e = absurd cc

reads_member : (o : Option (List ℕ)) (m : Member) → MapsToMember o m → is_invalid (Some m) ≡ false
    → Reads (delta_seconds (Some m)) (option_and_then number_of o ∷ [])
reads_member o (member.Item i) h e = reads_bare o i.bare h e
reads_member o (member.Inner l) h e = absurd h

abbrev AreKeys : Map Member → Type 0
AreKeys ms = Each (λ p. IsKey p.0) ms

module _ (n : List ℕ) (low : str_to_ascii_lowercase n ≡ n) where
  flag : (ms : Map Member) (ds : List CacheDirective) → AreKeys ms
      → AreDirectives ms (as_directives ds) → is_set (value_at n ms) ≡ is_present n ds
  flag [] [] k h = refl
  flag [] (d ∷ ds) k h = absurd h
  flag (p ∷ ms) [] k h = absurd h
  flag (p ∷ ms) (d ∷ ds) k h =
      by (bytes_eq n p.0) refl (flag ms ds k.1 h.1)
    where
      named : is_named n d ≡ bytes_eq n p.0
      named = same_test n low p.0 k.0 d h.0.0

      by : (x : Bool) → bytes_eq n p.0 ≡ x → is_set (value_at n ms) ≡ is_present n ds
          → is_set (value_at n (p ∷ ms)) ≡ is_present n (d ∷ ds)
      by true e more = rw (e, named ∙ e) (set_member d.argument p.1 h.0.1)
      by false e more = rw (e, named ∙ e) more

  permit : (ms : Map Member) (ds : List CacheDirective) → AreKeys ms
      → AreDirectives ms (as_directives ds)
      → violates (constrained always_true (value_at n ms)) ≡ false
      → permits (value_at n ms) ≡ is_present n ds
  permit [] [] k h v = refl
  permit [] (d ∷ ds) k h v = absurd h
  permit (p ∷ ms) [] k h v = absurd h
  permit (p ∷ ms) (d ∷ ds) k h v =
      by (bytes_eq n p.0) refl (permit ms ds k.1 h.1)
    where
      named : is_named n d ≡ bytes_eq n p.0
      named = same_test n low p.0 k.0 d h.0.0

      by : (x : Bool) → bytes_eq n p.0 ≡ x
          → (violates (constrained always_true (value_at n ms)) ≡ false
          → permits (value_at n ms) ≡ is_present n ds)
          → permits (value_at n (p ∷ ms)) ≡ is_present n (d ∷ ds)
      by true e more =
          let valid : violates (constrained always_true (Some p.1)) ≡ false = rw e at v in
          rw (e, named ∙ e) (permits_member d.argument p.1 h.0.1 valid)
      by false e more = rw (e, named ∙ e) (more (rw e at v))

  absent : (ms : Map Member) (ds : List CacheDirective) → AreKeys ms
      → AreDirectives ms (as_directives ds)
      → AllByRecursion (λ y. bytes_eq n y ≡ false) (keys_of ms) → values n ds ≡ []
  absent [] [] k h a = refl
  absent [] (d ∷ ds) k h a = absurd h
  absent (p ∷ ms) [] k h a = absurd h
  absent (p ∷ ms) (d ∷ ds) k h a =
      rw (same_test n low p.0 k.0 d h.0.0 ∙ a.0) (absent ms ds k.1 h.1 a.1)

  seconds : (ms : Map Member) (ds : List CacheDirective) → AreKeys ms → HasDistinctKeys ms
      → AreDirectives ms (as_directives ds) → is_invalid (value_at n ms) ≡ false
      → Reads (delta_seconds (value_at n ms)) (values n ds)
  seconds [] [] k u h v = refl
  seconds [] (d ∷ ds) k u h v = absurd h
  seconds (p ∷ ms) [] k u h v = absurd h
  seconds (p ∷ ms) (d ∷ ds) k u h v =
      by (bytes_eq n p.0) refl
      (seconds ms ds k.1 (IsDistinct-tail bytes_eq p.0 (keys_of ms) u) h.1)
    where
      named : is_named n d ≡ bytes_eq n p.0
      named = same_test n low p.0 k.0 d h.0.0

      by : (x : Bool) → bytes_eq n p.0 ≡ x
          → (is_invalid (value_at n ms) ≡ false
          → Reads (delta_seconds (value_at n ms)) (values n ds))
          → Reads (delta_seconds (value_at n (p ∷ ms))) (values n (d ∷ ds))
      by true e more =
          let same : p.0 ≡ n = sym ((bytes_eq-Decides n p.0).0 e) in
          let others : AllByRecursion (λ y. bytes_eq n y ≡ false) (keys_of ms) =
          subst (λ a. AllByRecursion (λ y. bytes_eq a y ≡ false) (keys_of ms)) same
          (IsDistinct-head bytes_eq p.0 (keys_of ms) u) in
          let valid : is_invalid (Some p.1) ≡ false = rw e at v in
          rw (e, named ∙ e, absent ms ds k.1 h.1 others)
          (reads_member d.argument p.1 h.0.1 valid)
      by false e more = rw (e, named ∙ e) (more (rw e at v))

agreed_reads : (o : Option ℕ) (vs : List (Option ℕ)) → Reads o vs
    → (agreed vs ≡ option_map saturated o) × (disagree vs ≡ false)
agreed_reads None vs h = rw h (refl, refl)
agreed_reads (Some n) vs h = rw h (refl, refl)

-- a decision is the same if lifetimes are saturated before
abbrev sat : CacheRules → CacheRules
sat r = record r {
  policy = record r.policy {
    max_age = option_map saturated r.policy.max_age;
    s_maxage = option_map saturated r.policy.s_maxage;
  };
}

some_mapped : (o : Option ℕ) → is_some (option_map saturated o) ≡ is_some o
some_mapped None = refl
some_mapped (Some n) = refl

saturated_twice : (n : ℕ) → saturated (saturated n) ≡ saturated n
saturated_twice n = omega arith

module _ (r : CacheRules) (c : CacheKind) (age : ℕ) where
  same_stale : (by : Cause) → stale (sat r) c by ≡ stale r c by
  same_stale by =
      ap (λ x. stale_by r.policy.must_revalidate (is_shared c && r.proxy_revalidate)
      (is_shared c && (r.invalid_s_maxage || x)) by) (some_mapped r.policy.s_maxage)

  same_by : (l : Lifetime) → by_lifetime (sat r) c age l ≡ by_lifetime r c age l
  same_by (life.Seconds n by) =
      ap (λ x. if nat_lt (saturated age) (saturated n)
      then decided (reuse.Fresh (saturated n - saturated age)) by else x) (same_stale by)
  same_by (life.Invalid by) = same_stale by
  same_by life.Unspecified = refl

  same_seconds : (n : ℕ) (by : Cause)
      → by_lifetime r c age (life.Seconds (saturated n) by)
      ≡ by_lifetime r c age (life.Seconds n by)
  same_seconds n by =
      ap (λ m. if nat_lt (saturated age) m
      then decided (reuse.Fresh (m - saturated age)) by else stale r c by) (saturated_twice n)

  same_first : (invalid : Bool) (a : Cause) (o : Option ℕ) (b : Cause) (k l : Lifetime)
      → by_lifetime r c age k ≡ by_lifetime r c age l
      → by_lifetime r c age (first_match invalid a (option_map saturated o) b k)
      ≡ by_lifetime r c age (first_match invalid a o b l)
  same_first true a o b k l e = refl
  same_first false a None b k l e = e
  same_first false a (Some n) b k l e = same_seconds n b

  same_private : (other : Option ℕ)
      → by_lifetime r c age (private_lifetime (sat r) other)
      ≡ by_lifetime r c age (private_lifetime r other)
  same_private other =
      same_first r.invalid_max_age cause.InvalidMaxAge r.policy.max_age cause.MaxAge
      (other_lifetime other) (other_lifetime other) refl

same_lasting : (r : CacheRules) (c : CacheKind) (other : Option ℕ) (age : ℕ)
    → by_lifetime r c age (lifetime (sat r) c other) ≡ by_lifetime r c age (lifetime r c other)
same_lasting r kind.Private other age = same_private r kind.Private age other
same_lasting r kind.Shared other age =
    same_first r kind.Shared age r.invalid_s_maxage cause.InvalidSMaxage r.policy.s_maxage
    cause.SMaxage (private_lifetime (sat r) other) (private_lifetime r other)
    (same_private r kind.Shared age other)

same_decision : (r : CacheRules) (c : CacheKind) (other : Option ℕ) (age : ℕ)
    → decision (sat r) c other age ≡ decision r c other age
same_decision r c other age =
    ap (λ d. unless_refused (refusal r c)
    (if r.policy.no_cache then decided reuse.MustRevalidate cause.NoCache else d))
    (same_by r c age (lifetime (sat r) c other) ∙ same_lasting r c other age)

-- must-understand is met
abbrev met : CacheRules → CacheRules
met r = record r { policy = record r.policy { no_store = false }; must_understand = false }

same_use : (u : Bool) (r : CacheRules) (c : CacheKind) (other : Option ℕ) (age : ℕ)
    → reuse_of (if u then understood (sat r) else sat r) c other age
    ≡ reuse_of (if u then understood r else r) c other age
same_use false r c other age = ap (λ (d : Decision). d.reuse) (same_decision r c other age)
same_use true r c other age = by r.must_understand
  where
    by : (x : Bool)
        → reuse_of (if x then met (sat r) else sat r) c other age
        ≡ reuse_of (if x then met r else r) c other age
    by true = ap (λ (d : Decision). d.reuse) (same_decision (met r) c other age)
    by false = ap (λ (d : Decision). d.reuse) (same_decision r c other age)

-- the rules of the directives
keys_are : (d : Dialect) (ms : Map Member)
    → Each (λ p. IsKey p.0 × ValidMember d p.1) ms → AreKeys ms
keys_are d [] h = tt
keys_are d (p ∷ ms) h = (h.0.0, keys_are d ms h.1)

rules_are : (ms : Map Member) (ds : List CacheDirective) → AreKeys ms → HasDistinctKeys ms
    → AreDirectives ms (as_directives ds)
    → is_invalid (value_at (codes "max-age") ms) ≡ false
    → is_invalid (value_at (codes "s-maxage") ms) ≡ false
    → violates (constrained always_true (value_at (codes "must-understand") ms)) ≡ false
    → violates (constrained always_true (value_at (codes "public") ms)) ≡ false
    → cache_rules ds ≡ sat (rules (record { members = ms }))
rules_are ms ds k u h a s x y =
    let (age, valid_age) = agreed_reads (delta_seconds (value_at (codes "max-age") ms))
    (values (codes "max-age") ds) (seconds (codes "max-age") refl ms ds k u h a) in
    let (shared, valid_shared) = agreed_reads (delta_seconds (value_at (codes "s-maxage") ms))
    (values (codes "s-maxage") ds) (seconds (codes "s-maxage") refl ms ds k u h s) in
    let must_revalidate = sym (flag (codes "must-revalidate") refl ms ds k h) in
    let no_store = sym (flag (codes "no-store") refl ms ds k h) in
    let no_cache = sym (flag (codes "no-cache") refl ms ds k h) in
    let is_private = sym (flag (codes "private") refl ms ds k h) in
    let proxy_revalidate = sym (flag (codes "proxy-revalidate") refl ms ds k h) in
    let must_understand = sym (permit (codes "must-understand") refl ms ds k h x) in
    let is_public = sym (permit (codes "public") refl ms ds k h y) in
    let invalid_age = valid_age ∙ sym a in
    let invalid_shared = valid_shared ∙ sym s in
    (λ i.
    record {
      policy =
          record {
            max_age = age i;
            s_maxage = shared i;
            must_revalidate = must_revalidate i;
            no_store = no_store i;
            no_cache = no_cache i;
            is_private = is_private i;
          };
      invalid_max_age = invalid_age i;
      invalid_s_maxage = invalid_shared i;
      proxy_revalidate = proxy_revalidate i;
      must_understand = must_understand i;
      is_public = is_public i;
    })

kept : (k : List ℕ) (ms : Map Member) → violates (constrained always_true (value_of k ms)) ≡ false
    → violates (constrained always_true (value_at k ms)) ≡ false
kept k ms v = ap (λ o. violates (constrained always_true o)) (sym (found k ms)) ∙ v

pub semantics_agree : SemanticsAgree
semantics_agree d ms ds s valid h a m x y =
    let r = rules (record { members = ms }) in
    let same : cache_rules ds ≡ sat r =
    rules_are ms ds (keys_are d ms valid.0) valid.1 h (invalid_is (codes "max-age") ms ∙ a)
    (invalid_is (codes "s-maxage") ms ∙ m) (kept (codes "must-understand") ms x)
    (kept (codes "public") ms y) in
    sym (ap (λ q. reuse_of (if s.understands then understood q else q) (kind_of s.shared)
    s.expires s.age) same ∙ same_use s.understands r (kind_of s.shared) s.expires s.age)
