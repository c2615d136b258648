-- The rules of a list of directives that is read one after another.
use Rattle.std.proofs.Common.{◌≡◌, ℕ, Bool, true, false, List, [], ◌∷◌, ◌++◌, Option, Some, None}
use Rattle.std.proofs.Common.{refl, sym, ap, ◌∙◌, codes}
use Rattle.std.specs.Prelude.{◌==◌, ◌&&◌, ◌||◌, if◌then◌else◌, map, filter, is_none, MatchOption}
use Rattle.std.specs.List.{list_all, list_any}
use Rattle.std.proofs.lemmas.List.{append_assoc, append-nil, map-append}
use Rattle.std.proofs.lemmas.List.Elements.{filter-append}
use Rattle.std.proofs.lemmas.List.Folds.{list_all-append, list_any-append}
use Rattle.sf_use.specs.declared.caching.CacheRules.{CacheRules}
use Rattle.sf_use.specs.declared.targeted.Policy.{Policy}
use Rattle.sf_use.specs.CacheControl.{CacheDirective, HasCacheRules, IsNoCacheControl, agreed}
use Rattle.sf_use.specs.CacheControl.{cache_rules, directives, disagree, is_named, is_present}
use Rattle.sf_use.specs.CacheControl.{is_value, seconds_of, values}
use Rattle.sf_use.specs.CacheControlSteps.{invalid_with, one_more, seconds_with, with_directive}
use Rattle.sf_use.specs.CacheControlSteps.{ReadsFrom, rules_with, with_directives}

-- one more value
agreed_more : (vs : List (Option ℕ)) (w : Option ℕ)
    → agreed (vs ++ w ∷ []) ≡ one_more (agreed vs) (disagree vs) w
agreed_more [] None = refl
agreed_more [] (Some n) = refl
agreed_more (None ∷ vs) w = refl
agreed_more (Some n ∷ vs) w =
    by (list_all (is_value n) vs) refl (is_value n w) refl
  where
    by : (x : Bool) → list_all (is_value n) vs ≡ x → (y : Bool) → is_value n w ≡ y
        → agreed (Some n ∷ (vs ++ w ∷ []))
        ≡ one_more (agreed (Some n ∷ vs)) (disagree (Some n ∷ vs)) w
    by true e true f = rw (list_all-append (is_value n) vs (w ∷ []), e, f) refl
    by true e false f = rw (list_all-append (is_value n) vs (w ∷ []), e, f) refl
    by false e y f = rw (list_all-append (is_value n) vs (w ∷ []), e) refl

disagree_more : (vs : List (Option ℕ)) (w : Option ℕ)
    → disagree (vs ++ w ∷ []) ≡ is_none (one_more (agreed vs) (disagree vs) w)
disagree_more [] w = ap is_none (agreed_more [] w)
disagree_more (v ∷ vs) w = ap is_none (agreed_more (v ∷ vs) w)

-- the values with one more directive
values_other : (name : List ℕ) (ds : List CacheDirective) (d : CacheDirective)
    → is_named name d ≡ false → values name (ds ++ d ∷ []) ≡ values name ds
values_other name ds d n =
    ap (map seconds_of) (filter-append (is_named name) ds (d ∷ []))
    ∙ rw n (ap (map seconds_of) (append-nil (filter (is_named name) ds)))

values_more : (name : List ℕ) (ds : List CacheDirective) (d : CacheDirective)
    → is_named name d ≡ true → values name (ds ++ d ∷ []) ≡ values name ds ++ seconds_of d ∷ []
values_more name ds d n =
    ap (map seconds_of) (filter-append (is_named name) ds (d ∷ []))
    ∙ rw n (map-append seconds_of (filter (is_named name) ds) (d ∷ []))

agreed_with_more : (name : List ℕ) (ds : List CacheDirective) (d : CacheDirective)
    → agreed (values name (ds ++ d ∷ []))
    ≡ seconds_with (is_named name d) (agreed (values name ds)) (disagree (values name ds))
    (seconds_of d)
agreed_with_more name ds d = by (is_named name d) refl
  where
    by : (x : Bool) → is_named name d ≡ x
        → agreed (values name (ds ++ d ∷ []))
        ≡ seconds_with (is_named name d) (agreed (values name ds)) (disagree (values name ds))
        (seconds_of d)
    by true e =
        ap agreed (values_more name ds d e)
        ∙ agreed_more (values name ds) (seconds_of d)
        ∙ ap (λ b. seconds_with b (agreed (values name ds)) (disagree (values name ds))
        (seconds_of d)) (sym e)
    by false e =
        ap agreed (values_other name ds d e)
        ∙ ap (λ b. seconds_with b (agreed (values name ds)) (disagree (values name ds))
        (seconds_of d)) (sym e)

disagree_with_more : (name : List ℕ) (ds : List CacheDirective) (d : CacheDirective)
    → disagree (values name (ds ++ d ∷ []))
    ≡ invalid_with (is_named name d) (agreed (values name ds)) (disagree (values name ds))
    (seconds_of d)
disagree_with_more name ds d = by (is_named name d) refl
  where
    by : (x : Bool) → is_named name d ≡ x
        → disagree (values name (ds ++ d ∷ []))
        ≡ invalid_with (is_named name d) (agreed (values name ds)) (disagree (values name ds))
        (seconds_of d)
    by true e =
        ap disagree (values_more name ds d e)
        ∙ disagree_more (values name ds) (seconds_of d)
        ∙ ap (λ b. invalid_with b (agreed (values name ds)) (disagree (values name ds))
        (seconds_of d)) (sym e)
    by false e =
        ap disagree (values_other name ds d e)
        ∙ ap (λ b. invalid_with b (agreed (values name ds)) (disagree (values name ds))
        (seconds_of d)) (sym e)

or_false : (x : Bool) → (x || false) ≡ x
or_false true = refl
or_false false = refl

present_with_more : (name : List ℕ) (ds : List CacheDirective) (d : CacheDirective)
    → is_present name (ds ++ d ∷ []) ≡ (is_present name ds || is_named name d)
present_with_more name ds d =
    list_any-append (is_named name) ds (d ∷ [])
    ∙ ap (λ b. is_present name ds || b) (or_false (is_named name d))

-- rules and policies are equal if their parts are
abbrev pub policy_by : Option ℕ → Option ℕ → Bool → Bool → Bool → Bool → Policy
policy_by m s a b c d = record {
  max_age = m;
  s_maxage = s;
  must_revalidate = a;
  no_store = b;
  no_cache = c;
  is_private = d;
}

abbrev pub rules_by : Policy → Bool → Bool → Bool → Bool → Bool → CacheRules
rules_by p a b c d e = record {
  policy = p;
  invalid_max_age = a;
  invalid_s_maxage = b;
  proxy_revalidate = c;
  must_understand = d;
  is_public = e;
}

pub same_policy : (m n s t : Option ℕ) (a b c d e f g h : Bool) → m ≡ n → s ≡ t → a ≡ e → b ≡ f
    → c ≡ g → d ≡ h → policy_by m s a b c d ≡ policy_by n t e f g h
same_policy m n s t a b c d e f g h i j k l o p = cc

pub same_rules : (p q : Policy) (a b c d e f g h i j : Bool) → p ≡ q → a ≡ f → b ≡ g → c ≡ h
    → d ≡ i → e ≡ j → rules_by p a b c d e ≡ rules_by q f g h i j
same_rules p q a b c d e f g h i j s t u v w x = cc

-- the rules of one more directive
rules_more : (ds : List CacheDirective) (d : CacheDirective)
    → cache_rules (ds ++ d ∷ []) ≡ with_directive (cache_rules ds) d
unfolding rules_with
rules_more ds d =
    same_rules _ _ _ _ _ _ _ _ _ _ _ _
    (same_policy _ _ _ _ _ _ _ _ _ _ _ _
    (agreed_with_more (codes "max-age") ds d)
    (agreed_with_more (codes "s-maxage") ds d)
    (present_with_more (codes "must-revalidate") ds d)
    (present_with_more (codes "no-store") ds d)
    (present_with_more (codes "no-cache") ds d)
    (present_with_more (codes "private") ds d))
    (disagree_with_more (codes "max-age") ds d)
    (disagree_with_more (codes "s-maxage") ds d)
    (present_with_more (codes "proxy-revalidate") ds d)
    (present_with_more (codes "must-understand") ds d)
    (present_with_more (codes "public") ds d)

pub rules_after : (ds es : List CacheDirective)
    → with_directives (cache_rules ds) es ≡ cache_rules (ds ++ es)
rules_after ds [] = ap cache_rules (sym (append-nil ds))
rules_after ds (e ∷ es) =
    ap (λ r. with_directives r es) (sym (rules_more ds e))
    ∙ rules_after (ds ++ e ∷ []) es
    ∙ ap cache_rules (append_assoc ds (e ∷ []) es)

pub rules_of_all : (es : List CacheDirective) → with_directives (cache_rules []) es ≡ cache_rules es
rules_of_all es = rules_after [] es

-- what is read from the first directive on, as the contracts say it
pub as_read : (t : List ℕ) (o : Option CacheRules) → ReadsFrom (cache_rules []) t o
    → MatchOption o (IsNoCacheControl t) (HasCacheRules t)
as_read t None none = λ ds (es, spelled, same). none es spelled
as_read t (Some r) (es, spelled, same) =
    (directives es, (es, spelled, refl), same ∙ rules_of_all (directives es))
