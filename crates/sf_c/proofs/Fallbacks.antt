-- Cache-Control, line by line.
use Rattle.std.proofs.Common.{◌≡◌, ℕ, Bool, true, false, ◌==◌, not, List as Seq, [], ◌∷◌, ◌++◌}
use Rattle.std.proofs.Common.{Option, Some, None, refl, sym, subst, inl, inr}
use Rattle.std.specs.Prelude.{◌≢◌, is_some, unwrap_or}
use Rattle.sf_use.specs.declared.caching.CacheRules.{CacheRules}
use Rattle.sf_use.specs.declared.targeted.Policy.{Policy}
use Rattle.sf_use.specs.CacheControl.{AreNoCacheControl, HaveCacheRules, IsNoCacheControl}
use Rattle.sf_use.specs.CacheControl.{refused_rules}
use Rattle.sf_c.specs.declared.fallback.Fallback.{Fallback}
use Rattle.sf_c.specs.declared.cache_rules.RulesFlags.{RulesFlags}
use Rattle.sf_c.specs.declared.cache_control.PolicyFlags.{PolicyFlags}
use Rattle.sf_c.specs.Fallbacks.{HasDirectives, TakesLine}
use Rattle.sf_c.specs.Policies.{SaysPolicy, policy_by, seconds_at}
use Rattle.sf_c.specs.Refusals.{flag_number}
use Rattle.sf_c.specs.Rules.{SaysRules, rules_by}

-- what a number of a struct says
flag_said : (n : ℕ) (b : Bool) → n ≡ flag_number b → not (n == 0) ≡ b
flag_said n true h = rw h refl
flag_said n false h = rw h refl

seconds_said : (says n : ℕ) (x : Option ℕ) → says ≡ flag_number (is_some x) → n ≡ unwrap_or x 0
    → seconds_at says n ≡ x
seconds_said says n (Some m) h k = rw (h, k) refl
seconds_said says n None h k = rw h refl

abbrev policy : Option ℕ → Option ℕ → Bool → Bool → Bool → Bool → Policy
policy m s a b c d = record {
  max_age = m;
  s_maxage = s;
  must_revalidate = a;
  no_store = b;
  no_cache = c;
  is_private = d;
}

policy_said : (p : PolicyFlags) (q : Policy) → SaysPolicy p q → policy_by p ≡ q
policy_said p q (m, s, hm, hs, a, b, c, d) = λ i.
    policy (seconds_said p.has_max_age p.max_age q.max_age hm m i)
    (seconds_said p.has_s_maxage p.s_maxage q.s_maxage hs s i)
    (flag_said p.must_revalidate q.must_revalidate a i)
    (flag_said p.no_store q.no_store b i)
    (flag_said p.no_cache q.no_cache c i)
    (flag_said p.is_private q.is_private d i)

abbrev rules : Policy → Bool → Bool → Bool → Bool → Bool → CacheRules
rules p a b c d e = record {
  policy = p;
  invalid_max_age = a;
  invalid_s_maxage = b;
  proxy_revalidate = c;
  must_understand = d;
  is_public = e;
}

-- the directives of a struct are those that were put into it
pub rules_said : (n : RulesFlags) (r : CacheRules) → SaysRules n r → rules_by n ≡ r
rules_said n r (p, a, b, c, d, e) = λ i.
    rules (policy_said n.policy r.policy p i)
    (flag_said n.invalid_max_age r.invalid_max_age a i)
    (flag_said n.invalid_s_maxage r.invalid_s_maxage b i)
    (flag_said n.proxy_revalidate r.proxy_revalidate c i)
    (flag_said n.must_understand r.must_understand d i)
    (flag_said n.is_public r.is_public e i)

-- lines that are no list of directives, with one more
none_more : (lines : Seq (Seq ℕ)) (line : Seq ℕ) → AreNoCacheControl lines
    → AreNoCacheControl (lines ++ line ∷ [])
none_more [] line none ds spelled = absurd (none [] refl)
none_more (first ∷ lines) line none ds (es, fs, one, more, same) =
    none_more lines line (λ gs g. none (es ++ gs) (es, gs, one, g, refl)) fs more

-- lines with one more that is none
more_none : (lines : Seq (Seq ℕ)) (line : Seq ℕ) → IsNoCacheControl line
    → AreNoCacheControl (lines ++ line ∷ [])
more_none [] line none ds (es, fs, one, more, same) = none es one
more_none (first ∷ lines) line none ds (es, fs, one, more, same) =
    more_none lines line none fs more

-- the line is a list of directives
pub directives_more : (old new : Fallback) (line : Seq ℕ) (r : CacheRules) → old.is_refused ≡ 0
    → new.is_refused ≡ 0 → SaysRules new.rules r
    → ((lines : Seq (Seq ℕ)) → HaveCacheRules lines (rules_by old.rules)
    → HaveCacheRules (lines ++ line ∷ []) r)
    → TakesLine HasDirectives old new line
directives_more old new line r was is said reads lines (inl (zero, have)) =
    inl (
      is,
      subst (HaveCacheRules (lines ++ line ∷ [])) (sym (rules_said new.rules r said))
          (reads lines have),
    )
directives_more old new line r was is said reads lines (inr (refused, none, same)) =
    absurd (refused was)

-- it is none
pub directives_refused : (old new : Fallback) (line : Seq ℕ) → old.is_refused ≡ 0
    → new.is_refused ≢ 0 → SaysRules new.rules refused_rules
    → ((lines : Seq (Seq ℕ)) → HaveCacheRules lines (rules_by old.rules) → IsNoCacheControl line)
    → TakesLine HasDirectives old new line
directives_refused old new line was is said reads lines (inl (zero, have)) =
    inr (is, more_none lines line (reads lines have), rules_said new.rules refused_rules said)
directives_refused old new line was is said reads lines (inr (refused, none, same)) =
    absurd (refused was)

-- a line before it was none
pub still_refused : (old : Fallback) (line : Seq ℕ) → old.is_refused ≢ 0
    → TakesLine HasDirectives old old line
still_refused old line is lines (inl (zero, have)) = absurd (is zero)
still_refused old line is lines (inr (refused, none, same)) =
    inr (refused, none_more lines line none, same)
