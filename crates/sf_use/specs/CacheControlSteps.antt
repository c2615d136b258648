-- The steps by which a text of Cache-Control is read: what each function of `src/cache_control.rt`
-- returns.
use Rattle.std.specs.Prelude.{◌≡◌, ℕ, ◌+◌, ◌-◌, ◌*◌, Bool, true, false, ◌==◌, ◌||◌, codes}
use Rattle.std.specs.Prelude.{if◌then◌else◌, List, [], ◌∷◌, drop, take, Option, Some, None, is_none}
use Rattle.std.specs.List.{prefix_len}
use Rattle.std.specs.Str.{str_eq_ignore_ascii_case}
use Rattle.sf_value.specs.Ascii.{quote, equals, backslash, digit_zero}
use Rattle.sf_value.specs.Grammar.Classes.{is_digit, is_ows, is_tchar}
use Rattle.sf_use.specs.declared.caching.CacheRules.{CacheRules}
use Rattle.sf_use.specs.declared.cache_control.Delta.{Delta}
use Rattle.sf_use.specs.declared.cache_control.Delta.TheVariants.{Empty, Seconds, Other}
use Rattle.sf_use.specs.Caching.{saturated}
use Rattle.sf_use.specs.CacheControl.{CacheDirective, SpellsElements, directives, is_qdtext}
use Rattle.sf_use.specs.CacheControl.{is_quotable, is_value, seconds_of}

-- the longest prefix whose bytes pass the test, and what is after it
abbrev pub run_of : (ℕ → Bool) → List ℕ → List ℕ
run_of p t = take (prefix_len p t) t

abbrev pub after_run : (ℕ → Bool) → List ℕ → List ℕ
after_run p t = drop (prefix_len p t) t

-- the bytes of a value as seconds, with one more digit, and with one more byte
abbrev pub with_digit : Delta → ℕ → Delta
with_digit Empty n = Seconds (saturated n)
with_digit (Seconds m) n = Seconds (saturated (10 * m + n))
with_digit Other n = Other

abbrev pub with_byte : Delta → ℕ → Delta
with_byte d b = if is_digit b then with_digit d (b - digit_zero) else Other

abbrev pub with_bytes : Delta → List ℕ → Delta
with_bytes d [] = d
with_bytes d (b ∷ t) = with_bytes (with_byte d b) t

abbrev pub delta_seconds_of : Delta → Option ℕ
delta_seconds_of Empty = None
delta_seconds_of (Seconds n) = Some n
delta_seconds_of Other = None

-- after the opening quote, and perhaps after a backslash: the value, and what is after the closing
-- quote
abbrev pub quoted_at : Bool → Delta → List ℕ → Option (Delta × List ℕ)
quoted_at escaped d [] = None
quoted_at true d (b ∷ t) =
    if is_quotable b then quoted_at false (with_byte d b) t else None
quoted_at false d (b ∷ t) =
    if b == quote then Some (d, t)
    else (if b == backslash then quoted_at true d t
    else (if is_qdtext b then quoted_at false (with_byte d b) t else None))

-- a token that is not empty
abbrev pub token_at : List ℕ → List ℕ → Option (Delta × List ℕ)
token_at [] rest = None
token_at (b ∷ token) rest = Some (with_bytes Empty (b ∷ token), rest)

-- after the equals sign
abbrev pub value_at : List ℕ → Option (Delta × List ℕ)
value_at [] = None
value_at (b ∷ t) =
    if b == quote then quoted_at false Empty t
    else token_at (run_of is_tchar (b ∷ t)) (after_run is_tchar (b ∷ t))

-- after the name
abbrev pub argument_at : List ℕ → Option (Delta × List ℕ)
argument_at [] = Some (Empty, [])
argument_at (b ∷ t) = if b == equals then value_at t else Some (Empty, b ∷ t)

-- the seconds of a directive after one more of its name, by what they were and whether they were
-- invalid
abbrev pub one_more : Option ℕ → Bool → Option ℕ → Option ℕ
one_more was true next = None
one_more None false next = next
one_more (Some n) false next = if is_value n next then Some n else None

abbrev pub seconds_with : Bool → Option ℕ → Bool → Option ℕ → Option ℕ
seconds_with named was invalid next = if named then one_more was invalid next else was

abbrev pub invalid_with : Bool → Option ℕ → Bool → Option ℕ → Bool
invalid_with named was invalid next =
    if named then is_none (one_more was invalid next) else invalid

abbrev pub is_name : List ℕ → List ℕ → Bool
is_name name text = str_eq_ignore_ascii_case text name

-- the rules after one more directive
unfoldable pub rules_with : CacheRules → List ℕ → Option ℕ → CacheRules
rules_with r name s = record {
  policy = record {
    max_age =
        seconds_with (is_name (codes "max-age") name) r.policy.max_age r.invalid_max_age s;
    s_maxage =
        seconds_with (is_name (codes "s-maxage") name) r.policy.s_maxage r.invalid_s_maxage s;
    must_revalidate = r.policy.must_revalidate || is_name (codes "must-revalidate") name;
    no_store = r.policy.no_store || is_name (codes "no-store") name;
    no_cache = r.policy.no_cache || is_name (codes "no-cache") name;
    is_private = r.policy.is_private || is_name (codes "private") name;
  };
  invalid_max_age =
      invalid_with (is_name (codes "max-age") name) r.policy.max_age r.invalid_max_age s;
  invalid_s_maxage =
      invalid_with (is_name (codes "s-maxage") name) r.policy.s_maxage r.invalid_s_maxage s;
  proxy_revalidate = r.proxy_revalidate || is_name (codes "proxy-revalidate") name;
  must_understand = r.must_understand || is_name (codes "must-understand") name;
  is_public = r.is_public || is_name (codes "public") name;
}

-- after the name: the rules with the directive, and what is after it and its white space
abbrev pub with_argument : CacheRules → List ℕ → Option (Delta × List ℕ)
    → Option (CacheRules × List ℕ)
with_argument r name None = None
with_argument r name (Some (d, t)) =
    Some (rules_with r name (delta_seconds_of d), after_run is_ows t)

abbrev pub named_at : CacheRules → List ℕ → List ℕ → Option (CacheRules × List ℕ)
named_at r [] t = Some (r, t)
named_at r (b ∷ name) t = with_argument r (b ∷ name) (argument_at t)

-- an element, without white space before it, and with it
abbrev pub begun_at : CacheRules → List ℕ → Option (CacheRules × List ℕ)
begun_at r t = named_at r (run_of is_tchar t) (after_run is_tchar t)

abbrev pub element_at : CacheRules → List ℕ → Option (CacheRules × List ℕ)
element_at r t = begun_at r (after_run is_ows t)

-- the rules after more directives
abbrev pub with_directive : CacheRules → CacheDirective → CacheRules
with_directive r d = rules_with r d.name (seconds_of d)

abbrev pub with_directives : CacheRules → List CacheDirective → CacheRules
with_directives r [] = r
with_directives r (d ∷ ds) = with_directives (with_directive r d) ds

-- the rules after the directives of a text; None if it is no list of directives
abbrev pub ReadsFrom : CacheRules → List ℕ → Option CacheRules → Type 0
ReadsFrom r t None = (es : List (Option CacheDirective)) → SpellsElements t es → ⊥
ReadsFrom r t (Some q) =
    (es : List (Option CacheDirective))
    × SpellsElements t es
    × (q ≡ with_directives r (directives es))
