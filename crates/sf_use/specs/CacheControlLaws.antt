-- The laws of Cache-Control: its lines are one list, a text has one meaning, and a directive that
-- forbids something never makes a decision less strict. Each is the contract of a function in
-- `src/laws.rt`.
use Rattle.std.specs.Prelude.{◌≡◌, ℕ, Bool, true, ◌||◌, List, ◌∷◌, ◌++◌, codes, Option}
use Rattle.sf_value.specs.Grammar.Lines.{join}
use Rattle.sf_use.specs.declared.caching.CacheKind.{CacheKind}
use Rattle.sf_use.specs.declared.caching.Reuse.{Reuse}
use Rattle.sf_use.specs.declared.caching.Reuse.TheVariants as reuse
use Rattle.sf_use.specs.CacheControl.{CacheDirective, SpellsCacheControl, SpellsCacheControlLines}
use Rattle.sf_use.specs.CacheControl.{cache_rules, is_named}
use Rattle.sf_use.specs.CachingLaws.{reuse_of}

-- whatever lists of directives a text spells, their rules are the same
abbrev pub OneMeaning : Type 0
OneMeaning =
    (t : List ℕ) (ds es : List CacheDirective)
    → SpellsCacheControl t ds → SpellsCacheControl t es → cache_rules ds ≡ cache_rules es

-- lines that are each a list of directives are one list when they are joined (RFC 9110 section 5.3)
abbrev pub LinesAreOneList : Type 0
LinesAreOneList =
    (lines : List (List ℕ)) (ds : List CacheDirective)
    → SpellsCacheControlLines lines ds → SpellsCacheControl (join lines) ds

-- a directive that forbids something
abbrev pub forbids : CacheDirective → Bool
forbids d =
    is_named (codes "must-revalidate") d
    || (is_named (codes "no-store") d
    || (is_named (codes "no-cache") d
    || (is_named (codes "private") d
    || (is_named (codes "proxy-revalidate") d
    || is_named (codes "must-understand") d))))

-- the first use of a response is at most what the second one is: it is not stored, or never used
-- without validation, or the same
abbrev pub IsAsStrict : Reuse → Reuse → Type 0
IsAsStrict reuse.NotStored how = Unit {0}
IsAsStrict reuse.MustRevalidate reuse.NotStored = ⊥
IsAsStrict reuse.MustRevalidate how = Unit {0}
IsAsStrict strict how = strict ≡ how

-- one more such directive, wherever it is in the list, never makes a decision less strict: "the
-- most restrictive directive should be honored" (RFC 9111 section 4.2.1)
abbrev pub ForbiddingIsAsStrict : Type 0
ForbiddingIsAsStrict =
    (before after : List CacheDirective) (d : CacheDirective)
    → forbids d ≡ true
    → (c : CacheKind) (other : Option ℕ) (age : ℕ)
    → IsAsStrict (reuse_of (cache_rules (before ++ d ∷ after)) c other age)
    (reuse_of (cache_rules (before ++ after)) c other age)
