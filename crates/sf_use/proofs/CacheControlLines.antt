-- The lines of Cache-Control, which are one list of directives when they are joined.
use Rattle.std.proofs.Common.{◌≡◌, ℕ, List, [], ◌∷◌, ◌++◌, Option, Some, None, refl, sym, ap}
use Rattle.std.proofs.Common.{subst, ◌∙◌, append_assoc, inl, inr}
use Rattle.std.specs.Prelude.{codes, unwrap_or, MatchOption}
use Rattle.std.proofs.lemmas.List.{append-nil}
use Rattle.sf_value.specs.Ascii.{comma, space}
use Rattle.sf_value.specs.Grammar.Lines.{join}
use Rattle.sf_use.specs.declared.caching.CacheRules.{CacheRules}
use Rattle.sf_field.specs.Headers.{Headers, lines_under}
use Rattle.sf_use.specs.CacheControl.{AreNoCacheControl, CacheDirective, HaveCacheRules}
use Rattle.sf_use.specs.CacheControl.{IsFallback, IsNoCacheControl, refused_rules}
use Rattle.sf_use.specs.CacheControl.{SpellsCacheControl, SpellsCacheControlLines, SpellsElement}
use Rattle.sf_use.specs.CacheControl.{SpellsElements, cache_rules, directives}
use Rattle.sf_use.specs.CacheControlLaws.{LinesAreOneList, OneMeaning}
use Rattle.sf_use.specs.CacheControlSteps.{ReadsFrom, with_directive, with_directives}
use Rattle.sf_use.proofs.CacheControlRules.{rules_after, rules_of_all}
use Rattle.sf_use.proofs.CacheControlTexts.{one_reading}

-- the rules after the directives of lines; None if one is no list of directives
abbrev pub ReadsLines : CacheRules → List (List ℕ) → Option CacheRules → Type 0
ReadsLines r lines None = (ds : List CacheDirective) → SpellsCacheControlLines lines ds → ⊥
ReadsLines r lines (Some q) =
    (ds : List CacheDirective)
    × SpellsCacheControlLines lines ds
    × (q ≡ with_directives r ds)

with_both : (ds es : List CacheDirective) (r : CacheRules)
    → with_directives r (ds ++ es) ≡ with_directives (with_directives r ds) es
with_both [] es r = refl
with_both (d ∷ ds) es r = with_both ds es (with_directive r d)

pub no_line : (r : CacheRules) (line : List ℕ) (lines : List (List ℕ)) → ReadsFrom r line None
    → ReadsLines r (line ∷ lines) None
no_line r line lines none ds (es, fs, (parts, spelled, e), more, same) = none parts spelled

pub last_line : (r : CacheRules) → ReadsLines r [] (Some r)
last_line r = ([], refl, refl)

pub more_lines : (r q : CacheRules) (line : List ℕ) (lines : List (List ℕ)) (o : Option CacheRules)
    → ReadsFrom r line (Some q) → ReadsLines q lines o → ReadsLines r (line ∷ lines) o
more_lines r q line lines None read none = λ ds (es, fs, first, more, same). none fs more
more_lines r q line lines (Some p) (parts, spelled, same) (fs, more, is) = (
  directives parts ++ fs,
  (directives parts, fs, (parts, spelled, refl), more, refl),
  is ∙ ap (λ x. with_directives x fs) same ∙ sym (with_both (directives parts) fs r),
)

-- what is read, as the contracts say it
pub read_lines : (r : CacheRules) (lines : List (List ℕ)) → ReadsLines (cache_rules []) lines (Some r)
    → HaveCacheRules lines r
read_lines r lines (ds, spelled, same) = (ds, spelled, same ∙ rules_of_all ds)

-- one more line after others
line_more : (lines : List (List ℕ)) (line : List ℕ) (ds es : List CacheDirective)
    → SpellsCacheControlLines lines ds → SpellsCacheControl line es
    → SpellsCacheControlLines (lines ++ line ∷ []) (ds ++ es)
line_more [] line ds es none spelled =
    (es, [], spelled, refl, ap (λ s. s ++ es) none ∙ sym (append-nil es))
line_more (first ∷ lines) line ds es (fs, gs, one, more, same) spelled = (
  fs,
  gs ++ es,
  one,
  line_more lines line gs es more spelled,
  ap (λ s. s ++ es) same ∙ append_assoc fs gs es,
)

pub as_more : (lines : List (List ℕ)) (line : List ℕ) (r : CacheRules) (o : Option CacheRules)
    → ReadsFrom r line o → HaveCacheRules lines r
    → MatchOption o (IsNoCacheControl line) (HaveCacheRules (lines ++ line ∷ []))
as_more lines line r None none have = λ ds (es, spelled, same). none es spelled
as_more lines line r (Some q) (es, spelled, same) (ds, listed, is) = (
  ds ++ directives es,
  line_more lines line ds (directives es) listed (es, spelled, refl),
  same ∙ ap (λ s. with_directives s (directives es)) is ∙ rules_after ds (directives es),
)

pub one_meaning : OneMeaning
one_meaning t ds es (parts, spelled, e) (others, spelling, f) =
    ap cache_rules e
    ∙ sym (rules_of_all (directives parts))
    ∙ one_reading (cache_rules []) t parts others spelled spelling
    ∙ rules_of_all (directives others)
    ∙ ap cache_rules (sym f)

-- one more element, and white space, before a list
element_after_space : (t : List ℕ) (e : Option CacheDirective) → SpellsElement t e
    → SpellsElement (space ∷ t) e
element_after_space t None h = (refl, h)
element_after_space t (Some d) (before, body, after, e, b, a, spelled) =
    (space ∷ before, body, after, ap (λ s. space ∷ s) e, (refl, b), a, spelled)

after_space : (t : List ℕ) (es : List (Option CacheDirective)) → SpellsElements t es
    → SpellsElements (space ∷ t) es
after_space t [] h = h
after_space t (e ∷ []) h = element_after_space t e h
after_space t (e ∷ f ∷ es) (first, rest, split, one, more) =
    (space ∷ first, rest, ap (λ s. space ∷ s) split, element_after_space first e one, more)

-- a list after a list
both_lists : (t u : List ℕ) (es fs : List (Option CacheDirective)) → SpellsElements t es
    → SpellsElements u fs → SpellsElements (t ++ comma ∷ u) (es ++ fs)
both_lists t u [] fs h k = absurd h
both_lists t u (e ∷ es) [] h k = absurd k
both_lists t u (e ∷ []) (f ∷ fs) h k = (t, u, refl, h, k)
both_lists t u (e ∷ g ∷ es) (f ∷ fs) (first, rest, split, one, more) k = (
  first,
  rest ++ comma ∷ u,
  ap (λ s. s ++ comma ∷ u) split ∙ append_assoc first (comma ∷ rest) (comma ∷ u),
  one,
  both_lists rest u (g ∷ es) (f ∷ fs) more k,
)

both_directives : (es fs : List (Option CacheDirective))
    → directives (es ++ fs) ≡ directives es ++ directives fs
both_directives [] fs = refl
both_directives (None ∷ es) fs = both_directives es fs
both_directives (Some d ∷ es) fs = ap (λ ds. d ∷ ds) (both_directives es fs)

pub lines_are_one_list : LinesAreOneList
lines_are_one_list [] ds h = (None ∷ [], tt, h)
lines_are_one_list (line ∷ []) ds (es, fs, (parts, spelled, e), none, same) = (
  parts,
  spelled,
  same ∙ ap (λ s. es ++ s) none ∙ append-nil es ∙ e,
)
lines_are_one_list (line ∷ next ∷ lines) ds (es, fs, (parts, spelled, e), more, same) =
    let (others, spelling, f) = lines_are_one_list (next ∷ lines) fs more in (
      parts ++ others,
      both_lists line (space ∷ join (next ∷ lines)) parts others spelled
          (after_space (join (next ∷ lines)) others spelling),
      same ∙ ap (λ s. s ++ fs) e ∙ ap (λ s. directives parts ++ s) f
          ∙ sym (both_directives parts others),
    )

-- the rules of a response, of lines that were read
pub as_fallback : (headers : Headers) (o : Option CacheRules)
    → MatchOption o (AreNoCacheControl (lines_under headers (codes "cache-control")))
    (HaveCacheRules (lines_under headers (codes "cache-control")))
    → IsFallback headers (unwrap_or o refused_rules)
as_fallback headers None none = inr (none, refl)
as_fallback headers (Some r) have = inl have

-- the same, of the lines that are left
pub no_lines_left : (r : CacheRules) (lines : List (List ℕ)) → lines ≡ []
    → ReadsLines r lines (Some r)
no_lines_left r lines e = subst (λ ls. ReadsLines r ls (Some r)) (sym e) (last_line r)

pub bad_line : (r : CacheRules) (line : List ℕ) (lines all : List (List ℕ)) → all ≡ line ∷ lines
    → ReadsFrom r line None → ReadsLines r all None
bad_line r line lines all e none =
    subst (λ ls. ReadsLines r ls None) (sym e) (no_line r line lines none)

pub good_line : (r q : CacheRules) (line : List ℕ) (lines all : List (List ℕ))
    (o : Option CacheRules) → all ≡ line ∷ lines → ReadsFrom r line (Some q)
    → ReadsLines q lines o → ReadsLines r all o
good_line r q line lines all o e read more =
    subst (λ ls. ReadsLines r ls o) (sym e) (more_lines r q line lines o read more)

pub lines_as_read : (lines : List (List ℕ)) (o : Option CacheRules)
    → ReadsLines (cache_rules []) lines o
    → MatchOption o (AreNoCacheControl lines) (HaveCacheRules lines)
lines_as_read lines None none = none
lines_as_read lines (Some r) have = read_lines r lines have
