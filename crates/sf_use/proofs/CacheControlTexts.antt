-- Texts of Cache-Control, element by element.
use Rattle.std.proofs.Common.{◌≡◌, ◌≢◌, ℕ, ◌+◌, ◌<◌, ◌≤◌, Bool, true, false, List, [], ◌∷◌, ◌++◌}
use Rattle.std.proofs.Common.{Option, Some, None, refl, sym, ap, subst, ◌∙◌, arith, length}
use Rattle.std.proofs.Common.{length-append}
use Rattle.std.proofs.lemmas.List.{append-nil}
use Rattle.sf_value.specs.Ascii.{comma}
use Rattle.sf_use.specs.declared.caching.CacheRules.{CacheRules}
use Rattle.sf_use.specs.CacheControl.{CacheDirective, SpellsCacheControl, SpellsElement, SpellsElements}
use Rattle.sf_use.specs.CacheControl.{directives}
use Rattle.sf_use.specs.CacheControlSteps.{ReadsFrom, element_at, with_directives}
use Rattle.sf_use.proofs.CacheControlElements.{Element, Ends, element_found, element_reads}
use Rattle.sf_use.proofs.CacheControlElements.{with_element}
use Rattle.sf_use.proofs.CacheControlRuns.{not_nil, some_pair}

-- the last element is read to the end
last_reads : (r : CacheRules) (t : List ℕ) (e : Option CacheDirective) → SpellsElement t e
    → element_at r t ≡ Some (with_element r e, [])
last_reads r t e h = ap (element_at r) (sym (append-nil t)) ∙ element_reads r t e [] h tt

-- the rules with an element first
with_first : (r : CacheRules) (e : Option CacheDirective) (es : List (Option CacheDirective))
    → with_directives (with_element r e) (directives es) ≡ with_directives r (directives (e ∷ es))
with_first r None es = refl
with_first r (Some d) es = refl

-- what is after the first element of a text that is read
record First (r : CacheRules) (t : List ℕ) : Type 0 where
  pub rules : CacheRules
  pub rest : List ℕ
  pub ends : Ends rest
  pub read : element_at r t ≡ Some (rules, rest)

first_of_elements : (r : CacheRules) (t : List ℕ) (es : List (Option CacheDirective))
    → SpellsElements t es → First r t
first_of_elements r t [] h = absurd h
first_of_elements r t (e ∷ []) h =
    record { rules = with_element r e; rest = []; ends = tt; read = last_reads r t e h }
first_of_elements r t (e ∷ f ∷ es) (first, rest, split, spelled, more) =
    record {
      rules = with_element r e;
      rest = comma ∷ rest;
      ends = refl;
      read = ap (element_at r) split ∙ element_reads r first e (comma ∷ rest) spelled refl;
    }

pub reads_none : (r : CacheRules) (t : List ℕ) → element_at r t ≡ None → ReadsFrom r t None
reads_none r t n es h = let f = first_of_elements r t es h in
    let e : None ≡ Some (f.rules, f.rest) = sym n ∙ f.read in
    absurd cc

pub reads_other : (r : CacheRules) (t : List ℕ) (q : CacheRules) (b : ℕ) (rest : List ℕ)
    → element_at r t ≡ Some (q, b ∷ rest) → b ≢ comma → ReadsFrom r t None
reads_other r t q b rest n other es h = let f = first_of_elements r t es h in
    let e : Some (q, b ∷ rest) ≡ Some (f.rules, f.rest) = sym n ∙ f.read in
    let pair = some_pair q f.rules (b ∷ rest) f.rest e in
    absurd (other (subst Ends (sym pair.1) f.ends))

pub reads_end : (r : CacheRules) (t : List ℕ) (q : CacheRules) → element_at r t ≡ Some (q, [])
    → ReadsFrom r t (Some q)
reads_end r t q h = let m = element_found r t q [] h in
    let whole : t ≡ m.first = m.split ∙ append-nil m.first in (
      m.element ∷ [],
      subst (λ s. SpellsElement s m.element) (sym whole) m.spelled,
      m.rules ∙ with_first r m.element [],
    )

-- a text goes on with more elements after its first
go_on : (first rest : List ℕ) (e : Option CacheDirective) (es : List (Option CacheDirective))
    → SpellsElement first e → SpellsElements rest es
    → SpellsElements (first ++ comma ∷ rest) (e ∷ es)
go_on first rest e [] h more = absurd more
go_on first rest e (f ∷ es) h more = (first, rest, refl, h, more)

-- the elements after the first comma
not_after : (r q : CacheRules) (t rest : List ℕ) → element_at r t ≡ Some (q, comma ∷ rest)
    → ReadsFrom q rest None → (es : List (Option CacheDirective)) → SpellsElements t es → ⊥
not_after r q t rest h none [] spelled = spelled
not_after r q t rest h none (e ∷ []) spelled =
    let pair = some_pair (with_element r e) q [] (comma ∷ rest)
    (sym (last_reads r t e spelled) ∙ h) in
    not_nil comma rest pair.1
not_after r q t rest h none (e ∷ f ∷ es) (first, left, split, one, more) =
    let read : element_at r t ≡ Some (with_element r e, comma ∷ left) =
    ap (element_at r) split ∙ element_reads r first e (comma ∷ left) one refl in
    let found : Some (with_element r e, comma ∷ left) ≡ Some (q, comma ∷ rest) = sym read ∙ h in
    let pair = some_pair (with_element r e) q (comma ∷ left) (comma ∷ rest) found in
    let ends : comma ∷ left ≡ comma ∷ rest = pair.1 in
    let same : left ≡ rest = cc in
    none (f ∷ es) (subst (λ s. SpellsElements s (f ∷ es)) same more)

pub reads_more : (r q : CacheRules) (t rest : List ℕ) (o : Option CacheRules)
    → element_at r t ≡ Some (q, comma ∷ rest) → ReadsFrom q rest o → ReadsFrom r t o
reads_more r q t rest None h none = not_after r q t rest h none
reads_more r q t rest (Some p) h (es, spelled, same) =
    let m = element_found r t q (comma ∷ rest) h in (
      m.element ∷ es,
      subst (λ s. SpellsElements s (m.element ∷ es)) (sym m.split)
          (go_on m.first rest m.element es m.spelled spelled),
      same
          ∙ ap (λ x. with_directives x (directives es)) m.rules
          ∙ with_first r m.element es,
    )

-- what is left is shorter
pub left_is_shorter : (r q : CacheRules) (t rest : List ℕ) (b : ℕ)
    → element_at r t ≡ Some (q, b ∷ rest) → length rest < length t
left_is_shorter r q t rest b h =
    let m = element_found r t q (b ∷ rest) h in
    let long : length t ≡ length m.first + length (b ∷ rest) =
    ap length m.split ∙ length-append m.first (b ∷ rest) in
    omega (arith, long)

-- two lists of elements that one text spells have the same rules
pub one_reading : (r : CacheRules) (t : List ℕ) (es fs : List (Option CacheDirective))
    → SpellsElements t es → SpellsElements t fs
    → with_directives r (directives es) ≡ with_directives r (directives fs)
one_reading r t [] fs h k = absurd h
one_reading r t (e ∷ es) [] h k = absurd k
one_reading r t (e ∷ []) (f ∷ []) h k =
    let both : Some (with_element r e, []) ≡ Some (with_element r f, []) =
    sym (last_reads r t e h) ∙ last_reads r t f k in
    let pair = some_pair (with_element r e) (with_element r f) [] [] both in
    sym (with_first r e []) ∙ pair.0 ∙ with_first r f []
one_reading r t (e ∷ []) (f ∷ g ∷ fs) h (first, rest, split, one, more) =
    let pair = some_pair (with_element r e) (with_element r f) [] (comma ∷ rest)
    (sym (last_reads r t e h) ∙ ap (element_at r) split
    ∙ element_reads r first f (comma ∷ rest) one refl) in
    absurd (not_nil comma rest pair.1)
one_reading r t (e ∷ g ∷ es) (f ∷ []) (first, rest, split, one, more) k =
    let pair = some_pair (with_element r f) (with_element r e) [] (comma ∷ rest)
    (sym (last_reads r t f k) ∙ ap (element_at r) split
    ∙ element_reads r first e (comma ∷ rest) one refl) in
    absurd (not_nil comma rest pair.1)
one_reading r t (e ∷ g ∷ es) (f ∷ h ∷ fs) (first, rest, split, one, more)
    (start, left, cut, other, others) =
    let both : Some (with_element r e, comma ∷ rest) ≡ Some (with_element r f, comma ∷ left) =
    sym (element_reads r first e (comma ∷ rest) one refl)
    ∙ ap (element_at r) (sym split ∙ cut)
    ∙ element_reads r start f (comma ∷ left) other refl in
    let pair = some_pair (with_element r e) (with_element r f) (comma ∷ rest) (comma ∷ left) both in
    let same : with_element r e ≡ with_element r f = pair.0 in
    let both_rest : comma ∷ rest ≡ comma ∷ left = pair.1 in
    let ends : rest ≡ left = cc in
    sym (with_first r e (g ∷ es))
    ∙ one_reading (with_element r e) rest (g ∷ es) (h ∷ fs) more
    (subst (λ s. SpellsElements s (h ∷ fs)) (sym ends) others)
    ∙ ap (λ q. with_directives q (directives (h ∷ fs))) same
    ∙ with_first r f (h ∷ fs)

-- the same, of what is after an element
pub reads_to_end : (r q : CacheRules) (t after : List ℕ) → element_at r t ≡ Some (q, after)
    → length after ≡ 0 → ReadsFrom r t (Some q)
reads_to_end r q t [] h e = reads_end r t q h
reads_to_end r q t (b ∷ after) h e = absurd (omega arith)

next_is : (r q : CacheRules) (t after rest : List ℕ) (b : ℕ) → element_at r t ≡ Some (q, after)
    → after ≡ b ∷ rest → element_at r t ≡ Some (q, b ∷ rest)
next_is r q t after rest b h e = h ∙ ap (λ s. Some (q, s)) e

pub reads_on : (r q : CacheRules) (t after rest : List ℕ) (b : ℕ) (o : Option CacheRules)
    → element_at r t ≡ Some (q, after) → after ≡ b ∷ rest → b ≡ comma → ReadsFrom q rest o
    → ReadsFrom r t o
reads_on r q t after rest b o h e c more =
    reads_more r q t rest o (next_is r q t after rest b h e ∙ ap (λ x. Some (q, x ∷ rest)) c) more

pub reads_off : (r q : CacheRules) (t after rest : List ℕ) (b : ℕ)
    → element_at r t ≡ Some (q, after) → after ≡ b ∷ rest → b ≢ comma → ReadsFrom r t None
reads_off r q t after rest b h e n = reads_other r t q b rest (next_is r q t after rest b h e) n

pub reads_less : (r q : CacheRules) (t after rest : List ℕ) (b : ℕ)
    → element_at r t ≡ Some (q, after) → after ≡ b ∷ rest → length rest < length t
reads_less r q t after rest b h e = left_is_shorter r q t rest b (next_is r q t after rest b h e)
