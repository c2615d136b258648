-- The elements of the list that a text of Cache-Control begins with.
use Rattle.std.proofs.Common.{◌≡◌, ◌⊎◌, inl, inr, ℕ, Bool, true, false, List, [], ◌∷◌, ◌++◌}
use Rattle.std.proofs.Common.{Option, Some, None, refl, sym, ap, subst, ◌∙◌, arith, append_assoc}
use Rattle.std.proofs.Common.{eqb-true}
use Rattle.std.specs.Prelude.{◌==◌, if◌then◌else◌, option_and_then}
use Rattle.std.proofs.lemmas.List.{append-nil}
use Rattle.std.proofs.lemmas.Bool.Decides.{nat_tests}
use Rattle.sf_value.specs.Ascii.{tab, space, quote, comma, equals}
use Rattle.sf_value.specs.Grammar.Classes.{is_ows, is_tchar}
use Rattle.sf_value.specs.Grammar.Words.{Every, IsWord}
use Rattle.sf_use.specs.declared.caching.CacheRules.{CacheRules}
use Rattle.sf_use.specs.declared.cache_control.Delta.{Delta}
use Rattle.sf_use.specs.declared.cache_control.Delta.TheVariants.{Empty}
use Rattle.sf_use.specs.CacheControl.{CacheDirective, IsToken, SpellsArgument, SpellsDirective}
use Rattle.sf_use.specs.CacheControl.{SpellsElement, SpellsQuoted, delta_seconds, seconds_of}
use Rattle.sf_use.specs.CacheControlSteps.{after_run, argument_at, begun_at, delta_seconds_of}
use Rattle.sf_use.specs.CacheControlSteps.{element_at, named_at, quoted_at, rules_with, run_of}
use Rattle.sf_use.specs.CacheControlSteps.{token_at, value_at, with_argument, with_bytes}
use Rattle.sf_use.specs.CacheControlSteps.{with_directive}
use Rattle.sf_use.proofs.CacheControlRuns.{Stops, after_run_append, after_run_stops, run_of_append}
use Rattle.sf_use.proofs.CacheControlRuns.{run_parts, run_passes, some_pair}
use Rattle.sf_use.proofs.CacheControlValues.{Quoted, is_other, quoted_found, quoted_reads}
use Rattle.sf_use.proofs.CacheControlValues.{seconds_of_bytes}

-- what may be after an element: the end, or a comma
abbrev pub Ends : List ℕ → Type 0
Ends [] = Unit {0}
Ends (b ∷ t) = b ≡ comma

-- the rules with an element, and the bytes of an argument as seconds
abbrev pub with_element : CacheRules → Option CacheDirective → CacheRules
with_element r None = r
with_element r (Some d) = with_directive r d

abbrev delta_of : Option (List ℕ) → Delta
delta_of None = Empty
delta_of (Some v) = with_bytes Empty v

delta_is : (o : Option (List ℕ)) → delta_seconds_of (delta_of o) ≡ option_and_then delta_seconds o
delta_is None = refl
delta_is (Some v) = seconds_of_bytes v

-- bytes of tokens, and white space
tchar_is : (b : ℕ) → is_tchar b ≡ true → ((b == quote) ≡ false) × (is_ows b ≡ false)
tchar_is b h = (
  is_other is_tchar quote b refl h,
  rw (is_other is_tchar space b refl h, is_other is_tchar tab b refl h) refl,
)

ows_is : (b : ℕ) → is_ows b ≡ true → (is_tchar b ≡ false) × ((b == equals) ≡ false)
ows_is b h = by (b == space) refl
  where
    is_blank : (c : ℕ) → b ≡ c → is_tchar c ≡ false → (c == equals) ≡ false
        → (is_tchar b ≡ false) × ((b == equals) ≡ false)
    is_blank c e t s = (ap is_tchar e ∙ t, ap (λ x. x == equals) e ∙ s)

    by : (x : Bool) → (b == space) ≡ x → (is_tchar b ≡ false) × ((b == equals) ≡ false)
    by true e = is_blank space (eqb-true b space e) refl refl
    by false e =
        let tabbed : (b == tab) ≡ true = rw e at h in
        is_blank tab (eqb-true b tab tabbed) refl refl

every_of_word : (p : ℕ → Bool) (t : List ℕ) → IsWord p p t → Every p t
every_of_word p [] h = absurd h
every_of_word p (b ∷ t) h = h

-- neither a token nor an equals sign goes on

record Follows (t : List ℕ) : Type 0 where
  pub token : Stops is_tchar t
  pub sign : Stops (λ b. b == equals) t

ends_stop : (t : List ℕ) → Ends t → Stops is_ows t
ends_stop [] e = tt
ends_stop (b ∷ t) e = rw e refl

follows : (after t : List ℕ) → Every is_ows after → Ends t → Follows (after ++ t)
follows [] [] h e = record { token = tt; sign = tt }
follows [] (b ∷ t) h e = record { token = rw e refl; sign = rw e refl }
follows (b ∷ after) t h e =
    let n = ows_is b h.0 in
    record { token = n.0; sign = n.1 }

-- a token, and then what does not go on with it
token_run : (p : ℕ → Bool) (v rest : List ℕ) → Every p v → Stops p rest
    → token_at (run_of p (v ++ rest)) (after_run p (v ++ rest)) ≡ token_at v rest
token_run p v rest h s = rw (run_of_append p v rest h s, after_run_append p v rest h s) refl

named_run : (p : ℕ → Bool) (r : CacheRules) (v rest : List ℕ) → Every p v → Stops p rest
    → named_at r (run_of p (v ++ rest)) (after_run p (v ++ rest)) ≡ named_at r v rest
named_run p r v rest h s = rw (run_of_append p v rest h s, after_run_append p v rest h s) refl

token_reads : (v rest : List ℕ) → IsToken v → Stops is_tchar rest
    → value_at (v ++ rest) ≡ Some (with_bytes Empty v, rest)
token_reads [] rest h s = absurd h
token_reads (b ∷ v) rest h s =
    let n = tchar_is b h.0 in
    let n0 : (b == quote) ≡ false = n.0 in
    rw n0 (token_run is_tchar (b ∷ v) rest h s)

quoted_value_reads : (u v rest : List ℕ) → SpellsQuoted u v
    → value_at (u ++ rest) ≡ Some (with_bytes Empty v, rest)
quoted_value_reads u v rest (t, e, chars) =
    rw (e, append_assoc t (quote ∷ []) rest) (quoted_reads Empty t v rest chars)

argument_reads : (u rest : List ℕ) (o : Option (List ℕ)) → SpellsArgument u o → Follows rest
    → argument_at (u ++ rest) ≡ Some (delta_of o, rest)
argument_reads u [] None h f = rw h refl
argument_reads u (b ∷ rest) None h f = rw h (let s : (b == equals) ≡ false = f.sign in rw s refl)
argument_reads u rest (Some v) (w, e, way) f = rw e (by way)
  where
    by : (((w ≡ v) × IsToken v) ⊎ SpellsQuoted w v)
        → value_at (w ++ rest) ≡ Some (with_bytes Empty v, rest)
    by (inl (same, token)) = rw same (token_reads v rest token f.token)
    by (inr quoted) = quoted_value_reads w v rest quoted

-- the argument of a directive does not go on with its name
argument_stops : (u rest : List ℕ) (o : Option (List ℕ)) → SpellsArgument u o → Follows rest
    → Stops is_tchar (u ++ rest)
argument_stops u rest None h f = rw h f.token
argument_stops u rest (Some v) (w, e, way) f = rw e refl

directive_with : (r : CacheRules) (name rest after t : List ℕ) (d : Delta) (s : Option ℕ)
    → IsToken name → argument_at rest ≡ Some (d, after ++ t) → delta_seconds_of d ≡ s
    → after_run is_ows (after ++ t) ≡ t
    → named_at r name rest ≡ Some (rules_with r name s, t)
directive_with r [] rest after t d s h a e o = absurd h
directive_with r (b ∷ name) rest after t d s h a e o = rw (a, e, o) refl

directive_reads : (r : CacheRules) (body : List ℕ) (d : CacheDirective) (after t : List ℕ)
    → SpellsDirective body d → Every is_ows after → Ends t
    → begun_at r (body ++ (after ++ t)) ≡ Some (with_directive r d, t)
directive_reads r body d after t (u, e, token, argument) h ends =
    let f = follows after t h ends in
    rw (e, append_assoc d.name u (after ++ t))
    (named_run is_tchar r d.name (u ++ (after ++ t)) (every_of_word is_tchar d.name token)
    (argument_stops u (after ++ t) d.argument argument f)
    ∙ directive_with r d.name (u ++ (after ++ t)) after t (delta_of d.argument) (seconds_of d)
    token (argument_reads u (after ++ t) d.argument argument f) (delta_is d.argument)
    (after_run_append is_ows after t h (ends_stop t ends)))

name_stops : (name rest : List ℕ) → IsToken name → Stops is_ows (name ++ rest)
name_stops [] rest h = absurd h
name_stops (b ∷ name) rest h = let n = tchar_is b h.0 in n.1

body_stops : (body rest : List ℕ) (d : CacheDirective) → SpellsDirective body d
    → Stops is_ows (body ++ rest)
body_stops body rest d (u, e, token, argument) =
    rw (e, append_assoc d.name u rest) (name_stops d.name (u ++ rest) token)

regroup : (a b c t : List ℕ) → (a ++ (b ++ c)) ++ t ≡ a ++ (b ++ (c ++ t))
regroup a b c t = append_assoc a (b ++ c) t ∙ ap (λ x. a ++ x) (append_assoc b c t)

nothing_reads : (r : CacheRules) (t : List ℕ) → Ends t → begun_at r t ≡ Some (r, t)
nothing_reads r [] e = refl
nothing_reads r (b ∷ t) e = rw e refl

pub element_reads : (r : CacheRules) (first : List ℕ) (e : Option CacheDirective) (t : List ℕ)
    → SpellsElement first e → Ends t → element_at r (first ++ t) ≡ Some (with_element r e, t)
element_reads r first None t h ends =
    ap (begun_at r) (after_run_append is_ows first t h (ends_stop t ends))
    ∙ nothing_reads r t ends
element_reads r first (Some d) t (before, body, after, e, b, a, spelled) ends =
    ap (λ x. element_at r (x ++ t)) e
    ∙ ap (element_at r) (regroup before body after t)
    ∙ ap (begun_at r)
    (after_run_append is_ows before (body ++ (after ++ t)) b (body_stops body (after ++ t) d spelled))
    ∙ directive_reads r body d after t spelled a ends

-- the value, the argument and the element that were read
record Value (t : List ℕ) (d : Delta) (rest : List ℕ) : Type 0 where
  pub text : List ℕ
  pub value : List ℕ
  pub split : t ≡ text ++ rest
  pub way : ((text ≡ value) × IsToken value) ⊎ SpellsQuoted text value
  pub delta : d ≡ with_bytes Empty value

record Argument (t : List ℕ) (d : Delta) (rest : List ℕ) : Type 0 where
  pub text : List ℕ
  pub argument : Option (List ℕ)
  pub split : t ≡ text ++ rest
  pub spelled : SpellsArgument text argument
  pub delta : d ≡ delta_of argument

pub record Element (r : CacheRules) (t : List ℕ) (q : CacheRules) (rest : List ℕ) : Type 0 where
  pub first : List ℕ
  pub element : Option CacheDirective
  pub split : t ≡ first ++ rest
  pub spelled : SpellsElement first element
  pub rules : q ≡ with_element r element

word_of_every : (p : ℕ → Bool) (b : ℕ) (t : List ℕ) → Every p (b ∷ t) → IsWord p p (b ∷ t)
word_of_every p b t h = h

token_found : (name after t : List ℕ) (d : Delta) (rest : List ℕ) → name ++ after ≡ t
    → Every is_tchar name → token_at name after ≡ Some (d, rest) → Value t d rest
token_found [] after t d rest e h f = absurd cc
token_found (b ∷ name) after t d rest e h f =
    let pair = some_pair (with_bytes Empty (b ∷ name)) d after rest f in
    record {
      text = b ∷ name;
      value = b ∷ name;
      split = sym e ∙ ap (λ s. (b ∷ name) ++ s) pair.1;
      way = inl (refl, word_of_every is_tchar b name h);
      delta = sym pair.0;
    }

value_found : (t : List ℕ) (d : Delta) (rest : List ℕ) → value_at t ≡ Some (d, rest)
    → Value t d rest
value_found [] d rest h = absurd cc
value_found (b ∷ t) d rest h = by (b == quote) refl
  where
    by : (x : Bool) → (b == quote) ≡ x → Value (b ∷ t) d rest
    by true p =
        let found : quoted_at false Empty t ≡ Some (d, rest) = rw p at h in
        let m = quoted_found false Empty t d rest found in
        let is : b ≡ quote = eqb-true b quote p in
        record {
          text = quote ∷ (m.inner ++ quote ∷ []);
          value = m.value;
          split = ap (λ c. c ∷ t) is
              ∙ ap (λ s. quote ∷ s) (m.split ∙ sym (append_assoc m.inner (quote ∷ []) rest));
          way = inr (m.inner, refl, m.chars);
          delta = m.seconds;
        }
    by false p =
        let found : token_at (run_of is_tchar (b ∷ t)) (after_run is_tchar (b ∷ t))
        ≡ Some (d, rest) = rw p at h in
        token_found (run_of is_tchar (b ∷ t)) (after_run is_tchar (b ∷ t)) (b ∷ t) d rest
        (run_parts is_tchar (b ∷ t)) (run_passes is_tchar (b ∷ t)) found

argument_found : (t : List ℕ) (d : Delta) (rest : List ℕ) → argument_at t ≡ Some (d, rest)
    → Argument t d rest
argument_found [] d rest h =
    let pair = some_pair Empty d [] rest h in
    record { text = []; argument = None; split = pair.1; spelled = refl; delta = sym pair.0 }
argument_found (b ∷ t) d rest h = by (b == equals) refl
  where
    by : (x : Bool) → (b == equals) ≡ x → Argument (b ∷ t) d rest
    by true p =
        let found : value_at t ≡ Some (d, rest) = rw p at h in
        let m = value_found t d rest found in
        let is : b ≡ equals = eqb-true b equals p in
        record {
          text = equals ∷ m.text;
          argument = Some m.value;
          split = ap (λ c. c ∷ t) is ∙ ap (λ s. equals ∷ s) m.split;
          spelled = (m.text, refl, m.way);
          delta = m.delta;
        }
    by false p =
        let found : Some (Empty, b ∷ t) ≡ Some (d, rest) = rw p at h in
        let pair = some_pair Empty d (b ∷ t) rest found in
        record { text = []; argument = None; split = pair.1; spelled = refl; delta = sym pair.0 }

-- an element whose white space, name and rest are these
named_found : (r : CacheRules) (before name after t : List ℕ) (q : CacheRules) (rest : List ℕ)
    → before ++ (name ++ after) ≡ t → Every is_ows before → Every is_tchar name
    → named_at r name after ≡ Some (q, rest) → Element r t q rest
named_found r before [] after t q rest e o n h =
    let pair = some_pair r q after rest h in
    record {
      first = before;
      element = None;
      split = sym e ∙ ap (λ s. before ++ s) pair.1;
      spelled = o;
      rules = sym pair.0;
    }
named_found r before (b ∷ name) after t q rest e o n h = by (argument_at after) refl
  where
    by : (x : Option (Delta × List ℕ)) → argument_at after ≡ x → Element r t q rest
    by None p =
        let found : None ≡ Some (q, rest) = rw p at h in
        absurd cc
    by (Some (d, left)) p =
        let found : Some (rules_with r (b ∷ name) (delta_seconds_of d), after_run is_ows left)
        ≡ Some (q, rest) = rw p at h in
        let m = argument_found after d left p in
        let pair = some_pair (rules_with r (b ∷ name) (delta_seconds_of d)) q
        (after_run is_ows left) rest found in
        let parts : left ≡ run_of is_ows left ++ rest =
        sym (run_parts is_ows left) ∙ ap (λ s. run_of is_ows left ++ s) pair.1 in
        record {
          first = before ++ (((b ∷ name) ++ m.text) ++ run_of is_ows left);
          element = Some (record { name = b ∷ name; argument = m.argument });
          split = sym e
              ∙ ap (λ s. before ++ ((b ∷ name) ++ s)) (m.split ∙ ap (λ s. m.text ++ s) parts)
              ∙ ap (λ s. before ++ s)
              (sym (append_assoc (b ∷ name) m.text (run_of is_ows left ++ rest)))
              ∙ sym (regroup before ((b ∷ name) ++ m.text) (run_of is_ows left) rest);
          spelled = (
            before,
            b ∷ name ++ m.text,
            run_of is_ows left,
            refl,
            o,
            run_passes is_ows left,
            (m.text, refl, word_of_every is_tchar b name n, m.spelled),
          );
          rules = sym pair.0
              ∙ ap (rules_with r (b ∷ name)) (ap delta_seconds_of m.delta ∙ delta_is m.argument);
        }

pub element_found : (r : CacheRules) (t : List ℕ) (q : CacheRules) (rest : List ℕ)
    → element_at r t ≡ Some (q, rest) → Element r t q rest
element_found r t q rest h =
    let begun = after_run is_ows t in
    named_found r (run_of is_ows t) (run_of is_tchar begun) (after_run is_tchar begun) t q rest
    (ap (λ s. run_of is_ows t ++ s) (run_parts is_tchar begun) ∙ run_parts is_ows t)
    (run_passes is_ows t) (run_passes is_tchar begun) h
