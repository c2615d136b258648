-- Where Display Strings stop, and what a whole one spells.
use Rattle.std.proofs.Common.{◌≡◌, ◌≢◌, ℕ, ◌+◌, ◌-◌, ◌*◌, ◌/◌, ◌%◌, ◌<◌, Bool, true, false}
use Rattle.std.proofs.Common.{◌==◌, if◌then◌else◌, List, [], ◌∷◌, ◌++◌, length, take}
use Rattle.std.proofs.Common.{Option, Some, None, refl, sym, ap, ap₂, ◌∙◌, subst, append_assoc}
use Rattle.std.proofs.Common.{eqb-true, arith, inl, inr}
use Rattle.sf_value.specs.Ascii.{quote, percent}
use Rattle.sf_value.specs.Digits.{unhex}
use Rattle.sf_value.specs.declared.dialect.Dialect.{Dialect}
use Rattle.sf_value.specs.declared.value.Bare.TheVariants as bare
use Rattle.sf_value.specs.Grammar.Classes.{is_visible}
use Rattle.sf_value.specs.Grammar.Dialects.{is_rfc9651}
use Rattle.sf_value.specs.Grammar.DisplayStrings.{hex, is_unencoded, EncodedBytes}
use Rattle.sf_value.specs.Grammar.DisplayStrings.{SpellsDisplayString}
use Rattle.sf_value.specs.Grammar.Utf8.{Start, WellFormed}
use Rattle.sf_value.specs.Grammar.Words.{Every}
use Rattle.sf_value.proofs.DigitValues.{hex_read, read_hex}
use Rattle.sf_scan.specs.Characters.{char_step, can_begin, low_digits}
use Rattle.sf_scan.specs.DisplayStrings.{in_between, is_first_digit, in_shown}
use Rattle.sf_scan.specs.DisplayStrings.{digit_or_zero, escaped_byte, shown_bytes, PastUnencoded}
use Rattle.sf_scan.specs.DisplayStrings.{BeginsDigit, BeginsByte}
use Rattle.sf_value.specs.Grammar.BareItems.{SpellsBare}
use Rattle.sf_scan.specs.Leaves.{leaf_bare}
use Rattle.sf_scan.specs.Stops.{Past, IsFollowed}
use Rattle.sf_value.specs.Runs.{Lacks, FirstIs}
use Rattle.sf_scan.specs.Scans.{ReadsLeaf, RefusesLeaf}
use Rattle.sf_scan.specs.DisplayStrings.{PastEscape, StopsEscape, Closes, StaysOpen}
use Rattle.sf_scan.specs.declared.char_place.CharPlace.{CharPlace}
use Rattle.sf_scan.specs.declared.char_place.CharPlace.TheVariants as chars
use Rattle.sf_scan.specs.declared.leaf.Leaf.{Leaf}
use Rattle.sf_scan.specs.declared.place.Stop.{Stop}
use Rattle.sf_scan.specs.declared.place.BarePlace.{BarePlace}
use Rattle.sf_scan.specs.declared.place.BarePlace.TheVariants as place
use Rattle.sf_scan.specs.declared.shown_place.ShownPlace.{ShownPlace}
use Rattle.sf_scan.specs.declared.shown_place.ShownPlace.TheVariants as shown
use Rattle.sf_scan.proofs.Automata.{Recognizes, Went, went_on, leads_end}
use Rattle.sf_scan.proofs.Automata.{leads_followed, leads_unspelled}
use Rattle.sf_scan.proofs.Bares.{shown_texts, reads_leaf, refuses_leaf, lacks_none}
use Rattle.sf_scan.proofs.Base64.{byte_small}
use Rattle.sf_scan.proofs.Characters.{low_same, is_low_two}
use Rattle.sf_scan.proofs.DisplayStrings.{State, Opening, Between, Percent, Digit, Closed, next}
use Rattle.sf_scan.proofs.DisplayStrings.{after}
use Rattle.sf_scan.proofs.DisplayStrings.{reached, final, Text, Path, Good, bytes_text}
use Rattle.sf_scan.proofs.DisplayStrings.{SpellsRest, shows, some_of, stays}
use Rattle.sf_scan.proofs.DisplayStrings.{passed, first_path, second_path, percent_comes}
use Rattle.sf_scan.proofs.DisplayStrings.{unencoded_tests, high_small, low_small, joined}
use Rattle.sf_scan.proofs.Languages.{same_followed}
use Rattle.sf_scan.proofs.Lists.{tails, front_before}

pub shown_recognized : Recognizes next after final Opening (Past (percent ∷ []) SpellsDisplayString)
shown_recognized = record {
  reads = λ t a. from t a;
  spells = λ t v h. to t v h.0 h.1 h.2 h.3;
}
  where
    from : (t : List ℕ) → Text Opening t
        → (v : List ℕ) × Past (percent ∷ []) SpellsDisplayString t v
    from [] a = absurd cc
    from (b ∷ u) a =
        let r = shows u a.1 in
        (r.bytes, (u, ap (λ x. percent ∷ x ∷ u) (eqb-true b quote a.0), r.encoded, r.formed))

    to : (t v suffix : List ℕ) → percent ∷ t ≡ percent ∷ quote ∷ suffix → EncodedBytes suffix v
        → WellFormed Start v → Text Opening t
    to t v suffix e f w =
        subst (Text Opening) (sym (tails percent percent t (quote ∷ suffix) e))
        (refl, bytes_text v suffix chars.Start f w)

-- no state that is reached is stuck
live_percent : (c : CharPlace) → (u : List ℕ) × Text (Percent c) u
live_percent chars.Start = (48 ∷ 48 ∷ quote ∷ [], (refl, (refl, (refl, refl))))
live_percent chars.Last = (56 ∷ 48 ∷ quote ∷ [], (refl, (refl, (refl, refl))))
live_percent chars.LastTwo =
    (56 ∷ 48 ∷ percent ∷ 56 ∷ 48 ∷ quote ∷ [], (refl, (refl, (refl, (refl, (refl, (refl, refl)))))))
live_percent chars.LastThree = (
  56 ∷ 48 ∷ percent ∷ 56 ∷ 48 ∷ percent ∷ 56 ∷ 48 ∷ quote ∷ [],
  (refl, (refl, (refl, (refl, (refl, (refl, (refl, (refl, (refl, refl))))))))),
)
live_percent chars.AfterE0 =
    (97 ∷ 48 ∷ percent ∷ 56 ∷ 48 ∷ quote ∷ [], (refl, (refl, (refl, (refl, (refl, (refl, refl)))))))
live_percent chars.AfterEd =
    (56 ∷ 48 ∷ percent ∷ 56 ∷ 48 ∷ quote ∷ [], (refl, (refl, (refl, (refl, (refl, (refl, refl)))))))
live_percent chars.AfterF0 = (
  57 ∷ 48 ∷ percent ∷ 56 ∷ 48 ∷ percent ∷ 56 ∷ 48 ∷ quote ∷ [],
  (refl, (refl, (refl, (refl, (refl, (refl, (refl, (refl, (refl, refl))))))))),
)
live_percent chars.AfterF4 = (
  56 ∷ 48 ∷ percent ∷ 56 ∷ 48 ∷ percent ∷ 56 ∷ 48 ∷ quote ∷ [],
  (refl, (refl, (refl, (refl, (refl, (refl, (refl, (refl, (refl, refl))))))))),
)

live_between : (c : CharPlace) → (u : List ℕ) × Text (Between c) u
live_between c = let k = live_percent c in (percent ∷ k.0, (percent_comes c, k.1))

lives : (s : State) → Good s → (u : List ℕ) × Text s u
lives Opening g = (quote ∷ quote ∷ [], (refl, (refl, refl)))
lives (Between c) g = live_between c
lives (Percent c) g = live_percent c
lives (Digit c h) g =
    let e = some_of (char_step c (h * 16 + 2))
    (low_same c h 2 g.0 (omega arith) g.1 ∙ is_low_two (low_digits c h)) in
    let k = live_between e.0 in
    let p = second_path c e.0 50 h 2 g.0 (omega arith) refl g.1 e.1 in
    (50 ∷ k.0, (p.0, subst (λ s. Text s k.0) (sym p.1) k.1))
lives Closed g = ([], refl)

goods : (s : State) (b : ℕ) → Good s → next s b ≡ true → Good (after s b)
goods Opening b g h = tt
goods (Between c) b g h = by (b == quote) (b == percent)
  where
    by : (x y : Bool) → Good (if x then Closed else (if y then Percent c else Between c))
    by true y = tt
    by false true = tt
    by false false = tt
goods (Percent c) b g h =
    let p = passed (can_begin c) (unhex b) h in
    subst (λ o. Good (Digit c (digit_or_zero o))) (sym p.1) ((read_hex b p.0 p.1).1, p.2)
goods (Digit c n) b g h = by (char_step c (n * 16 + digit_or_zero (unhex b)))
  where
    by : (o : Option CharPlace) → Good (reached o)
    by (Some e) = tt
    by None = tt
goods Closed b g h = tt

pub shown_followed : (d : Dialect) → is_rfc9651 d ≡ true → (s : State) (p : List ℕ) → Good s
    → Path Opening p s → IsFollowed (Past (percent ∷ []) (SpellsBare d)) (next s) p
shown_followed d e s p g h = same_followed _ _ _ (shown_texts d e) _ _
    (leads_followed next after final _ Opening s p shown_recognized h (lives s g)
    (λ b n. lives (after s b) (goods s b g n)))

abbrev pub Goes : State → State → List ℕ → List ℕ → Type 0
Goes = Went next after

pub quote_went : (text inside : List ℕ) → text ≡ quote ∷ inside
    → Goes Opening (Between chars.Start) text inside
quote_went text inside e = record { part = quote ∷ []; split = e; path = (refl, refl) }

percent_went : (c : CharPlace) (left escape : List ℕ) → left ≡ percent ∷ escape
    → Goes (Between c) (Percent c) left escape
percent_went c left escape e =
    record { part = percent ∷ []; split = e; path = (percent_comes c, refl) }

digit_went : (c : CharPlace) (h : ℕ) (text rest : List ℕ) → BeginsDigit (can_begin c) text h rest
    → Goes (Percent c) (Digit c h) text rest
digit_went c h text rest (b, e, u, k) =
    record { part = b ∷ []; split = e; path = first_path c b h u k }

byte_went : (c f : CharPlace) (h : ℕ) (text rest : List ℕ) → h < 16 → can_begin c h ≡ true
    → BeginsByte c h text f rest → Goes (Digit c h) (Between f) text rest
byte_went c f h text rest g k (b, l, e, u, s) = record {
  part = b ∷ [];
  split = e;
  path = second_path c f b h l g (read_hex b l u).1 u k s;
}

escape_went : (c f : CharPlace) (left escape rest : List ℕ) → left ≡ percent ∷ escape
    → PastEscape c escape f rest → Goes (Between c) (Between f) left rest
escape_went c f left escape rest e (h, more, p, q) =
    went_on (percent_went c left escape e)
    (went_on (digit_went c h escape more p)
    (byte_went c f h more rest (read_hex p.0 h p.2).1 p.3 q))

-- no unencoded byte may follow
pub StaysIn : CharPlace → List ℕ → Type 0
StaysIn c left = c ≡ chars.Start → Lacks is_unencoded left

run_path : (run : List ℕ) → Every is_unencoded run
    → Path (Between chars.Start) run (Between chars.Start)
run_path [] h = refl
run_path (b ∷ run) h =
    let k = unencoded_tests b h.0 in (
      k.2,
      subst (λ s. Path s run (Between chars.Start)) (sym (stays chars.Start b k.0 k.1))
          (run_path run h.1),
    )

-- what the loop keeps
pub record Reached (inside left : List ℕ) (c : CharPlace) : Type 0 where
  pub went : Goes (Between chars.Start) (Between c) inside left
  pub no_byte : StaysIn c left

here : (s : State) (text rest : List ℕ) → text ≡ rest → Goes s s text rest
here s text rest e = record { part = []; split = e; path = refl }

past_run : (c : CharPlace) (text rest : List ℕ) → PastUnencoded c text rest
    → Goes (Between c) (Between c) text rest × StaysIn c rest
unfolding StaysIn
past_run chars.Start text rest h =
    (record { part = h.0; split = h.1; path = run_path h.0 h.2 }, (λ e. h.3))
past_run chars.Last text rest h = (here _ text rest h, (λ e. absurd cc))
past_run chars.LastTwo text rest h = (here _ text rest h, (λ e. absurd cc))
past_run chars.LastThree text rest h = (here _ text rest h, (λ e. absurd cc))
past_run chars.AfterE0 text rest h = (here _ text rest h, (λ e. absurd cc))
past_run chars.AfterEd text rest h = (here _ text rest h, (λ e. absurd cc))
past_run chars.AfterF0 text rest h = (here _ text rest h, (λ e. absurd cc))
past_run chars.AfterF4 text rest h = (here _ text rest h, (λ e. absurd cc))

pub reached_first : (inside left : List ℕ) → PastUnencoded chars.Start inside left
    → Reached inside left chars.Start
reached_first inside left h =
    let r = past_run chars.Start inside left h in record { went = r.0; no_byte = r.1 }

pub reached_more : (inside left escape more rest : List ℕ) (c f : CharPlace) → Reached inside left c
    → left ≡ percent ∷ escape → PastEscape c escape f more → PastUnencoded f more rest
    → Reached inside rest f
reached_more inside left escape more rest c f r e p u =
    let k = past_run f more rest u in
    record {
      went = went_on r.went (went_on (escape_went c f left escape more e p) k.0);
      no_byte = k.1;
    }

-- where it stops
shown_refused : (d : Dialect) → is_rfc9651 d ≡ true → (text : List ℕ) (s : State) (p : ShownPlace)
    (stop : Stop BarePlace) → (w : Goes Opening s text stop.left.now)
    → IsFollowed (Past (percent ∷ []) (SpellsBare d)) (in_shown p) w.part → final s ≡ false
    → stop.place ≡ place.Shown p → Lacks (in_shown p) stop.left.now
    → RefusesLeaf d (Past (percent ∷ []) (SpellsBare d)) text stop
shown_refused d e text s p stop w f n k l =
    refuses_leaf d _ text w.part stop w.split (rw k f) (rw k l)
    (λ x h. let v = (shown_texts d e).down w.part x h in
    leads_unspelled next after final _ Opening s w.part shown_recognized w.path n v.0 v.1)
    (rw k refl)

pub refused_quote : (d : Dialect) → is_rfc9651 d ≡ true → (stop : Stop BarePlace)
    → FirstIs (λ b. b ≢ quote) stop.left.now → stop.place ≡ place.Shown shown.Quote
    → RefusesLeaf d (Past (percent ∷ []) (SpellsBare d)) stop.left.now stop
refused_quote d e stop n k =
    let w = here Opening stop.left.now stop.left.now refl in
    shown_refused d e stop.left.now Opening shown.Quote stop w
    (shown_followed d e Opening w.part tt w.path) refl k (lacks_quote stop.left.now n)
  where
    differs : (b : ℕ) → b ≢ quote → (b == quote) ≡ false
    differs b h = grind arith

    lacks_quote : (t : List ℕ) → FirstIs (λ b. b ≢ quote) t → Lacks (in_shown shown.Quote) t
    lacks_quote [] h = tt
    lacks_quote (b ∷ t) h = differs b h

-- between the quotes
lacks_between : (c : CharPlace) (left : List ℕ) → StaysIn c left → FirstIs (λ b. b ≢ percent) left
    → StaysOpen c left → Lacks (in_between c) left
unfolding StaysIn
lacks_between c [] u h o = tt
lacks_between c (b ∷ left) u h o = by c b u h o
  where
    invisible : (b : ℕ) → is_unencoded b ≡ false → b ≢ percent → b ≢ quote → is_visible b ≡ false
    invisible b u h o = grind arith

    differs : (b : ℕ) → b ≢ percent → (b == percent) ≡ false
    differs b h = grind arith

    by : (c : CharPlace) (b : ℕ) → (c ≡ chars.Start → is_unencoded b ≡ false) → b ≢ percent
        → StaysOpen c (b ∷ left) → in_between c b ≡ false
    by chars.Start b u h o = invisible b (u refl) h o
    by chars.Last b u h o = differs b h
    by chars.LastTwo b u h o = differs b h
    by chars.LastThree b u h o = differs b h
    by chars.AfterE0 b u h o = differs b h
    by chars.AfterEd b u h o = differs b h
    by chars.AfterF0 b u h o = differs b h
    by chars.AfterF4 b u h o = differs b h

pub refused_between : (d : Dialect) → is_rfc9651 d ≡ true → (text inside : List ℕ) (c : CharPlace)
    (stop : Stop BarePlace) → text ≡ quote ∷ inside → Reached inside stop.left.now c
    → FirstIs (λ b. b ≢ percent) stop.left.now → StaysOpen c stop.left.now
    → stop.place ≡ place.Shown (shown.Between c)
    → RefusesLeaf d (Past (percent ∷ []) (SpellsBare d)) text stop
refused_between d e text inside c stop q r h o k =
    let w = went_on (quote_went text inside q) r.went in
    shown_refused d e text (Between c) (shown.Between c) stop w
    (shown_followed d e (Between c) w.part tt w.path) refl k
    (lacks_between c stop.left.now r.no_byte h o)

-- in an escape
to_percent : (text inside left escape : List ℕ) (c : CharPlace) → text ≡ quote ∷ inside
    → Reached inside left c → left ≡ percent ∷ escape → Goes Opening (Percent c) text escape
to_percent text inside left escape c q r p =
    went_on (went_on (quote_went text inside q) r.went) (percent_went c left escape p)

pub refused_escape : (d : Dialect) → is_rfc9651 d ≡ true → (text inside left escape : List ℕ)
    (c : CharPlace) (stop : Stop BarePlace) → text ≡ quote ∷ inside → Reached inside left c
    → left ≡ percent ∷ escape → StopsEscape c escape stop
    → RefusesLeaf d (Past (percent ∷ []) (SpellsBare d)) text stop
refused_escape d e text inside left escape c stop q r p (inl (same, k, n)) =
    let w = subst (Goes Opening (Percent c) text) (sym same)
    (to_percent text inside left escape c q r p) in
    shown_refused d e text (Percent c) (shown.Percent c) stop w
    (shown_followed d e (Percent c) w.part tt w.path) refl k
    (subst (Lacks (is_first_digit c)) (sym same) n)
refused_escape d e text inside left escape c stop q r p (inr (h, b, k, n)) =
    let w = went_on (to_percent text inside left escape c q r p)
    (digit_went c h escape stop.left.now b) in
    shown_refused d e text (Digit c h) (shown.Digit (low_digits c h)) stop w
    (shown_followed d e (Digit c h) w.part ((read_hex b.0 h b.2).1, b.3) w.path) refl k n

-- the value
pub escaped_value : (b : ℕ) → b < 256 → escaped_byte (hex (b / 16)) (hex (b % 16)) ≡ b
escaped_value b h =
    ap₂ (λ x y. digit_or_zero x * 16 + digit_or_zero y) (hex_read (b / 16) (high_small b h))
    (hex_read (b % 16) (low_small b)) ∙ joined b

byte_value : (b : ℕ) (t : List ℕ) → (b == percent) ≡ false → shown_bytes (b ∷ t) ≡ b ∷ shown_bytes t
byte_value b [] h = refl
byte_value b (c ∷ []) h = refl
byte_value b (c ∷ d ∷ t) h = rw h refl

-- the text between the quotes
record Inside (t s : List ℕ) : Type 0 where
  part : List ℕ
  split : t ≡ part ++ quote ∷ []
  value : shown_bytes part ≡ s

inside_of : (s t : List ℕ) → EncodedBytes t s → Inside t s
inside_of [] t e = record { part = []; split = e; value = refl }
inside_of (b ∷ s) t (u, inl (k, e), f) =
    let r = inside_of s u f in
    record {
      part = b ∷ r.part;
      split = e ∙ ap (λ x. b ∷ x) r.split;
      value = byte_value b r.part (unencoded_tests b k).1 ∙ ap (λ x. b ∷ x) r.value;
    }
inside_of (b ∷ s) t (u, inr (k, e), f) =
    let r = inside_of s u f in
    record {
      part = percent ∷ hex (b / 16) ∷ hex (b % 16) ∷ r.part;
      split = e ∙ ap (λ x. percent ∷ hex (b / 16) ∷ hex (b % 16) ∷ x) r.split;
      value = ap₂ (λ x y. x ∷ y) (escaped_value b (byte_small b k)) r.value;
    }

pub shown_read : (d : Dialect) → is_rfc9651 d ≡ true
    → (text inside left bytes : List ℕ) (c : CharPlace) (l : Leaf) (stop : Stop BarePlace)
    → text ≡ quote ∷ inside → Reached inside left c → Closes c left stop.left.now
    → bytes ≡ take (length inside - length left) inside → stop.place ≡ place.Complete
    → leaf_bare l ≡ bare.Shown (shown_bytes bytes)
    → ReadsLeaf d (Past (percent ∷ []) (SpellsBare d)) text l stop
shown_read d e text inside left bytes c l stop q r h i k v =
    reads_leaf d _ text (quote ∷ went.part) l stop (q ∙ ap (λ t. quote ∷ t) went.split)
    (rw k (shown_followed d e Closed (quote ∷ went.part) tt (refl, went.path)))
    (rw k (lacks_none stop.left.now))
    (rw v ((shown_texts d e).up (quote ∷ went.part) (shown_bytes bytes) (
      went.part,
      refl,
      subst (EncodedBytes went.part) same rest.encoded,
      subst (WellFormed Start) same rest.formed,
    )))
    (rw k refl)
  where
    went : Goes (Between chars.Start) Closed inside stop.left.now
    went =
        let w : Goes (Between chars.Start) Closed left stop.left.now =
        record { part = quote ∷ []; split = h.1; path = (refl, refl) } in
        went_on (subst (λ x. Goes (Between chars.Start) (Between x) inside left) h.0 r.went) w

    rest : SpellsRest chars.Start went.part
    rest = shows went.part (leads_end next after final (Between chars.Start) Closed went.part
        went.path refl)

    between : Inside went.part rest.bytes
    between = inside_of rest.bytes went.part rest.encoded

    parts : inside ≡ between.part ++ left
    parts = went.split ∙ (ap (λ t. t ++ stop.left.now) between.split
        ∙ (append_assoc between.part (quote ∷ []) stop.left.now
        ∙ ap (λ t. between.part ++ t) (sym h.1)))

    same : rest.bytes ≡ shown_bytes bytes
    same = sym between.value
        ∙ ap shown_bytes (sym (i ∙ front_before inside between.part left parts))
