-- The bare items, each with the places in it.
use Rattle.std.proofs.Common.{◌≡◌, ◌≢◌, ℕ, Bool, true, false, List, [], ◌∷◌, ◌++◌, refl, sym, ap, ◌∙◌}
use Rattle.std.proofs.Common.{if◌then◌else◌, Result, Ok, Err, ◌==◌, ◌||◌, ◌&&◌, subst, append_assoc}
use Rattle.std.proofs.Common.{append-nil, arith, eqb-true}
use Rattle.sf_value.specs.Ascii.{quote, backslash, question_mark, colon, percent, digit_zero, digit_one}
use Rattle.sf_value.specs.Ascii.{at_sign}
use Rattle.sf_value.specs.declared.dialect.Dialect.{Dialect}
use Rattle.sf_value.specs.declared.value.Bare.{Bare}
use Rattle.sf_value.specs.declared.value.Bare.TheVariants as bare
use Rattle.sf_value.specs.Grammar.Words.{Every, IsWord}
use Rattle.sf_value.specs.Grammar.Classes.{is_token_start, is_in_token, is_visible}
use Rattle.sf_value.specs.Grammar.Strings.{is_escaped, is_unescaped, escaped, SpellsString}
use Rattle.sf_value.specs.Grammar.Booleans.{SpellsBoolean}
use Rattle.sf_value.specs.Grammar.Tokens.{SpellsToken}
use Rattle.sf_value.specs.Grammar.ByteSequences.{SpellsByteSequence}
use Rattle.sf_value.specs.Grammar.DisplayStrings.{SpellsDisplayString}
use Rattle.sf_value.specs.Grammar.Dialects.{is_rfc9651}
use Rattle.sf_value.specs.Grammar.Lines.{Continues}
use Rattle.sf_value.proofs.Runs.{every_append}
use Rattle.sf_value.specs.Grammar.BareItems.{SpellsBare}
use Rattle.sf_scan.specs.Leaves.{leaf_bare}
use Rattle.sf_scan.specs.Places.{in_bare, ends_bare, is_bare_start, is_coded_start}
use Rattle.sf_scan.specs.Stops.{Past, IsFollowed}
use Rattle.sf_value.specs.Runs.{Lacks, FirstIs}
use Rattle.sf_scan.specs.Scans.{ReadsLeaf, RefusesLeaf, ScansLeaf}
use Rattle.sf_scan.specs.declared.leaf.Leaf.{Leaf}
use Rattle.sf_scan.specs.declared.leaf.Leaf.TheVariants as leaf
use Rattle.sf_scan.specs.declared.place.Stop.{Stop}
use Rattle.sf_scan.specs.declared.place.BarePlace.{BarePlace}
use Rattle.sf_scan.specs.declared.place.BarePlace.TheVariants as place
use Rattle.sf_scan.proofs.Escapes.{Tail, tail_texts, inside_followed, backslash_followed, closed_followed}
use Rattle.sf_scan.proofs.Escapes.{backslash_first}
use Rattle.sf_scan.proofs.CodedStarts.{coded_started}
use Rattle.sf_scan.proofs.Languages.{SameTexts, same_followed, past_followed, past_reads}
use Rattle.sf_scan.proofs.Languages.{past_refuses}
use Rattle.sf_scan.proofs.Lists.{heads, tails, cons_nil, every_at}
use Rattle.sf_scan.specs.NumberPlaces.{is_signed_start, is_number_start}
use Rattle.sf_scan.proofs.NumberStarts.{integer_first, decimal_first, integer_some, decimal_some}
use Rattle.sf_scan.proofs.NumberStarts.{signed_started, date_started}

-- the first byte tells the type
abbrev pub begins : Dialect → Bare → ℕ → Bool
begins d (bare.Integer n) b = is_signed_start b
begins d (bare.Decimal m) b = is_signed_start b
begins d (bare.Date n) b = b == at_sign && is_rfc9651 d
begins d (bare.Text s) b = b == quote
begins d (bare.Token s) b = is_token_start b
begins d (bare.Boolean c) b = b == question_mark
begins d (bare.Blob s) b = b == colon
begins d (bare.Shown s) b = b == percent && is_rfc9651 d

same_byte : (b c : ℕ) → b ≡ c → (b == c) ≡ true
same_byte b c e = grind arith

pub first_byte : (d : Dialect) (b : ℕ) (t : List ℕ) (x : Bare) → SpellsBare d (b ∷ t) x
    → begins d x b ≡ true
first_byte d b t (bare.Integer n) h = integer_first b t n h
first_byte d b t (bare.Decimal m) h = decimal_first b t m h
first_byte d b t (bare.Date n) h = rw h.0 (rw (same_byte b at_sign (heads b at_sign t _ h.1.1)) refl)
first_byte d b t (bare.Text s) h = same_byte b quote (heads b quote t _ h.0)
first_byte d b t (bare.Token s) h = by s h.0 h.1
  where
    by : (s : List ℕ) → b ∷ t ≡ s → IsWord is_token_start is_in_token s → is_token_start b ≡ true
    by [] e w = absurd w
    by (c ∷ s) e w = ap is_token_start (heads b c t s e) ∙ w.0
first_byte d b t (bare.Boolean c) h = same_byte b question_mark (heads b question_mark t _ h)
first_byte d b t (bare.Blob s) h = same_byte b colon (heads b colon t h.0 h.1)
first_byte d b t (bare.Shown s) h = rw (same_byte b percent (heads b percent t _ h.1.1)) h.0

boolean_of : (d : Dialect) (t : List ℕ) (x : Bare) → SpellsBare d (question_mark ∷ t) x
    → begins d x question_mark ≡ true → (v : Bool) × SpellsBoolean (question_mark ∷ t) v
boolean_of d t (bare.Boolean c) h k = (c, h)
boolean_of d t x h k = absurd (cc k)

pub boolean_texts : (d : Dialect) → SameTexts (Past (question_mark ∷ []) SpellsBoolean)
    (Past (question_mark ∷ []) (SpellsBare d)) bare.Boolean
boolean_texts d = record {
  up = λ t v h. h;
  down = λ t x h. boolean_of d t x h (first_byte d question_mark t x h);
}

string_of : (d : Dialect) (t : List ℕ) (x : Bare) → SpellsBare d (quote ∷ t) x
    → begins d x quote ≡ true → (v : List ℕ) × SpellsString (quote ∷ t) v
string_of d t (bare.Text s) h k = (s, h)
string_of d t x h k = absurd (cc k)

pub string_texts : (d : Dialect) → SameTexts (Past (quote ∷ []) SpellsString)
    (Past (quote ∷ []) (SpellsBare d)) bare.Text
string_texts d = record {
  up = λ t v h. h;
  down = λ t x h. string_of d t x h (first_byte d quote t x h);
}

blob_of : (d : Dialect) (t : List ℕ) (x : Bare) → SpellsBare d (colon ∷ t) x
    → begins d x colon ≡ true → (v : List ℕ) × SpellsByteSequence (colon ∷ t) v
blob_of d t (bare.Blob s) h k = (s, h)
blob_of d t x h k = absurd (cc k)

pub blob_texts : (d : Dialect) → SameTexts (Past (colon ∷ []) SpellsByteSequence)
    (Past (colon ∷ []) (SpellsBare d)) bare.Blob
blob_texts d = record {
  up = λ t v h. h;
  down = λ t x h. blob_of d t x h (first_byte d colon t x h);
}

shown_of : (d : Dialect) (t : List ℕ) (x : Bare) → SpellsBare d (percent ∷ t) x
    → begins d x percent ≡ true → (v : List ℕ) × SpellsDisplayString (percent ∷ t) v
shown_of d t (bare.Shown s) h k = (s, h.1)
shown_of d t x h k = absurd (cc k)

pub shown_texts : (d : Dialect) → is_rfc9651 d ≡ true
    → SameTexts (Past (percent ∷ []) SpellsDisplayString) (Past (percent ∷ []) (SpellsBare d))
    bare.Shown
shown_texts d e = record {
  up = λ t v h. (e, h);
  down = λ t x h. shown_of d t x h (first_byte d percent t x h);
}

token_of : (d : Dialect) (b : ℕ) (t : List ℕ) (x : Bare) → is_token_start b ≡ true
    → SpellsBare d (b ∷ t) x → begins d x b ≡ true → (v : List ℕ) × SpellsToken (b ∷ t) v
token_of d b t (bare.Token s) e h k = (s, h)
token_of d b t x e h k = absurd (grind arith)

pub token_texts : (d : Dialect) (b : ℕ) → is_token_start b ≡ true
    → SameTexts (Past (b ∷ []) SpellsToken) (Past (b ∷ []) (SpellsBare d)) bare.Token
token_texts d b e = record {
  up = λ t v h. h;
  down = λ t x h. token_of d b t x e h (first_byte d b t x h);
}

-- a leaf up to the stop, and a stop before its end
pub reads_leaf : (d : Dialect) (L : List ℕ → Bare → Type 0) (text prefix : List ℕ) (leaf : Leaf)
    (stop : Stop BarePlace) → text ≡ prefix ++ stop.left.now → IsFollowed L (in_bare d stop.place) prefix
    → Lacks (in_bare d stop.place) stop.left.now → L prefix (leaf_bare leaf)
    → ends_bare stop.place ≡ true → ReadsLeaf d L text leaf stop
reads_leaf d L text prefix leaf stop e f b s k = record {
  reads = record {
    stops = record { prefix = prefix; split = e; followed = f; blocked = b };
    spelled = s;
  };
  ends = k;
}

pub refuses_leaf : (d : Dialect) (L : List ℕ → Bare → Type 0) (text prefix : List ℕ)
    (stop : Stop BarePlace) → text ≡ prefix ++ stop.left.now → IsFollowed L (in_bare d stop.place) prefix
    → Lacks (in_bare d stop.place) stop.left.now → ((x : Bare) → L prefix x → ⊥)
    → ends_bare stop.place ≡ false → RefusesLeaf d L text stop
refuses_leaf d L text prefix stop e f b s k = record {
  refuses = record {
    stops = record { prefix = prefix; split = e; followed = f; blocked = b };
    unspelled = s;
  };
  open_still = k;
}

-- nothing follows
pub lacks_none : (t : List ℕ) → Lacks (λ b. false) t
lacks_none [] = tt
lacks_none (b ∷ t) = refl

-- Booleans
bool_byte : (b : ℕ) → (b == digit_zero || b == digit_one) ≡ true
    → b ≡ (if b == digit_one then digit_one else digit_zero)
bool_byte b h = grind arith

is_bool_byte : (b : ℕ) (v : Bool) → b ≡ (if v then digit_one else digit_zero)
    → (b == digit_zero || b == digit_one) ≡ true
is_bool_byte b true h = grind arith
is_bool_byte b false h = grind arith

mark_followed : IsFollowed (Past (question_mark ∷ []) SpellsBoolean)
    (λ b. b == digit_zero || b == digit_one) []
mark_followed = record {
  viable = (digit_zero ∷ [], false, refl);
  may = λ b h. ([], b == digit_one, ap (λ x. question_mark ∷ x ∷ []) (bool_byte b h));
  only = λ b h. is_bool_byte b h.1 (heads b _ _ _ (tails question_mark question_mark _ _ h.2));
}

pub value_followed : (v : Bool) (t : List ℕ) → t ≡ (if v then digit_one else digit_zero) ∷ []
    → IsFollowed (Past (question_mark ∷ []) SpellsBoolean) (λ b. false) t
value_followed v t e = record {
  viable = ([], v, ap (λ x. question_mark ∷ x) (append-nil t ∙ e));
  may = λ b k. absurd (cc k);
  only = λ b c. absurd (by b c.0 c.1 (tails question_mark question_mark _ _ c.2));
}
  where
    by : (b : ℕ) (u : List ℕ) (w : Bool)
        → (t ++ b ∷ []) ++ u ≡ (if w then digit_one else digit_zero) ∷ [] → ⊥
    by b u w k =
        let f : (if v then digit_one else digit_zero) ∷ (b ∷ u)
        ≡ (if w then digit_one else digit_zero) ∷ [] = rw e at k in
        cons_nil b u (tails _ _ _ _ f)

pub boolean_read : (d : Dialect) (v : Bool) (text : List ℕ) (stop : Stop BarePlace)
    → text ≡ (if v then digit_one else digit_zero) ∷ stop.left.now → stop.place ≡ place.Complete
    → ReadsLeaf d (Past (question_mark ∷ []) (SpellsBare d)) text (leaf.Boolean v) stop
boolean_read d v text stop e p =
    let digit : ℕ = if v then digit_one else digit_zero in
    reads_leaf d _ text (digit ∷ []) (leaf.Boolean v) stop e
    (rw p (same_followed _ _ _ (boolean_texts d) _ _ (value_followed v (digit ∷ []) refl)))
    (rw p (lacks_none stop.left.now)) refl (rw p refl)

no_digit : (t : List ℕ) → FirstIs (λ b. b ≢ digit_zero) t → FirstIs (λ b. b ≢ digit_one) t
    → Lacks (λ b. b == digit_zero || b == digit_one) t
no_digit [] h k = tt
no_digit (b ∷ t) h k = neither b h k
  where
    neither : (b : ℕ) → b ≢ digit_zero → b ≢ digit_one → (b == digit_zero || b == digit_one) ≡ false
    neither b h k = grind arith

pub boolean_refused : (d : Dialect) (stop : Stop BarePlace) → FirstIs (λ b. b ≢ digit_zero) stop.left.now
    → FirstIs (λ b. b ≢ digit_one) stop.left.now → stop.place ≡ place.QuestionMark
    → RefusesLeaf d (Past (question_mark ∷ []) (SpellsBare d)) stop.left.now stop
boolean_refused d stop h k p =
    refuses_leaf d _ stop.left.now [] stop refl
    (rw p (same_followed _ _ _ (boolean_texts d) _ _ mark_followed))
    (rw p (no_digit stop.left.now h k))
    (λ x h. let v = (boolean_texts d).down [] x h in
    cons_nil _ _ (sym (tails question_mark question_mark _ _ v.1))) (rw p refl)

-- Tokens
pub token_followed : (b : ℕ) (run : List ℕ) → is_token_start b ≡ true → Every is_in_token run
    → IsFollowed (Past (b ∷ []) SpellsToken) is_in_token run
token_followed b run k h = record {
  viable = ([], b ∷ run, (ap (λ t. b ∷ t) (append-nil run), (k, h)));
  may = λ c e. (
    [],
    b ∷ (run ++ c ∷ []),
    (
      ap (λ t. b ∷ t) (append-nil (run ++ c ∷ [])),
      (k, every_append is_in_token run (c ∷ []) h (e, tt)),
    ),
  );
  only = λ c e. every_at is_in_token run c e.0
      (subst (IsWord is_token_start is_in_token) (sym e.2.0) e.2.1).1;
}

pub token_read : (d : Dialect) (b : ℕ) (run text token : List ℕ) (l : Leaf) (stop : Stop BarePlace)
    → is_token_start b ≡ true → Every is_in_token run → text ≡ b ∷ (run ++ stop.left.now)
    → Lacks is_in_token stop.left.now → stop.place ≡ place.InToken
    → leaf_bare l ≡ bare.Token (b ∷ run) → ReadsLeaf d (SpellsBare d) text l stop
token_read d b run text token l stop k h e n p v =
    reads_leaf d _ text (b ∷ run) l stop e
    (rw p (past_followed (SpellsBare d) is_in_token (b ∷ []) run
    (same_followed _ _ _ (token_texts d b k) _ _ (token_followed b run k h))))
    (rw p n) (rw v (refl, (k, h))) (rw p refl)

-- Strings
pub string_followed : (d : Dialect) (s q : List ℕ) (next : ℕ → Bool) → Every is_visible s
    → IsFollowed Tail next q
    → IsFollowed (Past (quote ∷ []) (SpellsBare d)) next (escaped s ++ q)
string_followed d s q next h f =
    same_followed _ _ _ (string_texts d) _ _
    (past_followed (Past (quote ∷ []) SpellsString) next (escaped s) q
    (same_followed _ _ _ (tail_texts s h) _ _ f))

string_unspelled : (d : Dialect) (s q : List ℕ) → Every is_visible s
    → ((v : List ℕ) → Tail q v → ⊥) → (x : Bare)
    → Past (quote ∷ []) (SpellsBare d) (escaped s ++ q) x → ⊥
string_unspelled d s q h n x k =
    let v = (string_texts d).down (escaped s ++ q) x k in
    let r = (tail_texts s h).down q v.0 v.1 in
    n r.0 r.1

-- a closed one
pub string_read : (d : Dialect) (text s : List ℕ) (l : Leaf) (stop : Stop BarePlace) → Every is_visible s
    → text ≡ escaped s ++ quote ∷ stop.left.now → stop.place ≡ place.Complete
    → leaf_bare l ≡ bare.Text s → ReadsLeaf d (Past (quote ∷ []) (SpellsBare d)) text l stop
string_read d text s l stop h e p v =
    reads_leaf d _ text (escaped s ++ quote ∷ []) l stop
    (e ∙ sym (append_assoc (escaped s) (quote ∷ []) stop.left.now))
    (rw p (string_followed d s (quote ∷ []) _ h closed_followed)) (rw p (lacks_none stop.left.now))
    (rw v (refl, h)) (rw p refl)

no_tail : (v : List ℕ) → Tail [] v → ⊥
no_tail [] h = cons_nil _ _ (sym h.0)
no_tail (c ∷ v) h = by (is_escaped c) refl
  where
    by : (x : Bool) → is_escaped c ≡ x → ⊥
    by true i =
        let k = h.0 in
        let f : [] ≡ backslash ∷ (c ∷ (escaped v ++ quote ∷ [])) = rw i at k in
        cons_nil _ _ (sym f)
    by false i =
        let k = h.0 in
        let f : [] ≡ c ∷ (escaped v ++ quote ∷ []) = rw i at k in
        cons_nil _ _ (sym f)

-- an open one
invisible : (b : ℕ) → is_unescaped b ≡ false → b ≢ quote → b ≢ backslash → is_visible b ≡ false
invisible b h q s = grind arith

lacks_visible : (t : List ℕ) → Lacks is_unescaped t → FirstIs (λ b. b ≢ quote) t
    → FirstIs (λ b. b ≢ backslash) t → Lacks is_visible t
lacks_visible [] h q s = tt
lacks_visible (b ∷ t) h q s = invisible b h q s

pub no_escape_left : (t : List ℕ) → Lacks (λ b. b == backslash) t → FirstIs (λ b. b ≢ backslash) t
no_escape_left [] h = tt
no_escape_left (b ∷ t) h = differs b h
  where
    differs : (b : ℕ) → (b == backslash) ≡ false → b ≢ backslash
    differs b h = grind arith

pub string_open : (d : Dialect) (text s : List ℕ) (stop : Stop BarePlace) → Every is_visible s
    → text ≡ escaped s ++ stop.left.now → Lacks is_unescaped stop.left.now
    → FirstIs (λ b. b ≢ quote) stop.left.now → FirstIs (λ b. b ≢ backslash) stop.left.now
    → stop.place ≡ place.InString
    → RefusesLeaf d (Past (quote ∷ []) (SpellsBare d)) text stop
string_open d text s stop h e n q b p =
    refuses_leaf d _ text (escaped s ++ []) stop
    (e ∙ ap (λ t. t ++ stop.left.now) (sym (append-nil (escaped s))))
    (rw p (string_followed d s [] _ h inside_followed))
    (rw p (lacks_visible stop.left.now n q b)) (string_unspelled d s [] h no_tail) (rw p refl)

-- after a backslash
no_backslash_tail : (v : List ℕ) → Tail (backslash ∷ []) v → ⊥
no_backslash_tail [] h = slash_apart (heads _ _ _ _ h.0)
  where
    slash_apart : backslash ≡ quote → ⊥
    slash_apart e = omega arith
no_backslash_tail (c ∷ v) h = by (is_escaped c) refl
  where
    by : (x : Bool) → is_escaped c ≡ x → ⊥
    by true i =
        let k = h.0 in
        let f : backslash ∷ [] ≡ backslash ∷ (c ∷ (escaped v ++ quote ∷ [])) = rw i at k in
        cons_nil _ _ (sym (tails _ _ _ _ f))
    by false i =
        let k = h.0 in
        let f : backslash ∷ [] ≡ c ∷ (escaped v ++ quote ∷ []) = rw i at k in
        backslash_first c i (sym (heads _ _ _ _ f))

pub string_escape : (d : Dialect) (text s : List ℕ) (stop : Stop BarePlace) → Every is_visible s
    → text ≡ escaped s ++ backslash ∷ stop.left.now → Lacks is_escaped stop.left.now
    → stop.place ≡ place.Backslash
    → RefusesLeaf d (Past (quote ∷ []) (SpellsBare d)) text stop
string_escape d text s stop h e n p =
    refuses_leaf d _ text (escaped s ++ backslash ∷ []) stop
    (e ∙ sym (append_assoc (escaped s) (backslash ∷ []) stop.left.now))
    (rw p (string_followed d s (backslash ∷ []) _ h backslash_followed)) (rw p n)
    (string_unspelled d s (backslash ∷ []) h no_backslash_tail) (rw p refl)

-- before a bare item
signed_start : (d : Dialect) (b : ℕ) → is_signed_start b ≡ true → is_bare_start d b ≡ true
signed_start d b h = grind arith

date_start : (d : Dialect) (b : ℕ) → (b == at_sign && is_rfc9651 d) ≡ true → is_bare_start d b ≡ true
date_start d b h = grind arith

pub start_of : (d : Dialect) (x : Bare) (b : ℕ) → begins d x b ≡ true → is_bare_start d b ≡ true
start_of d (bare.Integer n) b h = signed_start d b h
start_of d (bare.Decimal m) b h = signed_start d b h
start_of d (bare.Date n) b h = date_start d b h
start_of d (bare.Text s) b h = grind arith
start_of d (bare.Token s) b h = grind arith
start_of d (bare.Boolean c) b h = grind arith
start_of d (bare.Blob s) b h = grind arith
start_of d (bare.Shown s) b h = grind arith

number_started : (d : Dialect) (b : ℕ) → is_number_start d b ≡ true
    → Continues (SpellsBare d) (b ∷ [])
number_started d b h = by (is_signed_start b) refl
  where
    by : (x : Bool) → is_signed_start b ≡ x → Continues (SpellsBare d) (b ∷ [])
    by true e = signed_started d b e
    by false e =
        date_started d b (let k : (b == at_sign && is_rfc9651 d) ≡ true = rw e at h in k)

pub started : (d : Dialect) (b : ℕ) → is_bare_start d b ≡ true → Continues (SpellsBare d) (b ∷ [])
started d b h =
    by (is_token_start b) refl (b == quote) refl (b == question_mark) refl (is_number_start d b) refl
  where
    by : (x : Bool) → is_token_start b ≡ x → (y : Bool) → (b == quote) ≡ y
        → (z : Bool) → (b == question_mark) ≡ z → (w : Bool) → is_number_start d b ≡ w
        → Continues (SpellsBare d) (b ∷ [])
    by true e y f z g w i = ([], bare.Token (b ∷ []), (refl, (e, tt)))
    by false e true f z g w i = (
      quote ∷ [],
      bare.Text [],
      (ap (λ x. x ∷ quote ∷ []) (eqb-true b quote f), tt),
    )
    by false e false f true g w i = (
      digit_zero ∷ [],
      bare.Boolean false,
      ap (λ x. x ∷ digit_zero ∷ []) (eqb-true b question_mark g),
    )
    by false e false f false g true i = number_started d b i
    by false e false f false g false i =
        coded_started d b (let k : is_coded_start d b ≡ true = rw (e, f, g, i) at h in k)

pub unstarted : (d : Dialect) (x : Bare) → SpellsBare d [] x → ⊥
unstarted d (bare.Integer n) h = integer_some n h
unstarted d (bare.Decimal m) h = decimal_some m h
unstarted d (bare.Date n) h = cons_nil _ _ (sym h.1.1)
unstarted d (bare.Text s) h = cons_nil _ _ (sym h.0)
unstarted d (bare.Token s) h = subst (IsWord is_token_start is_in_token) (sym h.0) h.1
unstarted d (bare.Boolean c) h = cons_nil _ _ (sym h)
unstarted d (bare.Blob s) h = cons_nil _ _ (sym h.1)
unstarted d (bare.Shown s) h = cons_nil _ _ (sym h.1.1)

pub no_start : (d : Dialect) (b : ℕ) (t more : List ℕ) → t ≡ b ∷ more → b ≢ quote
    → b ≢ question_mark → is_token_start b ≡ false → is_number_start d b ≡ false
    → is_coded_start d b ≡ false → Lacks (is_bare_start d) t
no_start d b t more e q m s n o =
    rw e (none b (is_number_start d b) (is_coded_start d b) q m s n o)
  where
    none : (b : ℕ) (c e : Bool) → b ≢ quote → b ≢ question_mark → is_token_start b ≡ false
        → c ≡ false → e ≡ false
        → ((is_token_start b || (b == quote || b == question_mark)) || (c || e)) ≡ false
    none b c e q m s n o = grind arith

pub no_byte : (d : Dialect) (t : List ℕ) → t ≡ [] → Lacks (is_bare_start d) t
no_byte d t e = rw e tt

-- a percent sign begins no bare item of RFC 8941
pub no_percent : (d : Dialect) (t more : List ℕ) → t ≡ percent ∷ more → is_rfc9651 d ≡ false
    → Lacks (is_bare_start d) t
no_percent d t more e r = rw (e, r) refl

pub some_bare : (d : Dialect) → Continues (SpellsBare d) []
some_bare d = (quote ∷ quote ∷ [], bare.Text [], (refl, tt))

pub bare_refused : (d : Dialect) (stop : Stop BarePlace) → Lacks (is_bare_start d) stop.left.now
    → stop.place ≡ place.Start → RefusesLeaf d (SpellsBare d) stop.left.now stop
bare_refused d stop n p =
    refuses_leaf d _ stop.left.now [] stop refl
    (rw p (record {
      viable = (quote ∷ quote ∷ [], bare.Text [], (refl, tt));
      may = started d;
      only = λ b c. start_of d c.1 b (first_byte d b c.0 c.1 c.2);
    }))
    (rw p n) (unstarted d) (rw p refl)

-- seen from the first byte on
pub past_scans : (d : Dialect) (L : List ℕ → Bare → Type 0) (p text whole : List ℕ)
    (r : Result (Stop BarePlace × Leaf) (Stop BarePlace)) → whole ≡ p ++ text → ScansLeaf d (Past p L) text r
    → ScansLeaf d L whole r
past_scans d L p text whole (Ok r) e h =
    record { reads = past_reads L _ p text whole _ _ e h.reads; ends = h.ends }
past_scans d L p text whole (Err s) e h =
    record { refuses = past_refuses L _ p text whole _ e h.refuses; open_still = h.open_still }

pub past_leaf : (d : Dialect) (L : List ℕ → Bare → Type 0) (p text whole : List ℕ) (l : Leaf)
    (stop : Stop BarePlace) → whole ≡ p ++ text → ReadsLeaf d (Past p L) text l stop
    → ReadsLeaf d L whole l stop
past_leaf d L p text whole l stop e h = past_scans d L p text whole (Ok (stop, l)) e h

pub past_refused : (d : Dialect) (L : List ℕ → Bare → Type 0) (p text whole : List ℕ)
    (stop : Stop BarePlace) → whole ≡ p ++ text → RefusesLeaf d (Past p L) text stop
    → RefusesLeaf d L whole stop
past_refused d L p text whole stop e h = past_scans d L p text whole (Err stop) e h
