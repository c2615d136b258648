-- The escaped bytes of Strings, and what may follow them.
use Rattle.std.proofs.Common.{◌≡◌, ℕ, Bool, true, false, cond, List, [], ◌∷◌, ◌++◌, refl, sym, ap, ◌∙◌}
use Rattle.std.proofs.Common.{◌⊎◌, inl, inr, eqb-true, ◌==◌, ◌||◌, subst, append_assoc, arith}
use Rattle.sf_value.specs.Ascii.{quote, backslash}
use Rattle.sf_value.specs.Grammar.Words.{Every}
use Rattle.sf_value.specs.Grammar.Classes.{is_visible}
use Rattle.sf_value.specs.Grammar.Strings.{is_escaped, is_unescaped, escaped, SpellsString}
use Rattle.sf_value.proofs.Runs.{every_append}
use Rattle.sf_value.proofs.Words.{every_map}
use Rattle.sf_scan.specs.Leaves.{unescaped}
use Rattle.sf_scan.specs.Stops.{Past, IsFollowed}
use Rattle.sf_scan.specs.Scans.{PastEscaped, BeginsEscaped}
use Rattle.sf_scan.proofs.Languages.{SameTexts}
use Rattle.sf_scan.proofs.Lists.{heads, tails, cons_nil}

pub escaped_append : (s r : List ℕ) → escaped (s ++ r) ≡ escaped s ++ escaped r
escaped_append [] r = refl
escaped_append (b ∷ s) r = by (is_escaped b) (escaped_append s r)
  where
    by : (c : Bool) → escaped (s ++ r) ≡ escaped s ++ escaped r
        → cond c (backslash ∷ b ∷ escaped (s ++ r)) (b ∷ escaped (s ++ r))
        ≡ cond c (backslash ∷ b ∷ escaped s) (b ∷ escaped s) ++ escaped r
    by true e = ap (λ t. backslash ∷ b ∷ t) e
    by false e = ap (λ t. b ∷ t) e

visible_of : (b : ℕ) → is_unescaped b ≡ true → is_visible b ≡ true
visible_of b h = grind arith

not_escaped : (b : ℕ) → is_unescaped b ≡ true → is_escaped b ≡ false
not_escaped b h = grind arith

-- a run without escapes is its own text
pub escaped_run : (s : List ℕ) → Every is_unescaped s → escaped s ≡ s
escaped_run [] h = refl
escaped_run (b ∷ s) h = rw (not_escaped b h.0) (ap (λ t. b ∷ t) (escaped_run s h.1))

pub visible_run : (s : List ℕ) → Every is_unescaped s → Every is_visible s
visible_run = every_map is_unescaped is_visible visible_of

-- the bytes between the quotes and the closing quote
abbrev pub Tail : List ℕ → List ℕ → Type 0
Tail t s = (t ≡ escaped s ++ quote ∷ []) × Every is_visible s

-- escaped bytes are read in one way
pub record Rest (s rest v : List ℕ) : Type 0 where
  pub bytes : List ℕ
  pub value : v ≡ s ++ bytes
  pub tail : Tail rest bytes

pub backslash_first : (b : ℕ) → is_escaped b ≡ false → b ≡ backslash → ⊥
backslash_first b h e = grind arith

quote_first : (b : ℕ) → is_escaped b ≡ false → b ≡ quote → ⊥
quote_first b h e = grind arith

pub rest_of : (s rest v : List ℕ) → escaped s ++ rest ≡ escaped v ++ quote ∷ []
    → Every is_visible v → Rest s rest v
rest_of [] rest v e h = record { bytes = v; value = refl; tail = (e, h) }
rest_of (b ∷ s) rest [] e h = absurd (by (is_escaped b) refl)
  where
    by : (c : Bool) → is_escaped b ≡ c → ⊥
    by true i =
        let f : backslash ∷ (b ∷ (escaped s ++ rest)) ≡ quote ∷ [] = rw i at e in absurd cc
    by false i =
        let f : b ∷ (escaped s ++ rest) ≡ quote ∷ [] = rw i at e in
        let g : b ≡ quote = cc in quote_first b i g
rest_of (b ∷ s) rest (c ∷ v) e h =
    by (λ t. rest_of s rest v t h.1) (is_escaped b) refl (is_escaped c) refl
  where
    on : Rest s rest v → b ≡ c → Rest (b ∷ s) rest (c ∷ v)
    on r same = record { bytes = r.bytes; value = (let k = r.value in cc); tail = r.tail }

    by : (escaped s ++ rest ≡ escaped v ++ quote ∷ [] → Rest s rest v) → (x : Bool) → is_escaped b ≡ x → (y : Bool) → is_escaped c ≡ y → Rest (b ∷ s) rest (c ∷ v)
    by more true i true j =
        let f : backslash ∷ (b ∷ (escaped s ++ rest))
        ≡ backslash ∷ (c ∷ (escaped v ++ quote ∷ [])) = rw (i, j) at e in
        on (more cc) cc
    by more true i false j =
        let f : backslash ∷ (b ∷ (escaped s ++ rest)) ≡ c ∷ (escaped v ++ quote ∷ []) = rw (i, j) at e in
        absurd (backslash_first c j cc)
    by more false i true j =
        let f : b ∷ (escaped s ++ rest) ≡ backslash ∷ (c ∷ (escaped v ++ quote ∷ [])) = rw (i, j) at e in
        absurd (backslash_first b i cc)
    by more false i false j =
        let f : b ∷ (escaped s ++ rest) ≡ c ∷ (escaped v ++ quote ∷ []) = rw (i, j) at e in
        on (more cc) cc

-- what follows the bytes of a String is the rest of it
pub tail_texts : (s : List ℕ) → Every is_visible s
    → SameTexts Tail (Past (quote ∷ escaped s) SpellsString) (λ r. s ++ r)
tail_texts s h = record {
  up = λ t r k. (
    ap (λ x. quote ∷ x) (ap (λ x. escaped s ++ x) k.0
        ∙ (sym (append_assoc (escaped s) (escaped r) (quote ∷ []))
        ∙ ap (λ x. x ++ quote ∷ []) (sym (escaped_append s r)))),
    every_append is_visible s r h k.1,
  );
  down = λ t v k. let r = rest_of s t v (let e = k.0 in cc) k.1 in (r.bytes, r.tail);
}

unescaped_byte : (b : ℕ) (t : List ℕ) → (b == backslash) ≡ false → unescaped (b ∷ t) ≡ b ∷ unescaped t
unescaped_byte b [] h = refl
unescaped_byte b (c ∷ t) h = rw h refl

no_backslash : (b : ℕ) → is_escaped b ≡ false → (b == backslash) ≡ false
no_backslash b h = grind arith

pub unescaped_escaped : (s : List ℕ) → unescaped (escaped s) ≡ s
unescaped_escaped [] = refl
unescaped_escaped (b ∷ s) = by (is_escaped b) refl (unescaped_escaped s)
  where
    by : (c : Bool) → is_escaped b ≡ c → unescaped (escaped s) ≡ s
        → unescaped (cond c (backslash ∷ b ∷ escaped s) (b ∷ escaped s)) ≡ b ∷ s
    by true i e = ap (λ t. b ∷ t) e
    by false i e = unescaped_byte b (escaped s) (no_backslash b i) ∙ ap (λ t. b ∷ t) e

-- the places in a String
visible_text : (s : List ℕ) → Every is_visible s → Every is_visible (escaped s ++ quote ∷ [])
visible_text [] h = (refl, tt)
visible_text (b ∷ s) h = by (is_escaped b) (visible_text s h.1)
  where
    by : (c : Bool) → Every is_visible (escaped s ++ quote ∷ [])
        → Every is_visible (cond c (backslash ∷ b ∷ escaped s) (b ∷ escaped s) ++ quote ∷ [])
    by true k = (refl, (h.0, k))
    by false k = (h.0, k)

one_byte : (b : ℕ) → is_visible b ≡ true → is_escaped b ≡ false → Tail (b ∷ quote ∷ []) (b ∷ [])
one_byte b h i = (rw i refl, (h, tt))

escaped_cases : (b : ℕ) → is_escaped b ≡ true → (b ≡ quote) ⊎ (b ≡ backslash)
escaped_cases b h = by (b == quote) refl
  where
    by : (x : Bool) → (b == quote) ≡ x → (b ≡ quote) ⊎ (b ≡ backslash)
    by true e = inl (eqb-true b quote e)
    by false e = inr (eqb-true b backslash (let k : (b == quote || b == backslash) ≡ true = h in rw e at k))

pub inside_followed : IsFollowed Tail is_visible []
inside_followed = record {
  viable = (quote ∷ [], [], (refl, tt));
  may = λ b h. by b h (is_escaped b) refl;
  only = λ b c. (subst (Every is_visible) (sym c.2.0) (visible_text c.1 c.2.1)).0;
}
  where
    by : (b : ℕ) → is_visible b ≡ true → (x : Bool) → is_escaped b ≡ x
        → (u v : List ℕ) × Tail (b ∷ u) v
    by b h false i = (quote ∷ [], b ∷ [], one_byte b h i)
    by b h true i = elim (escaped_cases b i) [
      | inl e ↦ ([], [], (ap (λ x. x ∷ []) e, tt))
      | inr e ↦ (
        quote ∷ quote ∷ [],
        quote ∷ [],
        (ap (λ x. x ∷ quote ∷ quote ∷ []) e, (refl, tt)),
      )
    ]

escaped_visible : (b : ℕ) → is_escaped b ≡ true → is_visible b ≡ true
escaped_visible b h = elim (escaped_cases b h) [ inl e ↦ rw e refl | inr e ↦ rw e refl ]

after_backslash : (b : ℕ) (u v : List ℕ) → backslash ∷ (b ∷ u) ≡ escaped v ++ quote ∷ []
    → is_escaped b ≡ true
after_backslash b u [] e = absurd cc
after_backslash b u (c ∷ v) e = on (is_escaped c) refl
  where
    on : (x : Bool) → is_escaped c ≡ x → is_escaped b ≡ true
    on true i =
        let f : backslash ∷ (b ∷ u) ≡ backslash ∷ (c ∷ (escaped v ++ quote ∷ [])) = rw i at e in
        let same : b ≡ c = cc in rw same i
    on false i =
        let f : backslash ∷ (b ∷ u) ≡ c ∷ (escaped v ++ quote ∷ []) = rw i at e in
        absurd (backslash_first c i cc)

pub backslash_followed : IsFollowed Tail is_escaped (backslash ∷ [])
backslash_followed = record {
  viable = (quote ∷ quote ∷ [], quote ∷ [], (refl, (refl, tt)));
  may = λ b h. (quote ∷ [], b ∷ [], (rw h refl, (escaped_visible b h, tt)));
  only = λ b c. after_backslash b c.0 c.1 c.2.0;
}

apart : quote ≡ backslash → ⊥
apart e = omega arith

after_quote : (b : ℕ) (u v : List ℕ) → quote ∷ (b ∷ u) ≡ escaped v ++ quote ∷ [] → ⊥
after_quote b u [] e = cons_nil b u (tails quote quote (b ∷ u) [] e)
after_quote b u (c ∷ v) e = on (is_escaped c) refl
  where
    on : (x : Bool) → is_escaped c ≡ x → ⊥
    on true i =
        let f : quote ∷ (b ∷ u) ≡ backslash ∷ (c ∷ (escaped v ++ quote ∷ [])) = rw i at e in
        apart (heads quote backslash (b ∷ u) (c ∷ (escaped v ++ quote ∷ [])) f)
    on false i =
        let f : quote ∷ (b ∷ u) ≡ c ∷ (escaped v ++ quote ∷ []) = rw i at e in
        quote_first c i (sym (heads quote c (b ∷ u) (escaped v ++ quote ∷ []) f))

pub closed_followed : IsFollowed Tail (λ b. false) (quote ∷ [])
closed_followed = record {
  viable = ([], [], (refl, tt));
  may = λ b h. absurd cc;
  only = λ b c. absurd (after_quote b c.0 c.1 c.2.0);
}

-- how they are read
pub past_run : (text run rest : List ℕ) → text ≡ run ++ rest → Every is_unescaped run
    → PastEscaped text rest
past_run text run rest e h = record {
  bytes = run;
  split = e ∙ ap (λ x. x ++ rest) (sym (escaped_run run h));
  visible = visible_run run h;
}

pub past_escape : (text rest escape more run left : List ℕ) → PastEscaped text rest
    → rest ≡ backslash ∷ escape → BeginsEscaped escape more → more ≡ run ++ left
    → Every is_unescaped run → PastEscaped text left
past_escape text rest escape more run left p e b f h = record {
  bytes = p.bytes ++ b.0 ∷ run;
  split = p.split ∙ (ap (λ x. escaped p.bytes ++ x) whole
      ∙ (sym (append_assoc (escaped p.bytes) (escaped (b.0 ∷ run)) left)
      ∙ ap (λ x. x ++ left) (sym (escaped_append p.bytes (b.0 ∷ run)))));
  visible = every_append is_visible p.bytes (b.0 ∷ run) p.visible
      (escaped_visible b.0 b.2, visible_run run h);
}
  where
    first : escaped (b.0 ∷ run) ≡ backslash ∷ b.0 ∷ run
    first = let i : is_escaped b.0 ≡ true = b.2 in
        rw i (ap (λ x. backslash ∷ b.0 ∷ x) (escaped_run run h))

    whole : rest ≡ escaped (b.0 ∷ run) ++ left
    whole = e ∙ (ap (λ x. backslash ∷ x) (b.1 ∙ ap (λ x. b.0 ∷ x) f)
        ∙ ap (λ x. x ++ left) (sym first))
