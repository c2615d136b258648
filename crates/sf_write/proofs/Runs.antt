-- Texts in which some bytes stand for themselves: a run of these goes out at once.
use Rattle.std.proofs.Common.{◌≡◌, ℕ, suc, ◌+◌, Bool, true, false, not, List, [], ◌∷◌, ◌++◌}
use Rattle.std.proofs.Common.{◌/◌, ◌%◌, ◌<◌, ◌≤◌, length, take, drop, refl, sym, ap, ◌∙◌, subst}
use Rattle.std.proofs.Common.{arith}
use Rattle.std.proofs.lemmas.List.{take-append-drop, length-take-le}
use Rattle.std.specs.List.{prefix_len, IsSplitAt}
use Rattle.sf_value.specs.Grammar.Words.{Every}
use Rattle.sf_value.specs.Grammar.Strings.{escaped, is_escaped}
use Rattle.sf_value.specs.Grammar.DisplayStrings.{hex, is_unencoded}
use Rattle.sf_value.specs.Grammar.Canonical.{canon_shown}

-- a known run, and what is found after it
pub prefix_after : (p : ℕ → Bool) (s prefix behind : List ℕ) → s ≡ prefix ++ behind
    → Every p prefix → length prefix + prefix_len p behind ≡ prefix_len p s
prefix_after p s prefix behind e h = known prefix h ∙ sym (ap (prefix_len p) e)
  where
    known : (t : List ℕ) → Every p t
        → length t + prefix_len p behind ≡ prefix_len p (t ++ behind)
    known [] k = omega arith
    known (b ∷ t) k = rw k.0 (omega (arith, known t k.1))

-- a run that ends within what is near
prefix_within : (p : ℕ → Bool) (s near far : List ℕ) → s ≡ near ++ far
    → prefix_len p near < length near → prefix_len p near ≡ prefix_len p s
prefix_within p s near far e h = known near h ∙ sym (ap (prefix_len p) e)
  where
    known : (t : List ℕ) → prefix_len p t < length t → prefix_len p t ≡ prefix_len p (t ++ far)
    known [] k = absurd (omega (arith, k))
    known (b ∷ t) k = by (p b) refl (λ l. known t l)
      where
        by : (r : Bool) → p b ≡ r
            → (prefix_len p t < length t → prefix_len p t ≡ prefix_len p (t ++ far))
            → prefix_len p (b ∷ t) ≡ prefix_len p (b ∷ t ++ far)
        by true q rest =
            let l : 1 + prefix_len p t < length (b ∷ t) = rw q at k in
            rw q (ap (λ n. 1 + n) (rest (omega (arith, l))))
        by false q rest = rw q

-- a run that is all of what is near
prefix_whole : (p : ℕ → Bool) (t : List ℕ) → length t ≤ prefix_len p t → Every p t
prefix_whole p [] h = tt
prefix_whole p (b ∷ t) h = by (p b) refl (λ l. prefix_whole p t l)
  where
    by : (r : Bool) → p b ≡ r → (length t ≤ prefix_len p t → Every p t) → Every p (b ∷ t)
    by true q rest =
        let l : length (b ∷ t) ≤ 1 + prefix_len p t = rw q at h in
        (q, rest (omega (arith, l)))
    by false q rest = absurd (let l : length (b ∷ t) ≤ 0 = rw q at h in omega (arith, l))

pub near_far : (s near far : List ℕ) (n : ℕ) → near ≡ take n s → far ≡ drop n s → s ≡ near ++ far
near_far s near far n e f = rw (e, f) (sym (take-append-drop n s))

-- the first bytes and the rest
pub first_split : (s near far : List ℕ) (n : ℕ)
    → (near ≡ take n s) × (far ≡ drop n s) × (length far + n ≡ length s) → IsSplitAt s n near far
first_split s near far n (e, f, k) =
    let enough : n ≤ length s = omega (arith, k) in
    (enough, e, f, rw e (length-take-le n s enough), k)

-- a run that is found in what is near
pub run_near : (p : ℕ → Bool) (s near far : List ℕ) (n len : ℕ) → IsSplitAt s n near far
    → len ≡ prefix_len p near → len < n → len ≡ prefix_len p s
run_near p s near far n len (_, e, f, k, _) found less =
    found ∙ prefix_within p s near far (near_far s near far n e f) (omega (arith, found, less, k))

-- a run that goes on after it
pub run_far : (p : ℕ → Bool) (s near far : List ℕ) (n len more : ℕ) → IsSplitAt s n near far
    → len ≡ prefix_len p near → n ≤ len → more ≡ prefix_len p far → n + more ≡ prefix_len p s
run_far p s near far n len more (_, e, f, k, _) found all behind =
    rw (sym k, behind)
    (prefix_after p s near far (near_far s near far n e f)
    (prefix_whole p near (omega (arith, found, all, k))))

module _ (as_is : ℕ → Bool) where
  -- after a run is a byte that doesn't belong to it
  run_stops : (s : List ℕ) (b : ℕ) (more : List ℕ) → drop (prefix_len as_is s) s ≡ b ∷ more
      → as_is b ≡ false
  run_stops [] b more e = absurd cc
  run_stops (c ∷ s) b more e = by (as_is c) refl (run_stops s b more)
    where
      by : (r : Bool) → as_is c ≡ r
          → (drop (prefix_len as_is s) s ≡ b ∷ more → as_is b ≡ false)
          → as_is b ≡ false
      by true h rest =
          let next : 1 + prefix_len as_is s ≡ suc (prefix_len as_is s) = omega arith in
          let behind : drop (prefix_len as_is s) s ≡ b ∷ more = rw (h, next) at e in
          rest behind
      by false h rest =
          let here : c ∷ s ≡ b ∷ more = rw h at e in
          let same : c ≡ b = cc in
          subst (λ x. as_is x ≡ false) same h

  module _ (text : List ℕ → List ℕ)
      (itself : (b : ℕ) (s : List ℕ) → as_is b ≡ true → text (b ∷ s) ≡ b ∷ text s) where
    run_goes : (s : List ℕ)
        → text s ≡ take (prefix_len as_is s) s ++ text (drop (prefix_len as_is s) s)
    run_goes [] = refl
    run_goes (b ∷ s) = by (as_is b) refl (run_goes s)
      where
        by : (r : Bool) → as_is b ≡ r
            → text s ≡ take (prefix_len as_is s) s ++ text (drop (prefix_len as_is s) s)
            → text (b ∷ s)
            ≡ take (prefix_len as_is (b ∷ s)) (b ∷ s)
            ++ text (drop (prefix_len as_is (b ∷ s)) (b ∷ s))
        by true e rest =
            let next : 1 + prefix_len as_is s ≡ suc (prefix_len as_is s) = omega arith in
            itself b s e ∙ ap (λ t. b ∷ t) rest ∙ rw (e, next)
        by false e rest = rw e

    -- the run, and the text of what is after it
    pub run_prefix : (s prefix behind : List ℕ) (n : ℕ) → n ≡ prefix_len as_is s → prefix ≡ take n s
        → behind ≡ drop n s → text s ≡ prefix ++ text behind
    run_prefix s prefix behind n e f b = rw (f, b, e) (run_goes s)

    -- a byte after the run, by what it is as
    pub run_byte : (escape : ℕ → List ℕ)
        → ((b : ℕ) (s : List ℕ) → as_is b ≡ false → text (b ∷ s) ≡ escape b ++ text s)
        → (s behind more : List ℕ) (n b : ℕ) → n ≡ prefix_len as_is s → behind ≡ drop n s
        → behind ≡ b ∷ more → text behind ≡ escape b ++ text more
    run_byte escape other s behind more n b e d h =
        ap text h ∙ other b more (run_stops s b more (rw (d, e) at h))

-- in a String: the escaped bytes and the quote
abbrev pub closed : List ℕ → List ℕ
closed s = escaped s ++ 34 ∷ []

no_backslash : (b : ℕ) (s : List ℕ) → not (is_escaped b) ≡ true → closed (b ∷ s) ≡ b ∷ closed s
no_backslash b s e = by (is_escaped b) refl
  where
    by : (r : Bool) → is_escaped b ≡ r → closed (b ∷ s) ≡ b ∷ closed s
    by true h = let never : false ≡ true = rw h at e in absurd cc
    by false h = rw h

backslash : (b : ℕ) (s : List ℕ) → not (is_escaped b) ≡ false
    → closed (b ∷ s) ≡ (92 ∷ b ∷ []) ++ closed s
backslash b s e = by (is_escaped b) refl
  where
    by : (r : Bool) → is_escaped b ≡ r → closed (b ∷ s) ≡ (92 ∷ b ∷ []) ++ closed s
    by true h = rw h
    by false h = let never : true ≡ false = rw h at e in absurd cc

pub string_run : (s prefix behind : List ℕ) (n : ℕ) → n ≡ prefix_len (λ b. not (is_escaped b)) s
    → prefix ≡ take n s → behind ≡ drop n s → closed s ≡ prefix ++ closed behind
string_run = run_prefix (λ b. not (is_escaped b)) closed no_backslash

pub string_escape : (s behind more : List ℕ) (n b : ℕ)
    → n ≡ prefix_len (λ b. not (is_escaped b)) s → behind ≡ drop n s → behind ≡ b ∷ more
    → closed behind ≡ (92 ∷ b ∷ []) ++ closed more
string_escape =
    run_byte (λ b. not (is_escaped b)) closed no_backslash (λ b. 92 ∷ b ∷ []) backslash

-- in a Display String: its chunks and the quote
as_itself : (b : ℕ) (s : List ℕ) → is_unencoded b ≡ true → canon_shown (b ∷ s) ≡ b ∷ canon_shown s
as_itself b s e = rw e

as_escape : (b : ℕ) (s : List ℕ) → is_unencoded b ≡ false
    → canon_shown (b ∷ s) ≡ (37 ∷ hex (b / 16) ∷ hex (b % 16) ∷ []) ++ canon_shown s
as_escape b s e = rw e

pub shown_run : (s prefix behind : List ℕ) (n : ℕ) → n ≡ prefix_len is_unencoded s → prefix
    ≡ take n s
    → behind ≡ drop n s → canon_shown s ≡ prefix ++ canon_shown behind
shown_run = run_prefix is_unencoded canon_shown as_itself

pub shown_escape : (s behind more : List ℕ) (n b : ℕ) → n ≡ prefix_len is_unencoded s
    → behind ≡ drop n s → behind ≡ b ∷ more
    → canon_shown behind ≡ (37 ∷ hex (b / 16) ∷ hex (b % 16) ∷ []) ++ canon_shown more
shown_escape = run_byte is_unencoded canon_shown as_itself
    (λ b. 37 ∷ hex (b / 16) ∷ hex (b % 16) ∷ []) as_escape

-- no byte is left: the quote alone
pub string_end : (s : List ℕ) → length s ≡ 0 → closed s ≡ 34 ∷ []
string_end [] e = refl
string_end (b ∷ s) e = absurd (omega arith)

pub shown_end : (s : List ℕ) → length s ≡ 0 → canon_shown s ≡ 34 ∷ []
shown_end [] e = refl
shown_end (b ∷ s) e = absurd (omega arith)
