-- Texts of one language or another, where the first byte tells which.
use Rattle.std.proofs.Common.{◌≡◌, ◌≢◌, ℕ, Bool, true, List, [], ◌∷◌, ◌++◌, refl}
use Rattle.std.proofs.Common.{◌⊎◌, inl, inr, ◌||◌}
use Rattle.sf_value.specs.Grammar.Lines.{Continues}
use Rattle.sf_scan.specs.Languages.{Either}
use Rattle.sf_scan.specs.Lifts.{Lifts}
use Rattle.sf_scan.specs.Stops.{Past, IsFollowed}
use Rattle.sf_scan.specs.Languages.{Apart}
use Rattle.sf_scan.proofs.Languages.{SameTexts}
use Rattle.sf_scan.proofs.Lifts.{lifts_first}
use Rattle.sf_scan.proofs.Sequences.{or_left, or_right, or_cases, continues_before_first}

module _ {V W : Type 0} (L : List ℕ → V → Type 0) (R : List ℕ → W → Type 0) where
  pub left_texts : (c : ℕ) → ((t : List ℕ) (w : W) → R (c ∷ t) w → ⊥)
      → SameTexts (Past (c ∷ []) L) (Past (c ∷ []) (Either L R)) inl
  left_texts c never = record { up = λ t v h. h; down = λ t x h. by t x h }
    where
      by : (t : List ℕ) (x : V ⊎ W) → Either L R (c ∷ t) x → (v : V) × L (c ∷ t) v
      by t (inl v) h = (v, h)
      by t (inr w) h = absurd (never t w h)

  pub right_texts : (c : ℕ) → ((t : List ℕ) (v : V) → L (c ∷ t) v → ⊥)
      → SameTexts (Past (c ∷ []) R) (Past (c ∷ []) (Either L R)) inr
  right_texts c never = record { up = λ t w h. h; down = λ t x h. by t x h }
    where
      by : (t : List ℕ) (x : V ⊎ W) → Either L R (c ∷ t) x → (w : W) × R (c ∷ t) w
      by t (inl v) h = absurd (never t v h)
      by t (inr w) h = (w, h)

  -- before the first byte
  pub either_followed : (p q : ℕ → Bool) → IsFollowed L p [] → IsFollowed R q []
      → IsFollowed (Either L R) (λ b. p b || q b) []
  either_followed p q f g = record {
    viable = (f.viable.0, inl f.viable.1, f.viable.2);
    may = λ b h. elim (or_cases (p b) (q b) h) [
      | inl k ↦ let c = f.may b k in (c.0, inl c.1, c.2)
      | inr k ↦ let c = g.may b k in (c.0, inr c.1, c.2)
    ];
    only = λ b c. by b c.0 c.1 c.2;
  }
    where
      by : (b : ℕ) (u : List ℕ) (x : V ⊎ W) → Either L R (b ∷ u) x → (p b || q b) ≡ true
      by b u (inl v) h = or_left (p b) (q b) (f.only b (u, v, h))
      by b u (inr w) h = or_right (p b) (q b) (g.only b (u, w, h))

  -- what ends the one and the other ends either
  pub either_apart : (F : ℕ → Bool) → Apart L F → Apart R F
      → ((c : ℕ) (t u : List ℕ) (v : V) (w : W) → L (c ∷ t) v → R (c ∷ u) w → ⊥)
      → ((v : V) → L [] v → ⊥) → ((w : W) → R [] w → ⊥) → Apart (Either L R) F
  either_apart F f g never l r [] (inl v) b h e c = l v h
  either_apart F f g never l r [] (inr w) b h e c = r w h
  either_apart F f g never l r (d ∷ a) (inl v) b h e c = by c.1 c.2
    where
      by : (x : V ⊎ W) → Either L R (d ∷ ((a ++ b ∷ []) ++ c.0)) x → ⊥
      by (inl x) k = f (d ∷ a) v b h e (c.0, x, k)
      by (inr x) k = never d a _ v x h k
  either_apart F f g never l r (d ∷ a) (inr w) b h e c = by c.1 c.2
    where
      by : (x : V ⊎ W) → Either L R (d ∷ ((a ++ b ∷ []) ++ c.0)) x → ⊥
      by (inl x) k = never d _ a x w k h
      by (inr x) k = g (d ∷ a) w b h e (c.0, x, k)

  -- a prefix that begins a text of L, where no text of R begins so
  pub left_lifts : (p text left : List ℕ) → Continues L p → text ≡ p ++ left → p ≢ []
      → ((c : ℕ) (more : List ℕ) → text ≡ c ∷ more → (t : List ℕ) (w : W) → R (c ∷ t) w → ⊥)
      → Lifts L text (Either L R) text inl
  left_lifts [] text left k e n never = absurd (n refl)
  left_lifts (c ∷ p) text left k e n never =
      lifts_first L (Either L R) inl c (p ++ left) text (continues_before_first L c p k)
      (left_texts c (never c (p ++ left) e)) e
