-- What is read from the rest of a text, seen from the whole.
use Rattle.std.proofs.Common.{◌≡◌, ℕ, Bool, List, [], ◌∷◌, ◌++◌, subst, ◌∙◌, append_assoc}
use Rattle.sf_value.specs.Grammar.Lines.{Continues}
use Rattle.sf_scan.specs.Lifts.{Lifts}
use Rattle.sf_scan.specs.Outcomes.{Accepts, Rejects}
use Rattle.sf_scan.specs.declared.place.Stop.{Stop}
use Rattle.sf_scan.specs.Stops.{Past, Reads, Refuses}
use Rattle.sf_scan.proofs.Languages.{same_reads, same_refuses, past_reads, past_refuses}
use Rattle.sf_scan.proofs.Languages.{SameTexts}
use Rattle.sf_scan.proofs.Sequences.{peel_reads, peel_refuses, reads_as, refuses_as}

pub same_then : {U V W : Type 0} (S : List ℕ → U → Type 0) (T : List ℕ → V → Type 0)
    (L : List ℕ → W → Type 0) (f : U → V) (g : V → W) → SameTexts S T f → SameTexts T L g
    → SameTexts S L (λ u. g (f u))
same_then S T L f g s r = record {
  up = λ t u h. r.up t (f u) (s.up t u h);
  down = λ t w h. let k = r.down t w h in s.down t k.0 k.1;
}

-- the same texts after a byte are the same after more bytes
pub same_more : {V W : Type 0} (S : List ℕ → V → Type 0) (T : List ℕ → W → Type 0) (into : V → W)
    (c : ℕ) (p : List ℕ) → SameTexts (Past (c ∷ []) S) (Past (c ∷ []) T) into
    → SameTexts (Past (c ∷ p) S) (Past (c ∷ p) T) into
same_more S T into c p s =
    record { up = λ t v h. s.up (p ++ t) v h; down = λ t w h. s.down (p ++ t) w h }

-- the rest begins after p
pub lifts_past : {V W : Type 0} (S : List ℕ → V → Type 0) (L : List ℕ → W → Type 0)
    (into : V → W) (p rest text : List ℕ) → SameTexts S (Past p L) into → text ≡ p ++ rest
    → Lifts S rest L text into
lifts_past S L into p rest text s e = record {
  reads = λ next v left r.
      past_reads L next p rest text (into v) left e (same_reads S (Past p L) into s next rest v left r);
  refuses = λ next left r.
      past_refuses L next p rest text left e (same_refuses S (Past p L) into s next rest left r);
}

-- and the rest of the rest
pub lifts_then : {U V W : Type 0} (S : List ℕ → U → Type 0) (T : List ℕ → V → Type 0)
    (L : List ℕ → W → Type 0) (f : U → V) (g : V → W) (rest text whole : List ℕ)
    → Lifts S rest T text f → Lifts T text L whole g → Lifts S rest L whole (λ u. g (f u))
lifts_then S T L f g rest text whole s r = record {
  reads = λ next u left k. r.reads next (f u) left (s.reads next u left k);
  refuses = λ next left k. r.refuses next left (s.refuses next left k);
}

pub lifts_self : {V : Type 0} (L : List ℕ → V → Type 0) (text : List ℕ)
    → Lifts L text L text (λ v. v)
lifts_self L text = record { reads = λ next v left r. r; refuses = λ next left r. r }

-- a text that begins with a byte after which T and L have the same texts
pub lifts_first : {V W : Type 0} (T : List ℕ → V → Type 0) (L : List ℕ → W → Type 0)
    (into : V → W) (c : ℕ) (more text : List ℕ) → Continues T (c ∷ [])
    → SameTexts (Past (c ∷ []) T) (Past (c ∷ []) L) into → text ≡ c ∷ more
    → Lifts T text L text into
lifts_first T L into c more text k s e = record {
  reads = λ next v left r.
      past_reads L next (c ∷ []) more text (into v) left e
      (same_reads (Past (c ∷ []) T) (Past (c ∷ []) L) into s next more v left
      (peel_reads T next c more v left k (subst (λ t. Reads T next t v left) e r)));
  refuses = λ next left r.
      past_refuses L next (c ∷ []) more text left e
      (same_refuses (Past (c ∷ []) T) (Past (c ∷ []) L) into s next more left
      (peel_refuses T next c more left k (subst (λ t. Refuses T next t left) e r)));
}

-- what continues a text of L after p continues one of S
pub past_continues : {V W : Type 0} (S : List ℕ → V → Type 0) (L : List ℕ → W → Type 0)
    (into : V → W) (p t : List ℕ) → SameTexts S (Past p L) into → Continues L (p ++ t)
    → Continues S t
past_continues S L into p t s c =
    let k = s.down (t ++ c.0) c.1 (subst (λ z. L z c.1) (append_assoc p t c.0) c.2) in
    (c.0, k.0, k.1)

-- what a function returns, seen from a function that calls it
pub accepts_in : {V W M P Q : Type 0} (S : List ℕ → V → Type 0) (rest : List ℕ)
    (L : List ℕ → W → Type 0) (text : List ℕ) (into : V → W) (next : P → ℕ → Bool) (ends : P → Bool)
    (other : Q → ℕ → Bool) (last : Q → Bool) (build : M → V → M) (made : M → W → M)
    (old mid new : M) (stop : Stop P) (end : Stop Q) → Lifts S rest L text into
    → Accepts S next ends build rest mid new stop → end.left.now ≡ stop.left.now
    → ((b : ℕ) → other end.place b ≡ next stop.place b) → last end.place ≡ ends stop.place
    → ((v : V) → build mid v ≡ made old (into v)) → Accepts L other last made text old new end
accepts_in S rest L text into next ends other last build made old mid new stop end l a e f k m =
    record {
      value = into a.value;
      reads = rw e (reads_as L (next stop.place) (other end.place) text (into a.value) stop.left.now f
          (l.reads (next stop.place) a.value stop.left.now a.reads));
      made = a.made ∙ m a.value;
      ended = k ∙ a.ended;
    }

pub rejects_in : {V W P Q : Type 0} (S : List ℕ → V → Type 0) (rest : List ℕ)
    (L : List ℕ → W → Type 0) (text : List ℕ) (into : V → W) (next : P → ℕ → Bool) (ends : P → Bool)
    (other : Q → ℕ → Bool) (last : Q → Bool) (stop : Stop P) (end : Stop Q)
    → Lifts S rest L text into → Rejects S next ends rest stop → end.left.now ≡ stop.left.now
    → ((b : ℕ) → other end.place b ≡ next stop.place b) → last end.place ≡ ends stop.place
    → Rejects L other last text end
rejects_in S rest L text into next ends other last stop end l a e f k = record {
  refuses = rw e (refuses_as L (next stop.place) (other end.place) text stop.left.now f
      (l.refuses (next stop.place) stop.left.now a.refuses));
  open_still = k ∙ a.open_still;
}
