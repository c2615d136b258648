-- What is read from the rest of a text, seen from the whole.
use Rattle.std.specs.Prelude.{ℕ, Bool, List}
use Rattle.sf_scan.specs.Stops.{Reads, Refuses}

-- however a text of S is read from the rest, or refused there, a text of L is from the whole
pub record Lifts {V W : Type 0} (S : List ℕ → V → Type 0) (rest : List ℕ)
    (L : List ℕ → W → Type 0) (text : List ℕ) (into : V → W)
    : Type 0 where
  pub reads : (next : ℕ → Bool) (v : V) (left : List ℕ) → Reads S next rest v left
      → Reads L next text (into v) left
  pub refuses : (next : ℕ → Bool) (left : List ℕ) → Refuses S next rest left
      → Refuses L next text left
