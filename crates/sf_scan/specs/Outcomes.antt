-- What a function returns that reads a text of a language L and gives a maker what it finds. `next` are
-- the bytes that may come at a place, `ends` says whether the text of L may end there, and `build` is
-- what is made of a value.
use Rattle.std.specs.Prelude.{⊤, ◌≡◌, ℕ, Bool, true, false, List, Result, Ok, Err}
use Rattle.sf_scan.specs.Stops.{Reads, Refuses}
use Rattle.sf_scan.specs.declared.place.Halt.{Halt}
use Rattle.sf_scan.specs.declared.place.Halt.TheVariants as halt
use Rattle.sf_scan.specs.declared.place.Stop.{Stop}

-- the text begins with a text of L, up to the stop, and the maker got its value
pub record Accepts {V M P : Type 0} (L : List ℕ → V → Type 0) (next : P → ℕ → Bool)
    (ends : P → Bool) (build : M → V → M) (text : List ℕ) (old new : M) (stop : Stop P)
    : Type 0 where
  pub value : V
  pub reads : Reads L (next stop.place) text value stop.left.now
  pub made : new ≡ build old value
  pub ended : ends stop.place ≡ true

-- no text of L begins the text: it goes wrong at the stop. Nothing is claimed of the maker
pub record Rejects {V P : Type 0} (L : List ℕ → V → Type 0) (next : P → ℕ → Bool) (ends : P → Bool)
    (text : List ℕ) (stop : Stop P)
    : Type 0 where
  pub refuses : Refuses L (next stop.place) text stop.left.now
  pub open_still : ends stop.place ≡ false

-- one of these, or a call of the maker failed
abbrev pub Scans : {V M P F : Type 0} → (List ℕ → V → Type 0) → (P → ℕ → Bool) → (P → Bool)
    → (M → V → M) → List ℕ → M → M → Result (Stop P) (Halt P F) → Type 0
Scans L next ends build text old new (Ok stop) = Accepts L next ends build text old new stop
Scans L next ends build text old new (Err (halt.Refused stop)) = Rejects L next ends text stop
Scans L next ends build text old new (Err (halt.Fault fault)) = ⊤

-- a text that goes wrong at its first byte leaves the maker as it was
abbrev pub Keeps : {M P F : Type 0} → List ℕ → M → M → Result (Stop P) (Halt P F) → Type 0
Keeps text old new (Ok stop) = ⊤
Keeps text old new (Err (halt.Refused stop)) = stop.left.now ≡ text → new ≡ old
Keeps text old new (Err (halt.Fault fault)) = ⊤
