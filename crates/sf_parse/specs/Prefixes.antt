-- What a machine takes of a chunk: some prefix of it, or the longest that it can continue with.
use Rattle.std.specs.Prelude.{◌≡◌, ℕ, Bool, true, false, List, [], ◌∷◌, ◌++◌, Option, Some, None}
use Rattle.std.specs.Prelude.{⊤}
use Rattle.sf_parse.specs.Machine.Language.{run}

-- the bytes before the rest of the chunk lead from the old state to the new one
pub record Goes {S : Type 0} (next : S → ℕ → Option S) (old : S) (chunk rest : List ℕ) (new : S)
    : Type 0 where
  pub taken : List ℕ
  pub split : chunk ≡ taken ++ rest
  pub leads : run next old taken ≡ Some new

-- P holds for the first byte, if there is one
abbrev pub FirstIs : (ℕ → Type 0) → List ℕ → Type 0
FirstIs P [] = ⊤
FirstIs P (b ∷ more) = P b

-- the rest of one byte: none if it was taken
abbrev pub unless : Bool → ℕ → List ℕ
unless true b = []
unless false b = b ∷ []

-- the machine can't continue with this byte
abbrev pub Halts : {S : Type 0} → (S → ℕ → Option S) → S → ℕ → Type 0
Halts next s b = next s b ≡ None

-- the bytes before the rest of the chunk lead from the old state to the new one, which can't
-- continue with the first byte of the rest
pub record LongestPrefix {S : Type 0} (next : S → ℕ → Option S) (old : S) (chunk rest : List ℕ)
    (new : S)
    : Type 0 where
  pub goes : Goes next old chunk rest new
  pub stops : FirstIs (Halts next new) rest

-- the new state is the one that the byte begins, or the byte begins none
abbrev pub Starts : {S : Type 0} → Bool → Option S → S → Type 0
Starts true first new = first ≡ Some new
Starts false first new = first ≡ None
