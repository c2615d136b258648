-- The machine that reads Byte Sequences.
use Rattle.std.specs.Option.{option_or}
use Rattle.std.specs.Prelude.{◌≡◌, ℕ, ◌+◌, ◌-◌, ◌*◌, ◌/◌, ◌%◌, ◌<◌, Bool, true, false, ◌==◌, nat_lt}
use Rattle.std.specs.Prelude.{◌&&◌, if◌then◌else◌, List, [], ◌∷◌, ◌++◌, Option, Some, None}
use Rattle.sf_value.specs.Ascii.{colon, equals}
use Rattle.sf_value.specs.Grammar.Words.{allow}
use Rattle.sf_value.specs.Digits.{sextet}
use Rattle.sf_value.specs.Grammar.ByteSequences.{letter, Pads, Sextets}

-- the values of an open group
pub data Held : Type 0 where
  H0 : Held
  H1 : (x : ℕ) → Held
  H2 : (x y : ℕ) → Held
  H3 : (x y z : ℕ) → Held

abbrev pub letters : Held → List ℕ
letters H0 = []
letters (H1 x) = letter x ∷ []
letters (H2 x y) = letter x ∷ letter y ∷ []
letters (H3 x y z) = letter x ∷ letter y ∷ letter z ∷ []

-- whether the group may be the last one, then its bytes, and the number of = that complete it
abbrev pub is_last : Held → Bool
is_last H0 = true
is_last (H1 x) = false
is_last (H2 x y) = true
is_last (H3 x y z) = true

abbrev pub last_bytes : Held → List ℕ
last_bytes H0 = []
last_bytes (H1 x) = []
last_bytes (H2 x y) = (x * 4 + y / 16) ∷ []
last_bytes (H3 x y z) = (x * 4 + y / 16) ∷ (y % 16 * 16 + z / 4) ∷ []

abbrev pub lacking : Held → ℕ
lacking H0 = 0
lacking (H1 x) = 0
lacking (H2 x y) = 2
lacking (H3 x y z) = 1

pub data BlobState : Type 0 where
  Group : (bytes : List ℕ) (held : Held) → BlobState
  -- at most this many = may follow
  Padded : (bytes : List ℕ) (more : ℕ) → BlobState
  Ended : (bytes : List ℕ) → BlobState

abbrev pub ResidualBlob : BlobState → List ℕ → List ℕ → Type 0
ResidualBlob (Group bytes h) u v = (s : List ℕ) × Sextets (letters h ++ u) s × (v ≡ bytes ++ s)
ResidualBlob (Padded bytes n) u v = Pads n u × (v ≡ bytes)
ResidualBlob (Ended bytes) u v = (u ≡ []) × (v ≡ bytes)

abbrev pub GoodBlob : BlobState → Type 0
GoodBlob (Group bytes H0) = Unit {0}
GoodBlob (Group bytes (H1 x)) = x < 64
GoodBlob (Group bytes (H2 x y)) = (x < 64) × (y < 64)
GoodBlob (Group bytes (H3 x y z)) = (x < 64) × (y < 64) × (z < 64)
GoodBlob (Padded bytes n) = Unit {0}
GoodBlob (Ended bytes) = Unit {0}

-- the group with one more value
abbrev pub grown : List ℕ → Held → ℕ → BlobState
grown bytes H0 w = Group bytes (H1 w)
grown bytes (H1 x) w = Group bytes (H2 x w)
grown bytes (H2 x y) w = Group bytes (H3 x y w)
grown bytes (H3 x y z) w = Group (bytes
    ++ ((x * 4 + y / 16) ∷ (y % 16 * 16 + z / 4) ∷ (z % 4 * 64 + w) ∷ [])) H0

abbrev pub pad_step : List ℕ → ℕ → ℕ → Option BlobState
pad_step bytes n b = option_or (allow (b == colon) (Ended bytes))
    (allow (b == equals && nat_lt 0 n) (Padded bytes (n - 1)))

abbrev pub end_step : List ℕ → Held → ℕ → Option BlobState
end_step bytes h b = if is_last h then pad_step (bytes ++ last_bytes h) (lacking h) b else None

abbrev pub grow_step : List ℕ → Held → Option ℕ → ℕ → Option BlobState
grow_step bytes h (Some w) b = Some (grown bytes h w)
grow_step bytes h None b = end_step bytes h b

abbrev pub blob_step : BlobState → ℕ → Option BlobState
blob_step (Group bytes h) b = grow_step bytes h (sextet b) b
blob_step (Padded bytes n) b = pad_step bytes n b
blob_step (Ended bytes) b = None

abbrev pub blob_finish : BlobState → Option (List ℕ)
blob_finish (Group bytes h) = None
blob_finish (Padded bytes n) = None
blob_finish (Ended bytes) = Some bytes
