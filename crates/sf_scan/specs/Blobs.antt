-- Byte Sequences: the places in them, and the bytes that their characters stand for.
use Rattle.std.specs.Prelude.{◌≡◌, ◌≢◌, ℕ, zero, suc, ◌+◌, ◌*◌, ◌/◌, ◌%◌, Bool, true, ◌==◌, ◌||◌}
use Rattle.std.specs.Prelude.{List, [], ◌∷◌, Option, Some, None}
use Rattle.sf_value.specs.Ascii.{colon, equals}
use Rattle.sf_value.specs.Digits.{sextet}
use Rattle.sf_value.specs.Grammar.ByteSequences.{is_base64}
use Rattle.sf_value.specs.Runs.{FirstIs}
use Rattle.sf_scan.specs.declared.blob_place.BlobPlace.{BlobPlace}
use Rattle.sf_scan.specs.declared.blob_place.BlobPlace.TheVariants as blob

-- the bytes that may come at a place in a Byte Sequence
abbrev pub in_blob : BlobPlace → ℕ → Bool
in_blob blob.Whole b = is_base64 b || b == colon
in_blob blob.One b = is_base64 b
in_blob blob.Two b = is_base64 b || (b == colon || b == equals)
in_blob blob.Three b = is_base64 b || (b == colon || b == equals)
in_blob blob.Pad b = b == colon || b == equals
in_blob blob.Padded b = b == colon

-- the place after an =, if one may come
abbrev pub padded : BlobPlace → Option BlobPlace
padded blob.Whole = None
padded blob.One = None
padded blob.Two = Some blob.Pad
padded blob.Three = Some blob.Padded
padded blob.Pad = Some blob.Padded
padded blob.Padded = None

-- the place after whole groups and this many characters, below 4
abbrev pub place_at : ℕ → BlobPlace
place_at zero = blob.Whole
place_at (suc zero) = blob.One
place_at (suc (suc zero)) = blob.Two
place_at (suc (suc (suc n))) = blob.Three

-- one more value, if the byte has one; nothing is read after a byte that has none
abbrev pub more_values : Option ℕ → List ℕ → List ℕ
more_values (Some x) xs = x ∷ xs
more_values None xs = []

-- the values of the characters of base64 that a text begins with
abbrev pub values : List ℕ → List ℕ
values [] = []
values (b ∷ t) = more_values (sextet b) (values t)

-- the bytes of these values: four values are three bytes. The last two or three are one or two bytes,
-- and their last bits belong to none
abbrev pub octets : List ℕ → List ℕ
octets [] = []
octets (x ∷ []) = []
octets (x ∷ y ∷ []) = (x * 4 + y / 16) ∷ []
octets (x ∷ y ∷ z ∷ []) = (x * 4 + y / 16) ∷ (y % 16 * 16 + z / 4) ∷ []
octets (x ∷ y ∷ z ∷ w ∷ s) =
    (x * 4 + y / 16) ∷ (y % 16 * 16 + z / 4) ∷ (z % 4 * 64 + w) ∷ octets s

-- the value of the text between the colons; its = stand for nothing
abbrev pub blob_bytes : List ℕ → List ℕ
blob_bytes t = octets (values t)

-- the closing colon may come, and comes
abbrev pub Closes : BlobPlace → List ℕ → List ℕ → Type 0
Closes p text rest = (in_blob p colon ≡ true) × (text ≡ colon ∷ rest)

-- it may not come, or another byte comes
abbrev pub StaysOpen : BlobPlace → List ℕ → Type 0
StaysOpen p = FirstIs (λ b. in_blob p colon ≡ true → b ≢ colon)
