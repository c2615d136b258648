-- The bytes of Strings, Byte Sequences and Display Strings, read from their text.
use Rattle.std.specs.Prelude.{◌≡◌, ℕ, ◌<◌, List, [], ◌∷◌, ◌++◌, ◌⊎◌, Option, Some, None}
use Rattle.sf_value.specs.Ascii.{quote}
use Rattle.sf_value.specs.declared.dialect.Dialect.{Dialect}
use Rattle.sf_value.specs.declared.value.Bare.TheVariants.{Text, Blob, Shown}
use Rattle.sf_value.specs.Grammar.Strings.{escaped}
use Rattle.sf_value.specs.Grammar.ByteSequences.{letter, Sextets}
use Rattle.sf_value.specs.Grammar.DisplayStrings.{EncodedBytes}
use Rattle.sf_view.specs.declared.bytes.Coding.{Coding}
use Rattle.sf_view.specs.declared.bytes.Coding.TheVariants as coding
use Rattle.sf_view.specs.declared.view.Slice.{Slice}
use Rattle.sf_view.specs.View.{DescribesText}

-- the bytes of the slice are these, as a String, a Byte Sequence or a Display String
abbrev pub HasBytes : Dialect → Slice → List ℕ → Type 0
HasBytes d s t =
    DescribesText d s.coded s.bytes.now (Text t)
    ⊎ DescribesText d s.coded s.bytes.now (Blob t)
    ⊎ DescribesText d s.coded s.bytes.now (Shown t)

-- the rest of the text spells these bytes: as they are, escaped, percent-encoded, or in base64 at
-- the first, second or third byte of a group. In the last two cases low is the bits of the next
-- byte that were read so far; with letter 0 for each earlier character and the letter of low before
-- it, the rest is whole groups
abbrev pub Remains : Coding → List ℕ → List ℕ → Type 0
Remains coding.Verbatim rest s = rest ≡ s
Remains coding.Escaped rest s = rest ≡ escaped s ++ quote ∷ []
Remains coding.Percent rest s = EncodedBytes rest s
Remains coding.First rest s = Sextets rest s
Remains (coding.Second low) rest s = (low < 16) × Sextets (letter 0 ∷ letter low ∷ rest) (0 ∷ s)
Remains (coding.Third low) rest s =
    (low < 4) × Sextets (letter 0 ∷ letter 0 ∷ letter low ∷ rest) (0 ∷ 0 ∷ s)

-- the first of these bytes is b, and those after it are as P says
pub record TakesByte (b : ℕ) (P : List ℕ → Type 0) (s : List ℕ) : Type 0 where
  pub left : List ℕ
  pub split : s ≡ b ∷ left
  pub remains : P left

-- these bytes begin with the run, and those after it are as P says
pub record TakesRun (run : List ℕ) (P : List ℕ → Type 0) (s : List ℕ) : Type 0 where
  pub left : List ℕ
  pub split : s ≡ run ++ left
  pub remains : P left

-- the first of the bytes that the text spells, if there is one, and how the rest spells those after
-- it
abbrev pub GivesByte : Coding → List ℕ → Option ℕ → Coding → List ℕ → Type 0
GivesByte c rest None c' rest' = (s : List ℕ) → Remains c rest s → s ≡ []
GivesByte c rest (Some b) c' rest' =
    (s : List ℕ) → Remains c rest s → TakesByte b (Remains c' rest') s

-- the text is empty, or begins with no character of base64
abbrev pub NoLetter : List ℕ → Type 0
NoLetter [] = Unit {0}
NoLetter (b ∷ t) = (x : ℕ) → x < 64 → letter x ≡ b → ⊥
