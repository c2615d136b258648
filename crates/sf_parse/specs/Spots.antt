-- The place of a refusal in the lines of a field.
use Rattle.std.specs.Prelude.{ℕ, suc, ◌+◌, ◌-◌, min, nat_lt, if◌then◌else◌, List, [], ◌∷◌, ◌++◌}
use Rattle.std.specs.Prelude.{length}
use Rattle.std.specs.Prelude.{map, replicate, codes, decimal, Option, Some, None, MatchOption}
use Rattle.std.specs.Prelude.{◌≡◌, ◌≤◌, ◌<◌, ◌⊎◌, slice_get}
use Rattle.sf_value.specs.Ascii.{space, comma, question_mark}
use Rattle.sf_value.specs.Grammar.Classes.{is_visible}
use Rattle.sf_value.specs.Grammar.Lines.{join}
use Rattle.sf_parse.specs.RefusalTexts.{refusal_text}
use Rattle.sf_parse.specs.declared.refusal.Refusal.{Refusal}
use Rattle.sf_parse.specs.declared.refusal.Refusal.TheVariants.{Syntax}
use Rattle.sf_parse.specs.declared.spots.Spot.{Spot}
use Rattle.sf_parse.specs.declared.spots.InLine.{InLine}

-- a line by its number, an offset in it, and its bytes
pub record LinePlace : Type 0 where
  pub line : ℕ
  pub place : ℕ
  pub text : List ℕ

-- the place in lines, numbered from n on, of a place in their joined text: the comma and the space
-- after a line belong to its end, and so does everything after the last
abbrev pub place_in : ℕ → List (List ℕ) → ℕ → Option LinePlace
place_in n [] place = None
place_in n (l ∷ []) place =
    Some (record { line = n; place = min place (length l); text = l })
place_in n (l ∷ m ∷ ls) place =
    if nat_lt (place - length l) 2
    then Some (record { line = n; place = min place (length l); text = l })
    else place_in (suc n) (m ∷ ls) (place - length l - 2)

-- what is after a line: the comma or the space before the next one, and nothing after the last
abbrev pub IsBehindLine : List (List ℕ) → Option ℕ → Type 0
IsBehindLine [] byte = byte ≡ None
IsBehindLine (l ∷ ls) byte = (byte ≡ Some comma) ⊎ (byte ≡ Some space)

-- the spot is that of a place of the joined lines, numbered from n on: it is in the line of its
-- number, and the byte at the place of the joined text is the one at its offset in the line, or is
-- after the line
pub record IsSpot (n : ℕ) (lines : List (List ℕ)) (place : ℕ) (p : LinePlace) : Type 0 where
  pub before : List (List ℕ)
  pub behind : List (List ℕ)
  pub line : lines ≡ before ++ p.text ∷ behind
  pub number : p.line ≡ n + length before
  pub within : p.place ≤ length p.text
  pub byte : p.place < length p.text → slice_get (join lines) place ≡ slice_get p.text p.place
  pub end : p.place ≡ length p.text → IsBehindLine behind (slice_get (join lines) place)

-- each place of joined lines has a spot, unless there is no line
abbrev pub PlacesAreSpots : Type 0
PlacesAreSpots =
    (lines : List (List ℕ)) (place : ℕ)
    → MatchOption (place_in 1 lines place) (lines ≡ []) (IsSpot 1 lines place)

-- the place of a refusal in the lines of a field, if it has one; the first is line 1
abbrev pub stands_at : Refusal → List (List ℕ) → Option LinePlace
stands_at (Syntax place found expected may_end) lines = place_in 1 lines place
stands_at _ lines = None

-- the line and the offset of a spot
abbrev pub line_place : Option Spot → Option LinePlace
line_place None = None
line_place (Some s) = Some (record { line = s.line; place = s.place; text = s.text.now })

-- a byte of a line, or a question mark if it is not printable
abbrev pub printed_byte : ℕ → ℕ
printed_byte b = if is_visible b then b else question_mark

-- a line, one character for each of its bytes
abbrev pub printed : List ℕ → List ℕ
printed text = map printed_byte text

-- the line, with a caret under the place
abbrev pub marked_text : Option LinePlace → List ℕ
marked_text None = []
marked_text (Some p) =
    codes "\nline " ++ (decimal p.line ++ (codes ", place " ++ (decimal p.place ++ (codes ":\n"
    ++ (printed p.text ++ (codes "\n" ++ (replicate p.place space ++ codes "^")))))))

-- a refusal with its line
abbrev pub in_line_text : InLine → List ℕ
in_line_text shown = refusal_text shown.refusal ++ marked_text (line_place shown.spot)
