-- The state of the machine for what is read of a leaf, from the phase and the buffers of the code.
use Rattle.std.specs.Prelude.{◌≡◌, ℕ, ◌^◌, ◌<◌, ◌≤◌, Bool, true, false, List, [], Option}
use Rattle.std.specs.Prelude.{Some, None}
use Rattle.sf_value.specs.Grammar.Utf8.{Utf8, Start, utf8_step}
use Rattle.sf_parse.specs.Machine.Language.{run}
use Rattle.sf_parse.specs.Machine.Numbers.{NumberState, Whole, Fraction, DateState, Digits, Sign}
use Rattle.sf_parse.specs.Machine.Texts.{TextState, Inside, Escaped, Closed}
use Rattle.sf_parse.specs.Machine.Blobs.{BlobState, Group, Padded, Ended}
use Rattle.sf_parse.specs.Machine.Blobs as machine
use Rattle.sf_parse.specs.Machine.Showns.{ShownState, Quote, Unencoded, Percent, Hex, Done}
use Rattle.sf_parse.specs.declared.text.TextPhase.{TextPhase}
use Rattle.sf_parse.specs.declared.text.TextPhase.TheVariants as text_phase
use Rattle.sf_parse.specs.declared.blob.Held.{Held}
use Rattle.sf_parse.specs.declared.blob.Held.TheVariants as held
use Rattle.sf_parse.specs.declared.blob.BlobPhase.{BlobPhase}
use Rattle.sf_parse.specs.declared.blob.BlobPhase.TheVariants as blob_phase
use Rattle.sf_scan.specs.Characters.{utf8_of, can_begin}
use Rattle.sf_scan.specs.declared.char_place.CharPlace.{CharPlace}
use Rattle.sf_scan.specs.declared.char_place.CharPlace.TheVariants as chars_is
use Rattle.sf_parse.specs.declared.display_string.ShownPhase.{ShownPhase}
use Rattle.sf_parse.specs.declared.display_string.ShownPhase.TheVariants as shown_phase

-- the state of a number: in the fraction if there is a whole part, otherwise in the whole part
abbrev pub number_of : Bool → Option ℕ → ℕ → ℕ → NumberState
number_of negative None digits value = Whole negative digits value
number_of negative (Some whole) digits value = Fraction negative whole digits value

-- if there is a whole part, it has at most 12 digits, and the fraction this many, at most 3
abbrev pub FitsWhole : Option ℕ → ℕ → Type 0
FitsWhole None digits = Unit {0}
FitsWhole (Some whole) digits = (digits ≤ 3) × (whole < 10 ^ 12)

-- there are at most 15 digits, which bound the value, and the whole part fits
abbrev pub FitsNumber : Option ℕ → ℕ → ℕ → Type 0
FitsNumber whole digits value = (digits ≤ 15) × (value < 10 ^ digits) × FitsWhole whole digits

-- the state of a Date: before its sign, or after a sign or a digit
abbrev pub date_of : Bool → Bool → ℕ → ℕ → DateState
date_of false negative digits value = Sign
date_of true negative digits value = Digits negative digits value

-- a Date that was not begun has no sign and no digit
abbrev pub FitsSign : Bool → Bool → ℕ → Type 0
FitsSign false negative digits = (negative ≡ false) × (digits ≡ 0)
FitsSign true negative digits = Unit {0}

-- there are at most 15 digits, which bound the value, and the sign fits
abbrev pub FitsDate : Bool → Bool → ℕ → ℕ → Type 0
FitsDate begun negative digits value =
    (digits ≤ 15) × (value < 10 ^ digits) × FitsSign begun negative digits

-- the state of a String
abbrev pub text_of : TextPhase → List ℕ → TextState
text_of text_phase.Inside bytes = Inside bytes
text_of text_phase.Escaped bytes = Escaped bytes
text_of text_phase.Closed bytes = Closed bytes

-- an open group of a Byte Sequence
abbrev pub held_of : Held → machine.Held
held_of held.H0 = machine.H0
held_of (held.H1 x) = machine.H1 x
held_of (held.H2 x y) = machine.H2 x y
held_of (held.H3 x y z) = machine.H3 x y z

-- the state of a Byte Sequence
abbrev pub blob_of : BlobPhase → List ℕ → BlobState
blob_of (blob_phase.Group h) bytes = Group bytes (held_of h)
blob_of (blob_phase.Padded more) bytes = Padded bytes more
blob_of blob_phase.Ended bytes = Ended bytes

-- the values of the characters of a group are below 64
abbrev pub FitsHeld : Held → Type 0
FitsHeld held.H0 = Unit {0}
FitsHeld (held.H1 x) = x < 64
FitsHeld (held.H2 x y) = (x < 64) × (y < 64)
FitsHeld (held.H3 x y z) = (x < 64) × (y < 64) × (z < 64)

-- if a group is open, the values of its characters are below 64
abbrev pub FitsBlob : BlobPhase → Type 0
FitsBlob (blob_phase.Group h) = FitsHeld h
FitsBlob (blob_phase.Padded more) = Unit {0}
FitsBlob blob_phase.Ended = Unit {0}

-- the state of a Display String
abbrev pub shown_of : ShownPhase → List ℕ → CharPlace → ShownState
shown_of shown_phase.Quote bytes chars = Quote
shown_of shown_phase.Unencoded bytes chars = Unencoded bytes (utf8_of chars)
shown_of shown_phase.Percent bytes chars = Percent bytes (utf8_of chars)
shown_of (shown_phase.Hex high) bytes chars = Hex bytes (utf8_of chars) high
shown_of shown_phase.Done bytes chars = Done bytes

-- the bytes lead from the start to this state in a character
abbrev pub Leads : List ℕ → Utf8 → Type 0
Leads bytes x = run utf8_step Start bytes ≡ Some x

-- nothing is read before the quote; a byte that begins with the first digit of an escape may come;
-- whole characters at the end
abbrev pub FitsPhase : ShownPhase → List ℕ → CharPlace → Type 0
FitsPhase shown_phase.Quote bytes chars = (bytes ≡ []) × (chars ≡ chars_is.Start)
FitsPhase shown_phase.Unencoded bytes chars = Unit {0}
FitsPhase shown_phase.Percent bytes chars = Unit {0}
FitsPhase (shown_phase.Hex high) bytes chars = (high < 16) × (can_begin chars high ≡ true)
FitsPhase shown_phase.Done bytes chars = chars ≡ chars_is.Start

-- the bytes lead to the state in a character, and fit the phase
abbrev pub FitsShown : ShownPhase → List ℕ → CharPlace → Type 0
FitsShown phase bytes chars = Leads bytes (utf8_of chars) × FitsPhase phase bytes chars
