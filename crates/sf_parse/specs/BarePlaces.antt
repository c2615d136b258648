-- The places of sf_scan for what is read of a bare item.
use Rattle.std.specs.Prelude.{◌≡◌, ℕ, zero, suc, ◌<◌, Option, is_some}
use Rattle.sf_value.specs.declared.dialect.Dialect.{Dialect}
use Rattle.sf_scan.specs.Characters.{low_digits}
use Rattle.sf_scan.specs.Places.{in_bare, ends_bare}
use Rattle.sf_scan.specs.declared.blob_place.BlobPlace.{BlobPlace}
use Rattle.sf_scan.specs.declared.blob_place.BlobPlace.TheVariants as blob
use Rattle.sf_scan.specs.declared.char_place.CharPlace.{CharPlace}
use Rattle.sf_scan.specs.declared.number_place.NumberPlace.TheVariants as number
use Rattle.sf_scan.specs.declared.place.BarePlace.{BarePlace}
use Rattle.sf_scan.specs.declared.place.BarePlace.TheVariants as place
use Rattle.sf_scan.specs.declared.shown_place.ShownPlace.TheVariants as shown
use Rattle.sf_parse.specs.Machine.Numbers.{NumberState, Whole, Fraction, DateState, Digits, Sign}
use Rattle.sf_parse.specs.declared.blob.Held.{Held}
use Rattle.sf_parse.specs.declared.blob.Held.TheVariants as held
use Rattle.sf_parse.specs.declared.blob.BlobPhase.{BlobPhase}
use Rattle.sf_parse.specs.declared.blob.BlobPhase.TheVariants as blob_phase
use Rattle.sf_parse.specs.declared.boolean.BooleanState.{BooleanState}
use Rattle.sf_parse.specs.declared.boolean.BooleanState.TheVariants.{QuestionMark, WithValue}
use Rattle.sf_parse.specs.declared.display_string.ShownPhase.{ShownPhase}
use Rattle.sf_parse.specs.declared.display_string.ShownPhase.TheVariants as shown_phase
use Rattle.sf_parse.specs.declared.text.TextPhase.{TextPhase}
use Rattle.sf_parse.specs.declared.text.TextPhase.TheVariants as text_phase

-- exactly the bytes that the step takes may come at the place, which may be the end if there is a
-- value
pub record IsPlace {S V : Type 0} (place : BarePlace) (step : ℕ → Option S) (value : Option V)
    : Type 0 where
  pub bytes : (d : Dialect) (b : ℕ) → b < 128 → is_some (step b) ≡ in_bare d place b
  pub ends : is_some value ≡ ends_bare place

abbrev pub number_place : NumberState → BarePlace
number_place (Whole neg count a) = place.Number (number.Whole count)
number_place (Fraction neg whole count a) = place.Number (number.Fraction count)

abbrev pub date_place : DateState → BarePlace
date_place (Digits neg count a) = place.Number (number.DateDigits count)
date_place Sign = place.Number number.At

abbrev pub boolean_place : BooleanState → BarePlace
boolean_place QuestionMark = place.QuestionMark
boolean_place (WithValue c) = place.Complete

abbrev pub text_place : TextPhase → BarePlace
text_place text_phase.Inside = place.InString
text_place text_phase.Escaped = place.Backslash
text_place text_phase.Closed = place.Complete

-- in a group
abbrev pub group_place : Held → BlobPlace
group_place held.H0 = blob.Whole
group_place (held.H1 x) = blob.One
group_place (held.H2 x y) = blob.Two
group_place (held.H3 x y z) = blob.Three

-- where at most this many = may follow
abbrev pub padded_place : ℕ → BlobPlace
padded_place zero = blob.Padded
padded_place (suc n) = blob.Pad

abbrev pub blob_place : BlobPhase → BarePlace
blob_place (blob_phase.Group h) = place.Blob (group_place h)
blob_place (blob_phase.Padded more) = place.Blob (padded_place more)
blob_place blob_phase.Ended = place.Complete

abbrev pub shown_place : ShownPhase → CharPlace → BarePlace
shown_place shown_phase.Quote c = place.Shown shown.Quote
shown_place shown_phase.Unencoded c = place.Shown (shown.Between c)
shown_place shown_phase.Percent c = place.Shown (shown.Percent c)
shown_place (shown_phase.Hex high) c = place.Shown (shown.Digit (low_digits c high))
shown_place shown_phase.Done c = place.Complete
