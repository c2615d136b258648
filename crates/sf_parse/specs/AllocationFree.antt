-- Texts that do not allocate: spaces, numbers, Booleans and Dates, and short Tokens and Strings.
use Rattle.std.specs.Prelude.{ℕ, Bool, ◌==◌, ◌||◌, not, List, ◌++◌, ◌⊎◌, ⊤}
use Rattle.sf_value.specs.Ascii.{minus, point, question_mark, at_sign, semicolon, colon, percent}
use Rattle.sf_value.specs.InPlace.{FitsInPlace}
use Rattle.sf_value.specs.Grammar.Words.{Every}
use Rattle.sf_value.specs.Grammar.Classes.{is_sp, is_digit}
use Rattle.sf_value.specs.declared.value.Kind.{Kind}
use Rattle.sf_value.specs.declared.value.Kind.TheVariants as kind
use Rattle.sf_parse.specs.Machine.Texts.{TextState, Inside, Escaped, Closed}
use Rattle.sf_parse.specs.Machine.Bares.{BareState}
use Rattle.sf_parse.specs.Machine.Bares.{InNumber, InText, InToken, InBoolean}
use Rattle.sf_parse.specs.Machine.Bares.{InDate, InBlob, InShown}
use Rattle.sf_parse.specs.Machine.Items.{ItemState}
use Rattle.sf_parse.specs.Machine.Items.{InBare, InParams}
use Rattle.sf_parse.specs.Machine.Series.{SeriesState, Begin, InMember, Gap, Comma}
use Rattle.sf_parse.specs.Machine.States.{State, BeforeItem, InsideItem, AfterItem, InList, InDict}

-- a space, or a byte of numbers, Booleans and Dates
abbrev pub scalar_byte : ℕ → Bool
scalar_byte b =
    is_sp b || b == minus || is_digit b || b == point || b == question_mark || b == at_sign

-- a byte that begins no parameter, no Byte Sequence and no Display String
abbrev pub short_byte : ℕ → Bool
short_byte b = not (b == semicolon || b == colon || b == percent)

-- a text of at most 16 such bytes
abbrev pub IsShortText : List ℕ → Type 0
IsShortText text = FitsInPlace text × Every short_byte text

-- a text of this kind that does not allocate
abbrev pub TakesNoMemory : Kind → List ℕ → Type 0
TakesNoMemory kind.Item text = Every scalar_byte text ⊎ IsShortText text
TakesNoMemory kind.List text = Every is_sp text
TakesNoMemory kind.Dict text = Every is_sp text

-- the bytes of a String so far
abbrev pub text_bytes : TextState → List ℕ
text_bytes (Inside bytes) = bytes
text_bytes (Escaped bytes) = bytes
text_bytes (Closed bytes) = bytes

-- in this state of a bare item these bytes do not allocate
abbrev pub BareFree : BareState → List ℕ → Type 0
BareFree (InNumber s) more = ⊤
BareFree (InText s) more = FitsInPlace (text_bytes s ++ more)
BareFree (InToken bytes) more = FitsInPlace (bytes ++ more)
BareFree (InBoolean s) more = ⊤
BareFree (InDate s) more = ⊤
BareFree (InBlob s) more = ⊥
BareFree (InShown s) more = ⊥

abbrev pub no_semicolon : ℕ → Bool
no_semicolon b = not (b == semicolon)

-- in this state of an Item these bytes do not allocate: no parameter was begun, and none begins
abbrev pub ItemFree : ItemState → List ℕ → Type 0
ItemFree (InBare s) more = BareFree s more × Every no_semicolon more
ItemFree (InParams x s) more = ⊥

-- in this state of a List or a Dictionary these bytes do not allocate: they are spaces before the
-- first member
abbrev pub SeriesFree : {S V : Type 0} → SeriesState S V → List ℕ → Type 0
SeriesFree Begin more = Every is_sp more
SeriesFree (InMember given s) more = ⊥
SeriesFree (Gap given) more = ⊥
SeriesFree (Comma given) more = ⊥

-- in this state of a field these bytes do not allocate
abbrev pub FieldFree : State → List ℕ → Type 0
FieldFree BeforeItem more = TakesNoMemory kind.Item more
FieldFree (InsideItem s) more = ItemFree s more
FieldFree (AfterItem i) more = ⊤
FieldFree (InList s) more = SeriesFree s more
FieldFree (InDict s) more = SeriesFree s more
