-- The state of the machine for what is read of a bare item.
use Rattle.std.specs.Prelude.{◌≡◌, ℕ, None, ⊤}
use Rattle.sf_value.specs.Grammar.Words.{Every}
use Rattle.sf_value.specs.Grammar.Classes.{is_visible}
use Rattle.sf_value.specs.Grammar.Tokens.{IsToken}
use Rattle.sf_parse.specs.Machine.Bares.{BareState, InNumber, InText, InToken, InBoolean, InDate}
use Rattle.sf_parse.specs.Machine.Bares.{InBlob, InShown}
use Rattle.sf_parse.specs.Machine.Numbers.{number_step}
use Rattle.sf_parse.specs.Views.{text_of, blob_of, shown_of, FitsBlob, FitsShown}
use Rattle.sf_parse.specs.declared.bare.BareKind.{BareKind}
use Rattle.sf_parse.specs.declared.bare.BareKind.TheVariants as kind
use Rattle.sf_parse.specs.declared.bare.BareReader.TheInside.{Inside}

-- the state of a bare item of this kind
abbrev pub bare_at : BareKind → Inside → BareState
bare_at kind.Number r = InNumber r.number
bare_at kind.Text r = InText (text_of r.text r.bytes)
bare_at kind.Token r = InToken r.bytes
bare_at kind.Boolean r = InBoolean r.boolean
bare_at kind.Date r = InDate r.date
bare_at kind.Blob r = InBlob (blob_of r.blob r.bytes)
bare_at kind.Shown r = InShown (shown_of r.shown.phase r.bytes r.shown.chars)

-- the kind says which of the other fields count
abbrev pub bare_of : Inside → BareState
bare_of r = bare_at r.kind r

-- the bytes are possible for this kind
abbrev pub FitsAt : BareKind → Inside → Type 0
FitsAt kind.Number r = Unit {0}
FitsAt kind.Text r = Every is_visible r.bytes
FitsAt kind.Token r = IsToken r.bytes
FitsAt kind.Boolean r = Unit {0}
FitsAt kind.Date r = Unit {0}
FitsAt kind.Blob r = FitsBlob r.blob
FitsAt kind.Shown r = FitsShown r.shown.phase r.bytes r.shown.chars

-- if a number is open, it can't continue with this byte
abbrev pub bare_stuck : BareState → ℕ → Type 0
bare_stuck (InNumber s) b = number_step s b ≡ None
bare_stuck (InText s) b = ⊤
bare_stuck (InToken bytes) b = ⊤
bare_stuck (InBoolean s) b = ⊤
bare_stuck (InDate s) b = ⊤
bare_stuck (InBlob s) b = ⊤
bare_stuck (InShown s) b = ⊤

-- the bytes are possible for the kind that is open
abbrev pub FitsBare : Inside → Type 0
FitsBare r = FitsAt r.kind r
