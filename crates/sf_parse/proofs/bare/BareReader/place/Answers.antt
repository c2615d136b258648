use Rattle.sf_value.specs.declared.value.Bare.TheVariants.{Text, Token, Boolean, Date, Blob, Shown}
use Rattle.sf_parse.specs.Machine.Bares.{InNumber, InText, InToken, InBoolean, InDate, InBlob}
use Rattle.sf_parse.specs.Machine.Bares.{InShown}
use Rattle.sf_parse.proofs.BarePlaces.{within, mapped, number_is, text_is, token_is, boolean_is}
use Rattle.sf_parse.proofs.BarePlaces.{date_is, blob_is, shown_is}
use Rattle.sf_parse.proofs.bare.BareReader.place.Goals as goal

pub returns-in-Number : goal.returns-in-Number
returns-in-Number c =
    rw (← c.self.view_is, c.in-Number.is, c.place.ensures)
    (within InNumber _ _ _ (number_is c.self.inside.number))

pub returns-in-Text : goal.returns-in-Text
returns-in-Text c =
    rw (← c.self.view_is, c.in-Text.is, c.place-in-Text.ensures)
    (mapped InText Text _ _ _ (text_is c.self.inside.text c.self.inside.bytes))

pub returns-in-Token : goal.returns-in-Token
returns-in-Token c =
    rw (← c.self.view_is, c.in-Token.is) (mapped InToken Token _ _ _ (token_is c.self.inside.bytes))

pub returns-in-Boolean : goal.returns-in-Boolean
returns-in-Boolean c =
    rw (← c.self.view_is, c.in-Boolean.is, c.place-in-Boolean.ensures)
    (mapped InBoolean Boolean _ _ _ (boolean_is c.self.inside.boolean))

pub returns-in-Date : goal.returns-in-Date
returns-in-Date c =
    rw (← c.self.view_is, c.in-Date.is, c.place-in-Date.ensures)
    (mapped InDate Date _ _ _ (date_is c.self.inside.date))

pub returns-in-Blob : goal.returns-in-Blob
returns-in-Blob c =
    rw (← c.self.view_is, c.in-Blob.is, c.place-in-Blob.ensures)
    (mapped InBlob Blob _ _ _ (blob_is c.self.inside.blob c.self.inside.bytes))

pub returns-in-Shown : goal.returns-in-Shown
returns-in-Shown c =
    let r = c.self.inside in
    let fits = rw c.in-Shown.is at c.self.invariant in
    rw (← c.self.view_is, c.in-Shown.is, c.place-in-Shown.ensures)
    (mapped InShown Shown _ _ _ (shown_is r.shown.phase r.bytes r.shown.chars fits.1))
