use Rattle.std.proofs.Common.{ap, ◌∙◌, ◌∷◌, []}
use Rattle.sf_value.specs.Ascii.{quote, colon}
use Rattle.sf_value.specs.Grammar.BareItems.{SpellsBare}
use Rattle.sf_scan.proofs.Bares.{past_scans}
use Rattle.sf_scan.proofs.Dates.{date_scans}
use Rattle.sf_scan.proofs.bare.other.Goals as goal

pub returns-then-first-eq34 : goal.returns-then-first-eq34
returns-then-first-eq34 c =
    let d = c.args.dialect in
    past_scans d (SpellsBare d) (quote ∷ []) _ _ _
    (c.requires.split ∙ ap (λ x. x ∷ c.args.more.now) c.if-first-eq34.true) (c.string.ensures d)

pub returns-then-first-eq58 : goal.returns-then-first-eq58
returns-then-first-eq58 c =
    let d = c.args.dialect in
    past_scans d (SpellsBare d) (colon ∷ []) _ _ _
    (c.requires.split ∙ ap (λ x. x ∷ c.args.more.now) c.if-first-eq58.true)
    (c.byte_sequence.ensures d)

pub returns : goal.returns
returns c =
    date_scans c.args.dialect _ _ _ _ c.requires.split
    (c.requires.date c.if-first-eq34.false c.if-first-eq58.false c.if-first-eq37.false)
    (c.date.ensures c.args.dialect)
