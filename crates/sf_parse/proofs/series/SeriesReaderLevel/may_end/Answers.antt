use Rattle.std.proofs.Common.{sym, ◌∙◌}
use Rattle.sf_parse.proofs.series.SeriesReaderLevel.may_end.Goals as goal

pub returns-in-InMember : goal.returns-in-InMember
returns-in-InMember g c =
    let r = c.self.inside in
    rw (← c.self.view_is, c.in-InMember.is)
    (c.may_end.ensures ∙ sym (g.met.P.SeriesMember.adds r.member r.given))
