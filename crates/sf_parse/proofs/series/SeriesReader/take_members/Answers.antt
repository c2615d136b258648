use Rattle.std.proofs.Common.{◌≡◌, refl, false}
use Rattle.sf_parse.specs.Machine.Series.{InMember}
use Rattle.sf_parse.specs.SeriesView.{series_next, series_of}
use Rattle.sf_parse.proofs.Prefixes.{part_above, goes_window, never}
use Rattle.sf_parse.proofs.SeriesSteps.{member_goes_on}
use Rattle.sf_parse.proofs.WholeMembers.{free_window, none_taken}
use Rattle.sf_parse.proofs.series.SeriesReader.take_members.Goals.{in-Begin, in-Comma}
use Rattle.sf_parse.proofs.series.SeriesReader.take_members.Goals as goal

pub returns-in-InMember-clause-goes : goal.returns-in-InMember-clause-goes
returns-in-InMember-clause-goes g c =
    let d = c.args.context.now.dialect in
    let first = g.P.SeriesMember.first d in
    let next = g.P.Level.next d in
    let added = g.P.SeriesMember.added in
    let none = g.P.SeriesMember.none in
    let given = c.self.inside.given in
    rw (← c.self.view_is, c.in-InMember.is)
    (part_above next (series_next first next added none) (InMember given)
    (member_goes_on first next added none given) _ _ _ _ _ _ refl c.take.ensures.prefix)

pub returns-clause-goes : goal.returns-clause-goes
returns-clause-goes g c =
    let d = c.args.context.now.dialect in
    let first = g.P.SeriesMember.first d in
    let next = g.P.Level.next d in
    let added = g.P.SeriesMember.added in
    let none = g.P.SeriesMember.none in
    let with = g.P.SeriesMember.with in
    let before = c.match-self.self-inside in
    let view : series_of before.phase before.given before.member ≡ c.args.self.now =
    elim c.match-self.branch [
      | in-Begin w ↦ rw (w.self-inside-is, w.in-Begin.is) (rw w.in-Begin.is at c.self.view_is)
      | in-Comma w ↦ rw w.self-inside-is c.self.view_is
    ] in
    rw (← view)
    (goes_window (series_next first next added none) _ _ _ _ _ _
    (none_taken first next added none with false _ _ before.member _ _ refl
    (series_of before.phase before.given before.member)
    (c.in_ok-left.ensures.goes before.member))
    (λ taken. c.after_window.ensures taken c.window-begin.ensures.split.0
    c.window-begin.ensures.split.1))

pub returns-in_err-left-clause-allocation_free : goal.returns-in_err-left-clause-allocation_free
returns-in_err-left-clause-allocation_free g c =
    let d = c.args.context.now.dialect in
    let first = g.P.SeriesMember.first d in
    let next = g.P.Level.next d in
    let added = g.P.SeriesMember.added in
    let none = g.P.SeriesMember.none in
    let with = g.P.SeriesMember.with in
    let before = c.match-self.self-inside in
    let view : series_of before.phase before.given before.member ≡ c.args.self.now =
    elim c.match-self.branch [
      | in-Begin w ↦ rw (w.self-inside-is, w.in-Begin.is) (rw w.in-Begin.is at c.self.view_is)
      | in-Comma w ↦ rw w.self-inside-is c.self.view_is
    ] in
    rw (← view)
    (λ h. never (c.in_err-left.ensures.allocation_free before.member
    (free_window first next added none with _ _ _ _ c.window-begin.ensures.split.1 h)))
