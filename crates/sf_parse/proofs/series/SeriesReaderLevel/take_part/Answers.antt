use Rattle.std.proofs.Common.{refl, subst}
use Rattle.sf_value.specs.Grammar.Words.{Every}
use Rattle.sf_value.specs.Grammar.Classes.{is_sp, is_ows}
use Rattle.sf_parse.specs.Machine.Series.{Begin, InMember, Gap, Comma}
use Rattle.sf_parse.specs.SeriesView.{series_next}
use Rattle.sf_parse.proofs.Prefixes.{part_above, every_split, each_ok, goes_more}
use Rattle.sf_parse.proofs.ByteRuns.{stay_goes}
use Rattle.sf_parse.proofs.SeriesSteps.{space_stays, gap_stays, comma_stays, member_goes_on}
use Rattle.sf_parse.proofs.series.SeriesReaderLevel.take_part.Goals as goal

pub returns-then-not-may_add-clause-goes : goal.returns-then-not-may_add-clause-goes
returns-then-not-may_add-clause-goes g c =
    let d = c.args.context.now.dialect in
    let first = g.P.SeriesMember.first d in
    let next = g.P.Level.next d in
    let added = g.P.SeriesMember.added in
    let none = g.P.SeriesMember.none in
    rw (← c.self.view_is, c.in-Begin.is)
    (stay_goes (series_next first next added none) is_sp Begin _ _ _
    (space_stays first next added none) c.few_prefix.ensures.whole c.few_prefix.ensures.every)

pub returns-in-Gap-clause-goes : goal.returns-in-Gap-clause-goes
returns-in-Gap-clause-goes g c =
    let d = c.args.context.now.dialect in
    let first = g.P.SeriesMember.first d in
    let next = g.P.Level.next d in
    let added = g.P.SeriesMember.added in
    let none = g.P.SeriesMember.none in
    let given = c.self.inside.given in
    rw (← c.self.view_is, c.in-Gap.is)
    (stay_goes (series_next first next added none) is_ows (Gap given) _ _ _
    (gap_stays first next added none given) c.few_prefix-in-Gap.ensures.whole
    c.few_prefix-in-Gap.ensures.every)

pub returns-in-InMember-clause-goes : goal.returns-in-InMember-clause-goes
returns-in-InMember-clause-goes g c =
    let d = c.args.context.now.dialect in
    let first = g.P.SeriesMember.first d in
    let next = g.P.Level.next d in
    let added = g.P.SeriesMember.added in
    let none = g.P.SeriesMember.none in
    let given = c.self.inside.given in
    rw (← c.self.view_is, c.in-InMember.is)
    (part_above next (series_next first next added none) (InMember given)
    (member_goes_on first next added none given) _ _ _ _ _ _ refl c.take.ensures.prefix)

pub returns-in-Begin-clause-goes : goal.returns-in-Begin-clause-goes
returns-in-Begin-clause-goes g c =
    let d = c.args.context.now.dialect in
    let first = g.P.SeriesMember.first d in
    let next = g.P.Level.next d in
    let added = g.P.SeriesMember.added in
    let none = g.P.SeriesMember.none in
    let spaces = stay_goes (series_next first next added none) is_sp Begin _ _ _
    (space_stays first next added none) c.few_prefix.ensures.whole c.few_prefix.ensures.every in
    let members = rw (← c.self.view_is, c.in-Begin.is) at c.take_members.ensures.goes in
    rw (← c.self.view_is, c.in-Begin.is)
    (each_ok (λ rest a. goes_more (series_next first next added none) _ _ _ _ _ _ spaces a)
    c.take_members.result members)

pub returns-in-Begin-clause-allocation_free : goal.returns-in-Begin-clause-allocation_free
returns-in-Begin-clause-allocation_free g c = λ h.
    let spaces : Every is_sp c.args.chunk.now = rw (← c.self.view_is, c.in-Begin.is) at h in
    let free = rw (← c.self.view_is, c.in-Begin.is) at c.take_members.ensures.allocation_free in
    free (every_split is_sp _ _ (subst (Every is_sp) c.few_prefix.ensures.whole spaces)).1

pub returns-then-not-may_add-2-clause-goes : goal.returns-then-not-may_add-2-clause-goes
returns-then-not-may_add-2-clause-goes g c =
    let d = c.args.context.now.dialect in
    let first = g.P.SeriesMember.first d in
    let next = g.P.Level.next d in
    let added = g.P.SeriesMember.added in
    let none = g.P.SeriesMember.none in
    let given = c.self.inside.given in
    let white = stay_goes (series_next first next added none) is_ows (Comma given) _ _ _
    (comma_stays first next added none given) c.few_prefix-in-Comma.ensures.whole
    c.few_prefix-in-Comma.ensures.every in
    rw (← c.self.view_is, c.in-Comma.is) white

pub returns-in-Comma-clause-goes : goal.returns-in-Comma-clause-goes
returns-in-Comma-clause-goes g c =
    let d = c.args.context.now.dialect in
    let first = g.P.SeriesMember.first d in
    let next = g.P.Level.next d in
    let added = g.P.SeriesMember.added in
    let none = g.P.SeriesMember.none in
    let given = c.self.inside.given in
    let white = stay_goes (series_next first next added none) is_ows (Comma given) _ _ _
    (comma_stays first next added none given) c.few_prefix-in-Comma.ensures.whole
    c.few_prefix-in-Comma.ensures.every in
    let members = rw (← c.self.view_is, c.in-Comma.is) at c.take_members-in-Comma.ensures.goes in
    rw (← c.self.view_is, c.in-Comma.is)
    (each_ok (λ rest a. goes_more (series_next first next added none) _ _ _ _ _ _ white a)
    c.take_members-in-Comma.result members)

pub returns-in-Comma-clause-allocation_free : goal.returns-in-Comma-clause-allocation_free
returns-in-Comma-clause-allocation_free g c = λ h.
    absurd (let none : ⊥ = rw (← c.self.view_is, c.in-Comma.is) at h in none)
