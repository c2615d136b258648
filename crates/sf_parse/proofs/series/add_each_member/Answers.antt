use Rattle.std.proofs.Common.{refl, []}
use Rattle.sf_parse.specs.AllocationFree.{SeriesFree}
use Rattle.sf_parse.specs.SeriesView.{series_next}
use Rattle.sf_parse.specs.StaysFree.{series_keeps}
use Rattle.sf_parse.proofs.Prefixes.{never, goes_more, free_goes}
use Rattle.sf_parse.proofs.WholeMembers.{taken_more, taken_so_far}
use Rattle.sf_parse.proofs.WholeMembers.{comma_goes, comma_may_begin}
use Rattle.sf_parse.proofs.series.add_each_member.Goals as goal

pub loop-phase-init : goal.loop-phase-init
loop-phase-init g c = record {
  may_begin = c.requires.may_begin;
  goes = λ s. record { taken = []; split = refl; leads = refl };
}

pub returns-clause-goes : goal.returns-clause-goes
returns-clause-goes g c =
    let d = c.args.context.now.dialect in
    let first = g.P.SeriesMember.first d in
    let next = g.P.Level.next d in
    let added = g.P.SeriesMember.added in
    let none = g.P.SeriesMember.none in
    let with = g.P.SeriesMember.with in
    let so_far = c.loop-phase.invariant in
    λ s. taken_so_far first next added none with _ _ _ _ _ _ s (so_far.goes s)

pub returns-in_err-left-clause-allocation_free : goal.returns-in_err-left-clause-allocation_free
returns-in_err-left-clause-allocation_free g c =
    let d = c.args.context.now.dialect in
    let first = g.P.SeriesMember.first d in
    let next = g.P.Level.next d in
    let added = g.P.SeriesMember.added in
    let none = g.P.SeriesMember.none in
    let with = g.P.SeriesMember.with in
    let so_far = c.loop-phase.invariant in
    λ s h. never (c.in_err-left.ensures.allocation_free s
    (free_goes (series_next first next added none) SeriesFree (series_keeps first next added none)
    _ _ _ _ h (so_far.goes s)))

pub returns-then-not-goes_on-clause-goes : goal.returns-then-not-goes_on-clause-goes
returns-then-not-goes_on-clause-goes g c =
    let d = c.args.context.now.dialect in
    let first = g.P.SeriesMember.first d in
    let next = g.P.Level.next d in
    let added = g.P.SeriesMember.added in
    let none = g.P.SeriesMember.none in
    let with = g.P.SeriesMember.with in
    let so_far = c.loop-phase.invariant in
    λ s. taken_more first next added none with _ _ _ _ _ _ _ _ s (so_far.goes s)
    (c.in_ok-left.ensures.goes s)

pub loop-phase-preserved : goal.loop-phase-preserved
loop-phase-preserved g c =
    let d = c.args.context.now.dialect in
    let first = g.P.SeriesMember.first d in
    let next = g.P.Level.next d in
    let added = g.P.SeriesMember.added in
    let none = g.P.SeriesMember.none in
    let with = g.P.SeriesMember.with in
    let so_far = c.loop-phase.invariant in
    let comma = c.goes_on.ensures.comma c.if-not-goes_on.false in
    record {
      may_begin = comma_may_begin first next added none with _ _ comma;
      goes = λ s. goes_more (series_next first next added none) _ _ _ _ _ _ (so_far.goes s)
          (comma_goes first next added none with _ _ _ s _ _ _ comma (c.in_ok-left.ensures.goes s));
    }
