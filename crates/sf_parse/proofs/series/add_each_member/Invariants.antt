use Rattle.std.proofs.Common.{length}
use Rattle.sf_parse.specs.Prefixes.{Goes}
use Rattle.sf_parse.specs.SeriesView.{series_next, series_of}
use Rattle.sf_parse.specs.WholeMembers.{MayBegin}
use Rattle.sf_parse.proofs.series.add_each_member.Given as goal

abbrev pub invariant-loop-phase : goal.invariant-loop-phase
invariant-loop-phase g l =
    let d = l.context.dialect in record {
      may_begin : MayBegin g.P.SeriesMember.none l.phase l.given;
      goes : (s : g.row.P.Denot) → Goes
          (series_next (g.P.SeriesMember.first d) (g.P.Level.next d) g.P.SeriesMember.added
          g.P.SeriesMember.none)
          (series_of l.initial.phase l.initial.given s) l.text l.rest (series_of l.phase l.given s);
    }

abbrev pub decreases-loop-phase : goal.decreases-loop-phase
decreases-loop-phase g l = length l.rest
