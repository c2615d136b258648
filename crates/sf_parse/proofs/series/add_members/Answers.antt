use Rattle.std.proofs.Common.{refl, []}
use Rattle.sf_parse.proofs.WholeMembers.{taken_so_far, may_begin_open}
use Rattle.sf_parse.proofs.series.add_members.Goals as goal

pub returns-then-not-may_begin-clause-goes : goal.returns-then-not-may_begin-clause-goes
returns-then-not-may_begin-clause-goes g c =
    let d = c.args.context.now.dialect in
    let first = g.P.SeriesMember.first d in
    let next = g.P.Level.next d in
    let added = g.P.SeriesMember.added in
    let none = g.P.SeriesMember.none in
    let with = g.P.SeriesMember.with in
    λ s. taken_so_far first next added none with _ _ _ _ _ _ s
    (record { taken = []; split = refl; leads = refl })

pub returns-then-not-may_begin-clause-none_open : goal.returns-then-not-may_begin-clause-none_open
returns-then-not-may_begin-clause-none_open g c =
    let d = c.args.context.now.dialect in
    let first = g.P.SeriesMember.first d in
    let next = g.P.Level.next d in
    let added = g.P.SeriesMember.added in
    let none = g.P.SeriesMember.none in
    let with = g.P.SeriesMember.with in
    may_begin_open first next added none with _ _ c.requires.may_begin
