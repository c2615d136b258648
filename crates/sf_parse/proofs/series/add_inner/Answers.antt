use Rattle.std.proofs.Common.{refl, []}
use Rattle.sf_parse.proofs.WholeMembers.{member_taken, taken_so_far}
use Rattle.sf_parse.proofs.series.add_inner.Goals as goal

pub returns-in-Err-NotWhole-clause-goes : goal.returns-in-Err-NotWhole-clause-goes
returns-in-Err-NotWhole-clause-goes g c =
    let d = c.args.context.now.dialect in
    let first = g.P.SeriesMember.first d in
    let next = g.P.Level.next d in
    let added = g.P.SeriesMember.added in
    let none = g.P.SeriesMember.none in
    let with = g.P.SeriesMember.with in
    λ s. taken_so_far first next added none with _ _ _ _ _ _ s
    (record { taken = []; split = refl; leads = refl })

pub returns-in_default-clause-goes :
    goal.returns-in_default-clause-goes
returns-in_default-clause-goes g c =
    let d = c.args.context.now.dialect in
    let first = g.P.SeriesMember.first d in
    let next = g.P.Level.next d in
    let added = g.P.SeriesMember.added in
    let none = g.P.SeriesMember.none in
    let with = g.P.SeriesMember.with in
    λ s. taken_so_far first next added none with _ _ _ _ _ _ s
    (record { taken = []; split = refl; leads = refl })

pub returns-clause-goes : goal.returns-clause-goes
returns-clause-goes g c =
    let d = c.args.context.now.dialect in
    let first = g.P.SeriesMember.first d in
    let next = g.P.Level.next d in
    let added = g.P.SeriesMember.added in
    let none = g.P.SeriesMember.none in
    let with = g.P.SeriesMember.with in
    λ s. member_taken first next added none with _ _ _ _ s _ _ _ _ _ c.requires.may_begin
    (c.requires.begun.2 _ _ c.in-Ok.ensures) c.in_ok-add.ensures c.in-Some.ensures
