use Rattle.std.proofs.Common.{refl, []}
use Rattle.sf_parse.proofs.WholeMembers.{member_taken, taken_so_far}
use Rattle.sf_parse.proofs.WholeMembers.{not_free}
use Rattle.sf_parse.proofs.Prefixes.{never}
use Rattle.sf_parse.proofs.WholeParts.{params_none}
use Rattle.sf_parse.proofs.series.add_with_params.Goals as goal

pub returns-in_default-clause-goes : goal.returns-in_default-clause-goes
returns-in_default-clause-goes g c =
    let d = c.args.context.now.dialect in
    let first = g.P.SeriesMember.first d in
    let next = g.P.Level.next d in
    let added = g.P.SeriesMember.added in
    let none = g.P.SeriesMember.none in
    let with = g.P.SeriesMember.with in
    λ s. taken_so_far first next added none with _ _ _ _ _ _ s
    (record { taken = []; split = refl; leads = refl })

pub returns-clause-goes : goal.returns-clause-goes
returns-clause-goes g c =
    let d = c.args.context.now.dialect in
    let first = g.P.SeriesMember.first d in
    let next = g.P.Level.next d in
    let added = g.P.SeriesMember.added in
    let none = g.P.SeriesMember.none in
    let with = g.P.SeriesMember.with in
    λ s. member_taken first next added none with _ _ _ _ s _ _ _ _ _ c.requires.may_begin
    (c.requires.begun.2 _ _ c.in_ok-rest.ensures.reads) c.in_ok-add_found.ensures
    c.in-Some.ensures

pub returns-in_err-add_found-clause-allocation_free :
    goal.returns-in_err-add_found-clause-allocation_free
returns-in_err-add_found-clause-allocation_free g c =
    let d = c.args.context.now.dialect in
    let first = g.P.SeriesMember.first d in
    let next = g.P.Level.next d in
    let added = g.P.SeriesMember.added in
    let none = g.P.SeriesMember.none in
    let with = g.P.SeriesMember.with in
    λ s h. never (absurd (not_free first next added none with _ _ _ s _ _ _ _ c.requires.may_begin
    (c.requires.begun.2 _ _ c.in_ok-rest.ensures.reads)
    (record { taken = []; split = refl; leads = refl }) h))

pub returns-in_err-rest-clause-allocation_free : goal.returns-in_err-rest-clause-allocation_free
returns-in_err-rest-clause-allocation_free g c =
    let d = c.args.context.now.dialect in
    let first = g.P.SeriesMember.first d in
    let next = g.P.Level.next d in
    let added = g.P.SeriesMember.added in
    let none = g.P.SeriesMember.none in
    let with = g.P.SeriesMember.with in
    λ s h. never (absurd (not_free first next added none with _ _ _ s _ _ _ _ c.requires.may_begin
    (c.requires.begun.2 _ _ (params_none d _ _ refl)) (record { taken = []; split = refl; leads = refl }) h))
