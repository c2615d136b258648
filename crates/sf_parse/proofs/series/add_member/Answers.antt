use Rattle.std.proofs.Common.{refl, subst, []}
use Rattle.sf_parse.specs.WholeMembers.{IsBegun}
use Rattle.sf_parse.proofs.Prefixes.{never}
use Rattle.sf_parse.proofs.WholeMembers.{member_taken, taken_so_far}
use Rattle.sf_parse.proofs.WholeMembers.{not_free}
use Rattle.sf_parse.proofs.WholeParts.{params_none}
use Rattle.sf_parse.proofs.series.add_member.Goals as goal

pub returns-then-not-may_begin_params-clause-goes : goal.returns-then-not-may_begin_params-clause-goes
returns-then-not-may_begin_params-clause-goes g c =
    let d = c.args.context.now.dialect in
    let first = g.P.SeriesMember.first d in
    let next = g.P.Level.next d in
    let added = g.P.SeriesMember.added in
    let none = g.P.SeriesMember.none in
    let with = g.P.SeriesMember.with in
    λ s. taken_so_far first next added none with _ _ _ _ _ _ s
    (record { taken = []; split = refl; leads = refl })

pub returns-then-not-may_be_whole-2-clause-goes : goal.returns-then-not-may_be_whole-2-clause-goes
returns-then-not-may_be_whole-2-clause-goes g c =
    let d = c.args.context.now.dialect in
    let first = g.P.SeriesMember.first d in
    let next = g.P.Level.next d in
    let added = g.P.SeriesMember.added in
    let none = g.P.SeriesMember.none in
    let with = g.P.SeriesMember.with in
    λ s. taken_so_far first next added none with _ _ _ _ _ _ s
    (record { taken = []; split = refl; leads = refl })

pub returns-in-None-clause-goes : goal.returns-in-None-clause-goes
returns-in-None-clause-goes g c =
    let d = c.args.context.now.dialect in
    let first = g.P.SeriesMember.first d in
    let next = g.P.Level.next d in
    let added = g.P.SeriesMember.added in
    let none = g.P.SeriesMember.none in
    let with = g.P.SeriesMember.with in
    λ s. taken_so_far first next added none with _ _ _ _ _ _ s
    (record { taken = []; split = refl; leads = refl })

pub returns-in_err-add_found-in-Some-Item-clause-allocation_free :
    goal.returns-in_err-add_found-in-Some-Item-clause-allocation_free
returns-in_err-add_found-in-Some-Item-clause-allocation_free g c =
    let d = c.args.context.now.dialect in
    let first = g.P.SeriesMember.first d in
    let next = g.P.Level.next d in
    let added = g.P.SeriesMember.added in
    let none = g.P.SeriesMember.none in
    let with = g.P.SeriesMember.with in
    let begun =
    subst (IsBegun g.P.SeriesMember.is_key first next added with d c.args.text.now)
    c.in-Some-Item.field-0-is c.in-Some-Item.ensures in
    λ s h. never (absurd (not_free first next added none with _ _ _ s _ _ _ _ c.requires.may_begin
    (begun.2 _ _ (params_none d _ _ c.new-params.ensures))
    (record { taken = []; split = refl; leads = refl }) h))

pub returns-in_ok-add_found-in-Some-Item-clause-goes : goal.returns-in_ok-add_found-in-Some-Item-clause-goes
returns-in_ok-add_found-in-Some-Item-clause-goes g c =
    let d = c.args.context.now.dialect in
    let first = g.P.SeriesMember.first d in
    let next = g.P.Level.next d in
    let added = g.P.SeriesMember.added in
    let none = g.P.SeriesMember.none in
    let with = g.P.SeriesMember.with in
    let begun =
    subst (IsBegun g.P.SeriesMember.is_key first next added with d c.args.text.now)
    c.in-Some-Item.field-0-is c.in-Some-Item.ensures in
    λ s. member_taken first next added none with _ _ _ _ s _ _ _ _ _ c.requires.may_begin
    (begun.2 _ _ (params_none d _ _ c.new-params.ensures))
    c.in_ok-add_found-in-Some-Item.ensures c.in-Some.ensures
