use Rattle.std.proofs.Common.{◌≡◌, ◌≤◌, [], sym, subst, ◌∙◌, length, Err, rules, arith}
use Rattle.sf_value.specs.Grammar.Valid.{ValidMember}
use Rattle.sf_view.specs.View.{DescribesMember}
use Rattle.sf_view.specs.Building.{AreMembers, IsMember, Reads}
use Rattle.sf_view.proofs.Hops.{opens}
use Rattle.sf_view.proofs.BuildingLaws.{AnyList, AnyTwo, NoMore, no_more, member_laws, whole_list}
use Rattle.sf_view.proofs.BuildingLaws.{as_member, member_at, parts_members}
use Rattle.sf_view.proofs.Wholes.{hopless, misfit, part_wrong, so_more, so_whole, nothing_left}
use Rattle.sf_view.proofs.Wholes.{opens_key}
use Rattle.sf_view.proofs.building.members.Goals as goal

pub returns-in_default : goal.returns-in_default
returns-in_default c =
    let d = c.args.source.dialect in
    let s = c.args.source.text.now in
    let h = c.is_empty.ensures in
    let t = c.loop-rest-test.true in
    let l : 1 ≤ length c.loop-rest.rest.now = first_of (search rules, grind arith) in
    hopless s (DescribesMember d s []) (ValidMember d) AnyList NoMore AnyTwo (member_laws d s)
    (AreMembers d s) (whole_list d s) c.args.nodes.now c.loop-rest.rest.now c.loop-rest.all
    c.loop-rest.invariant.so l (λ n more e. no_more n) c.in_default.ensures.none

pub returns-then-not-is_empty : goal.returns-then-not-is_empty
returns-then-not-is_empty c =
    let d = c.args.source.dialect in
    let s = c.args.source.text.now in
    let h = c.in-Some.ensures.hop in
    let keyed : c.in-Some.key.now ≡ [] → ⊥ =
    λ e. (let a = c.is_empty-in-loop-rest.ensures in let b = c.if-not-is_empty.true in grind arith) in
    misfit s (DescribesMember d s []) (ValidMember d) AnyList NoMore AnyTwo (member_laws d s)
    (AreMembers d s) (whole_list d s) c.args.nodes.now c.loop-rest.rest.now c.loop-rest.all
    c.in-Some.key.now c.in-Some.prefix.now c.in-Some.later.now c.loop-rest.invariant.so h
    (no_more h.first)
    (λ fs x xs before o p v a k.
    keyed (sym (opens_key s c.in-Some.key.now _ o) ∙ opens_key s [] _ (opens d s [] _ x p)))

pub returns-in-Err : goal.returns-in-Err
returns-in-Err c =
    let d = c.args.source.dialect in
    let s = c.args.source.text.now in
    let h = c.in-Some.ensures.hop in
    subst (λ y. Reads (AreMembers d s) c.args.nodes.now (Err y)) (sym c.after.ensures)
    (part_wrong s (DescribesMember d s []) (ValidMember d) AnyList NoMore AnyTwo (member_laws d s)
    (AreMembers d s) (whole_list d s) (IsMember d s) c.args.nodes.now c.loop-rest.rest.now
    c.loop-rest.all c.in-Some.key.now c.in-Some.prefix.now c.in-Some.later.now c.in-Err.fault
    c.loop-rest.invariant.so h (no_more h.first) (as_member d s) c.in-Err.ensures)

pub loop-rest-preserved : goal.loop-rest-preserved
loop-rest-preserved c =
    let d = c.args.source.dialect in
    let s = c.args.source.text.now in
    let h = c.in-Some.ensures.hop in
    let a = c.is_empty-in-loop-rest.ensures in
    let b = c.if-not-is_empty.false in
    let none : c.in-Some.key.now ≡ [] = first_of (search rules, grind arith) in
    let prefix = c.in-Some.prefix.now in
    let m = c.in-Ok.member in
    let t = member_at d s c.in-Some.key.now c.loop-rest.rest.now prefix c.in-Some.later.now m h
    c.in-Ok.ensures in
    record {
      so =
          so_more (DescribesMember d s []) (ValidMember d) c.args.nodes.now c.loop-rest.rest.now
          prefix c.in-Some.later.now c.loop-rest.all c.push.new.self m c.loop-rest.invariant.so
          h.split (subst (λ y. DescribesMember d s y prefix m) none t) c.in-Ok.ensures.1
          c.in-Ok-push.ensures.added;
    }

pub returns : goal.returns
returns c =
    let d = c.args.source.dialect in
    let s = c.args.source.text.now in
    let so = c.loop-rest.invariant.so in
    let h = c.is_empty.ensures in
    let t = c.loop-rest-test.false in
    let l : length c.loop-rest.rest.now ≡ 0 = first_of (search rules, grind arith) in (
      parts_members d s c.args.nodes.now c.loop-rest.all
          (so_whole (DescribesMember d s []) (ValidMember d) c.args.nodes.now c.loop-rest.rest.now
          c.loop-rest.all so (nothing_left c.loop-rest.rest.now l)),
      so.valid,
    )
