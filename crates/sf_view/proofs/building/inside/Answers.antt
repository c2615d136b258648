use Rattle.std.proofs.Common.{◌≡◌, [], sym, subst, ◌∙◌, Err, rules, arith}
use Rattle.sf_value.specs.Grammar.Valid.{ValidItem}
use Rattle.sf_view.specs.declared.node_types.Role.TheVariants as role_is
use Rattle.sf_view.specs.View.{DescribesItem}
use Rattle.sf_view.specs.Building.{IsInside, IsItem, Reads, StartsItem}
use Rattle.sf_view.proofs.Hops.{item_opens}
use Rattle.sf_view.proofs.BuildingLaws.{AnyList, AnyTwo, InnerItem, ParamsEnd, no_params, inside_laws}
use Rattle.sf_view.proofs.BuildingLaws.{whole_inside, as_item, item_at, starts_some, starts_role}
use Rattle.sf_view.proofs.BuildingLaws.{inside_end}
use Rattle.sf_view.proofs.Wholes.{hopless, misfit, part_wrong, so_more, opens_key, hop_begins}
use Rattle.sf_view.proofs.building.inside.Goals as goal

pub returns-in_default : goal.returns-in_default
returns-in_default c =
    let d = c.args.source.dialect in
    let s = c.args.source.text.now in
    let rest = c.loop-at.rest.now in
    let starts = c.starts_item.ensures.starts c.loop-at-test.true in
    hopless s (InnerItem d s) (ValidItem d) AnyList (ParamsEnd d s) AnyTwo (inside_laws d s)
    (IsInside d s) (whole_inside d s) c.args.nodes.now rest c.loop-at.items
    c.loop-at.invariant.so (starts_some rest starts)
    (λ n more e. no_params d s n (starts_role rest more n starts e)) c.in_default.ensures.none

pub returns-then-not-is_empty : goal.returns-then-not-is_empty
returns-then-not-is_empty c =
    let d = c.args.source.dialect in
    let s = c.args.source.text.now in
    let h = c.in-Some.ensures.hop in
    let rest = c.loop-at.rest.now in
    let starts = c.starts_item.ensures.starts c.loop-at-test.true in
    let key = c.in-Some.key.now in
    let prefix = c.in-Some.prefix.now in
    let later = c.in-Some.later.now in
    let keyed : key ≡ [] → ⊥ =
    λ e. (let a = c.is_empty.ensures in let b = c.if-not-is_empty.true in grind arith) in
    misfit s (InnerItem d s) (ValidItem d) AnyList (ParamsEnd d s) AnyTwo (inside_laws d s)
    (IsInside d s) (whole_inside d s) c.args.nodes.now rest c.loop-at.items key prefix later
    c.loop-at.invariant.so h
    (no_params d s h.first (starts_role rest _ h.first starts (hop_begins s key rest prefix later h)))
    (λ fs x xs before o p v a k.
    keyed (sym (opens_key s key _ o) ∙ opens_key s [] _ (item_opens d s role_is.InnerItem [] _ x p)))

pub returns-in-Err : goal.returns-in-Err
returns-in-Err c =
    let d = c.args.source.dialect in
    let s = c.args.source.text.now in
    let h = c.in-Some.ensures.hop in
    let rest = c.loop-at.rest.now in
    let starts = c.starts_item.ensures.starts c.loop-at-test.true in
    let key = c.in-Some.key.now in
    let prefix = c.in-Some.prefix.now in
    let later = c.in-Some.later.now in
    subst (λ y. Reads (IsInside d s) c.args.nodes.now (Err y)) (sym c.after.ensures)
    (part_wrong s (InnerItem d s) (ValidItem d) AnyList (ParamsEnd d s) AnyTwo (inside_laws d s)
    (IsInside d s) (whole_inside d s) (IsItem d s role_is.InnerItem) c.args.nodes.now rest
    c.loop-at.items key prefix later c.in-Err.fault c.loop-at.invariant.so h
    (no_params d s h.first (starts_role rest _ h.first starts (hop_begins s key rest prefix later h)))
    (as_item d s) c.in-Err.ensures)

pub loop-at-preserved : goal.loop-at-preserved
loop-at-preserved c =
    let d = c.args.source.dialect in
    let s = c.args.source.text.now in
    let h = c.in-Some.ensures.hop in
    let a = c.is_empty.ensures in
    let b = c.if-not-is_empty.false in
    let none : c.in-Some.key.now ≡ [] = first_of (search rules, grind arith) in
    let prefix = c.in-Some.prefix.now in
    let i = c.in-Ok.item in
    let t = item_at d s c.in-Some.key.now c.loop-at.rest.now prefix c.in-Some.later.now i h
    c.in-Ok.ensures in
    record {
      so =
          so_more (InnerItem d s) (ValidItem d) c.args.nodes.now c.loop-at.rest.now prefix
          c.in-Some.later.now c.loop-at.items c.push.new.self i c.loop-at.invariant.so h.split
          (subst (λ y. DescribesItem d s role_is.InnerItem y prefix i) none t) c.in-Ok.ensures.1
          c.in-Ok-push.ensures.added;
    }

pub returns-in-Err-params : goal.returns-in-Err-params
returns-in-Err-params c =
    let d = c.args.source.dialect in
    let s = c.args.source.text.now in
    let f = c.loop-at-test.false in
    let none : StartsItem c.loop-at.rest.now → ⊥ =
    λ k. (let a = c.starts_item.ensures.all k in absurd cc) in
    subst (λ y. Reads (IsInside d s) c.args.nodes.now (Err y)) (sym c.after-in-Err-params.ensures)
    (inside_end d s c.args.nodes.now c.loop-at.rest.now c.loop-at.items c.in-Err-params.fault
    c.loop-at.invariant.so none c.in-Err-params.ensures)
