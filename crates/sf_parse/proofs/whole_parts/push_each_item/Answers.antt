use Rattle.std.proofs.Common.{refl, []}
use Rattle.sf_parse.specs.Machine.Members.{member_step}
use Rattle.sf_parse.proofs.Prefixes.{goes_more}
use Rattle.sf_parse.proofs.WholeParts.{item_whole, params_none, item_shorter}
use Rattle.sf_parse.proofs.WholeSteps.{item_goes}
use Rattle.sf_parse.proofs.whole_parts.push_each_item.Goals as goal

pub loop-rest-init : goal.loop-rest-init
loop-rest-init c = record { taken = []; split = refl; leads = refl }

pub loop-rest-preserved-in-Some-strip_byte : goal.loop-rest-preserved-in-Some-strip_byte
loop-rest-preserved-in-Some-strip_byte c =
    let d = c.args.context.now.dialect in
    goes_more (member_step d) _ _ _ _ _ _ c.loop-rest.invariant
    (item_goes d _ _ _ _ _ _ _ (item_whole d _ _ _ _ _ c.in-Some.ensures.reads
    (params_none d _ _ c.new-params.ensures))
    c.in-Some-strip_byte.ensures c.after_spaces-rest.ensures
    c.in_ok-push_leaf.ensures.added)

pub loop-rest-smaller-in-Some-strip_byte : goal.loop-rest-smaller-in-Some-strip_byte
loop-rest-smaller-in-Some-strip_byte c =
    let d = c.args.context.now.dialect in
    item_shorter d _ _ _ _ _ (item_whole d _ _ _ _ _ c.in-Some.ensures.reads
    (params_none d _ _ c.new-params.ensures))
    c.in-Some-strip_byte.ensures c.after_spaces-rest.ensures

pub loop-rest-preserved : goal.loop-rest-preserved
loop-rest-preserved c =
    goes_more (member_step c.args.context.now.dialect) _ _ _ _ _ _ c.loop-rest.invariant
    c.in_ok-left.ensures
