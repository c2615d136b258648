use Rattle.sf_value.specs.Grammar.Items.{item}
use Rattle.sf_scan.specs.Leaves.{leaf_bare}
use Rattle.sf_parse.proofs.WholeParts.{item_whole, params_none, takes_found}
use Rattle.sf_parse.proofs.whole_parts.push_item.Goals as goal

pub returns-then-is_some : goal.returns-then-is_some
returns-then-is_some c =
    let d = c.args.context.now.dialect in
    takes_found d _ _ _ _ _ c.in-Some.ensures.reads _ c.push_with_params.ensures

pub returns : goal.returns
returns c =
    let d = c.args.context.now.dialect in record {
      item = item (leaf_bare c.in-Some.leaf) c.new-params.result;
      rest = c.in-Some.after.now;
      reads =
          item_whole d _ _ _ _ _ c.in-Some.ensures.reads
          (params_none d _ _ c.new-params.ensures);
      added = c.in_ok-push_leaf.ensures.added;
      after = c.in_ok-end.ensures;
    }
