use Rattle.sf_value.specs.Grammar.Items.{item}
use Rattle.sf_scan.specs.Leaves.{leaf_bare}
use Rattle.sf_parse.proofs.WholeParts.{item_whole}
use Rattle.sf_parse.proofs.whole_parts.push_with_params.Goals as goal

pub returns : goal.returns
returns c = λ text bare.
    let params = c.read_params.new.params in record {
      item = item (leaf_bare c.args.leaf) params;
      rest = c.in_ok-rest.rest.now;
      reads = item_whole c.args.context.now.dialect text _ _ _ params bare c.in_ok-rest.ensures.reads;
      added = c.in_ok-push_leaf.ensures.added;
      after = c.in_ok-end.ensures;
    }
