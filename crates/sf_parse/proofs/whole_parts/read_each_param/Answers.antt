use Rattle.std.proofs.Common.{◌≡◌, ◌∙◌, ap, subst, sym}
use Rattle.sf_value.specs.Grammar.Pairs.{settle}
use Rattle.sf_value.proofs.Settling.{put_settled}
use Rattle.sf_parse.proofs.WholeParts.{params_end, params_then, params_whole}
use Rattle.sf_parse.proofs.whole_parts.read_each_param.Goals as goal

pub loop-more-init : goal.loop-more-init
loop-more-init c = record {
  settled = ap settle c.requires ∙ sym c.requires;
  reads = λ all s r. r;
}

pub loop-more-preserved : goal.loop-more-preserved
loop-more-preserved c =
    let put = c.in_ok-put_leaf.ensures.put in
    record {
      settled =
          subst (λ y. settle y ≡ y) (sym put)
          (put_settled c.loop-more.params c.in-Some-find_param.found.key.now _);
      reads = λ all s r.
          c.loop-more.invariant.reads all s
          (params_then _ _ _ _ _ _ _ _ _ _ c.in-Some.ensures
          c.in-Some-find_param.ensures.param put r);
    }

pub returns-in_default-find_param : goal.returns-in_default-find_param
returns-in_default-find_param c =
    params_whole _ _ _ _ _ c.requires
    (c.loop-more.invariant.reads _ _ (params_end _ _ _ c.loop-more.invariant.settled))

pub returns : goal.returns
returns c =
    params_whole _ _ _ _ _ c.requires
    (c.loop-more.invariant.reads _ _ (params_end _ _ _ c.loop-more.invariant.settled))
