use Rattle.std.proofs.Common.{◌≡◌, ℕ, List, length}
use Rattle.sf_value.specs.declared.value.Bare.{Bare}
use Rattle.sf_value.specs.Grammar.Pairs.{Pairs, settle}
use Rattle.sf_parse.specs.Machine.Params.{MoreParams}
use Rattle.sf_parse.specs.WholeParts.{ReadsAs}
use Rattle.sf_parse.proofs.whole_parts.read_each_param.Given as goal

-- whatever parameters the rest begins with, the text begins with those put and these
abbrev pub invariant-loop-more : goal.invariant-loop-more
invariant-loop-more l = record {
  settled : settle l.params ≡ l.params;
  reads : (all : Pairs Bare) (s : List ℕ)
      → ReadsAs (MoreParams l.context.dialect l.params) l.rest all s
      → ReadsAs (MoreParams l.context.dialect l.initial.params) l.text all s;
}

abbrev pub decreases-loop-more : goal.decreases-loop-more
decreases-loop-more l = length l.rest
