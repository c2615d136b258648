use Rattle.std.proofs.Common.{◌+◌, length, ap, subst, sym, ◌∙◌}
use Rattle.sf_value.specs.Grammar.DisplayStrings.{is_unencoded}
use Rattle.sf_value.specs.Grammar.Words.{Every}
use Rattle.sf_write.proofs.Runs.{prefix_after, near_far}
use Rattle.sf_write.proofs.display_string.unencoded_len_after_run.Goals as goal

pub returns-clause-len : goal.returns-clause-len
returns-clause-len c =
    let s = c.args.bytes.now in
    let split = c.split_at.ensures in
    let run = c.split_at.result.0.now in
    let rest = c.split_at.result.1.now in
    ap (λ n. length run + n) c.unencoded_len_by_byte-more.ensures.len
    ∙ prefix_after is_unencoded s run rest (near_far s run rest _ split.front split.back)
    (subst (Every is_unencoded) (sym split.front) c.long_run.ensures.every)
