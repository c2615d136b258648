use Rattle.std.proofs.Common.{◌++◌}
use Rattle.std.proofs.lemmas.Result.{err_from_is_err_and}
use Rattle.sf_parse.proofs.Feeding.{refused_before, refused_after, prefix_split, suffix_split}
use Rattle.sf_parse.proofs.Feeding.{free_split, free_taken}
use Rattle.sf_parse.proofs.parser.Parser.feed.Goals as goal

pub returns-in_err-rest-clause-fed : goal.returns-in_err-rest-clause-fed
returns-in_err-rest-clause-fed c =
    let p = err_from_is_err_and c.from_residual.result c.from_residual.ensures.1 in
    rw (p.1, p.2)
    (refused_before _ _ _ _ _ _ c.in_err-rest.ensures.fed c.split_at.ensures.by_index.0)

pub returns-in_err-rest-clause-allocation_free : goal.returns-in_err-rest-clause-allocation_free
returns-in_err-rest-clause-allocation_free c =
    let p = err_from_is_err_and c.from_residual.result c.from_residual.ensures.1 in
    rw (p.1, p.2)
    (λ more h. c.in_err-rest.ensures.allocation_free (c.split_at.result.1.now ++ more)
    (free_split _ _ c.split_at.result.0.now c.split_at.result.1.now more
    c.split_at.ensures.by_index.0 h))

pub returns-in-Some-split_first-clause-fed : goal.returns-in-Some-split_first-clause-fed
returns-in-Some-split_first-clause-fed c =
    let fed = c.in_ok-rest.ensures.fed in
    refused_after _ _ _ fed.0 _ _ _ _ fed.2 c.refuse.ensures.fed
    (prefix_split _ _ _ fed.0 _ _ _ c.split_at.ensures.by_index.0 fed.1
    c.in-Some-split_first.ensures.cases.0)

pub returns-in-Some-split_first-2-clause-fed : goal.returns-in-Some-split_first-2-clause-fed
returns-in-Some-split_first-2-clause-fed c =
    let fed = c.in_ok-rest.ensures.fed in
    refused_after _ _ _ fed.0 _ _ _ _ fed.2 c.refuse-in-Some-split_first-2.ensures.fed
    (suffix_split _ _ _ fed.0 _ _ _ c.split_at.ensures.by_index.0 fed.1
    c.in_default-split_first.ensures.cases c.in-Some-split_first-2.ensures.cases.0)

pub returns-clause-allocation_free : goal.returns-clause-allocation_free
returns-clause-allocation_free c =
    λ more h. free_taken _ _ c.split_at.result.1.now more c.in_default-split_first.ensures.cases
    c.in_default-split_first-2.ensures.cases
    (c.in_ok-rest.ensures.allocation_free (c.split_at.result.1.now ++ more)
    (free_split _ _ c.split_at.result.0.now c.split_at.result.1.now more
    c.split_at.ensures.by_index.0 h))
