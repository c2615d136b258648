use Rattle.sf_parse.proofs.Leaves.{no_params, item_fits}
use Rattle.sf_parse.proofs.Prefixes.{never}
use Rattle.sf_parse.proofs.WholeParts.{built_item}
use Rattle.sf_parse.proofs.WholeTexts.{item_parsed}
use Rattle.sf_parse.proofs.field.ItemFieldReaderWholeText.parse.Goals as goal

pub returns-in-Ok-make-clause-parses : goal.returns-in-Ok-make-clause-parses
returns-in-Ok-make-clause-parses c =
    let d = c.args.context.now.dialect in
    item_parsed d _ _ _ _ _ c.after_spaces-inside.ensures
    (built_item d _ _ _ _ _ _ c.in-Some.ensures.reads c.in-Ok-make.ensures.made
    c.in-Ok.ensures.reads)
    c.after_spaces.ensures (c.ends.ensures.all c.if-ends.true)

pub returns-in_default-read_params-clause-allocation_free :
    goal.returns-in_default-read_params-clause-allocation_free
returns-in_default-read_params-clause-allocation_free c = λ w.
    let begun = c.in_default-read_params.ensures.begun in
    absurd (no_params _ _ _ _ begun.0 _ c.after_spaces-inside.ensures c.in-Some.ensures.reads
    begun.1 w)

pub returns-in-Err-clause-allocation_free : goal.returns-in-Err-clause-allocation_free
returns-in-Err-clause-allocation_free c = λ w.
    never (c.in-Err.ensures.in_place
    (item_fits _ _ _ _ _ c.after_spaces-inside.ensures c.in-Some.ensures.reads w))
