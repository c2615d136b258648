use Rattle.std.proofs.Common.{◌∙◌, get_or, take}
use Rattle.sf_c.specs.declared.span.Span.{Span}
use Rattle.sf_c.proofs.Selecting.{ignored_more, index_of, reached, same_output}
use Rattle.sf_c.proofs.select.select.Goals as goal

-- what is read past the last field
abbrev nowhere : Span
nowhere = record { at = 0; length = 0 }

pub returns-in-Answered : goal.returns-in-Answered
returns-in-Answered c =
    let fields = c.args.fields.now in
    let place = c.loop-place.place in
    let found = c.in-Answered.ensures in
    let ignored = c.loop-place.invariant.ignored in (
      take place fields,
      get_or fields place nowhere,
      reached c.args.dialect c.args.texts.now fields place nowhere c.loop-place-test.true ignored,
      index_of fields place c.loop-place-test.true,
      found.0,
      found.1,
    )

pub returns-in-BadCall : goal.returns-in-BadCall
returns-in-BadCall c =
    let fields = c.args.fields.now in
    let place = c.loop-place.place in
    let found = c.in-BadCall.ensures in
    let kept = c.loop-place.invariant in (
      take place fields,
      get_or fields place nowhere,
      reached c.args.dialect c.args.texts.now fields place nowhere c.loop-place-test.true
          kept.ignored,
      found.0,
      same_output _ _ _ _ kept.index_kept (found.1 ∙ kept.rules_kept),
    )

pub returns-in-OutOfMemory : goal.returns-in-OutOfMemory
returns-in-OutOfMemory c =
    let fields = c.args.fields.now in
    let place = c.loop-place.place in
    let found = c.in-OutOfMemory.ensures in
    let kept = c.loop-place.invariant in (
      take place fields,
      get_or fields place nowhere,
      reached c.args.dialect c.args.texts.now fields place nowhere c.loop-place-test.true
          kept.ignored,
      found.0,
      same_output _ _ _ _ kept.index_kept (found.1 ∙ kept.rules_kept),
    )

pub loop-place-preserved : goal.loop-place-preserved
loop-place-preserved c =
    let found = c.in-Empty.ensures in
    let kept = c.loop-place.invariant in
    record {
      ignored =
          ignored_more c.args.dialect c.args.texts.now c.args.fields.now c.loop-place.place nowhere
          c.loop-place-test.true kept.ignored found.0 found.1;
      rules_kept = found.2 ∙ kept.rules_kept;
      index_kept = kept.index_kept;
    }
