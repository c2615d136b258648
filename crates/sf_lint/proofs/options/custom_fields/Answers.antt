use Rattle.std.proofs.Common.{◌≡◌, ◌⊎◌, [], Some, None, ap, sym, ◌∙◌, map, get_or, subst}
use Rattle.clap.specs.Walk.{Text}
use Rattle.sf_tool.proofs.CommandLine.{texts, text-at}
use Rattle.sf_lint.specs.Options.{custom_of}
use Rattle.sf_lint.specs.declared.options.OptionsFault.TheVariants.{Usage, OutOfMemory}
use Rattle.sf_lint.proofs.OptionWords.{fields_more, fields-fault}
use Rattle.sf_lint.proofs.options.custom_fields.Goals as goal

pub returns-in_err-field : goal.returns-in_err-field
returns-in_err-field c =
    let i = c.loop-word.word-index in
    let at = text-at c.args.words.now i c.loop-word-test.true in
    let fault = c.in_err-field.field-0.0 in
    let P : Text → Type 0 =
    λ w. ((fault ≡ Usage) × (custom_of w ≡ None)) ⊎ (fault ≡ OutOfMemory) in
    fields-fault (texts c.args.words.now) i at.0 fault
    (subst P (c.as_bytes.ensures.value ∙ at.1) c.in_err-field.ensures) c.from_residual.result
    c.from_residual.ensures.1

pub loop-word-preserved : goal.loop-word-preserved
loop-word-preserved c =
    let i = c.loop-word.word-index in
    let words = texts c.args.words.now in
    let at = text-at c.args.words.now i c.loop-word-test.true in
    let one : custom_of (get_or words i []) ≡ Some c.in_ok-field.field =
    ap custom_of (sym (c.as_bytes.ensures.value ∙ at.1)) ∙ c.in_ok-field.ensures in
    fields_more words c.loop-word.fields.items c.in_ok-field.field i at.0 c.loop-word.invariant one
    ∙ ap (map Some) (sym c.in-Ok.ensures.items)
