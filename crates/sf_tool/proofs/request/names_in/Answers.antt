use Rattle.std.proofs.Common.{◌≡◌, ◌++◌, ◌∷◌, [], ap, ap₂, sym, ◌∙◌, arith}
use Rattle.std.proofs.Common.{true, false, subst}
use Rattle.http_header.specs.Token.{lowercase}
use Rattle.clap.specs.Walk.{Text}
use Rattle.sf_tool.specs.Fields.{is_header_name}
use Rattle.sf_tool.proofs.CommandLine.{names-more, lowercase-more, not-names, texts, text-at}
use Rattle.sf_tool.proofs.request.names_in.Goals as goal

pub returns-in_default : goal.returns-in_default
returns-in_default c =
    let at = text-at c.args.words.now c.loop-word.word-index c.loop-word-test.true in
    let P : Text → Type 0 = λ w. is_header_name w ≡ false in
    not-names (texts c.args.words.now) c.loop-word.word-index [] at.0
    (subst P (c.as_bytes.ensures.value ∙ at.1) c.in_default.ensures)

pub returns-in_default-made : goal.returns-in_default-made
returns-in_default-made c =
    let at = text-at c.args.words.now c.loop-word.word-index c.loop-word-test.true in
    let P : Text → Type 0 = λ w. is_header_name w ≡ true in
    let names = names-more (texts c.args.words.now) c.loop-word.word-index [] at.0
    c.loop-word.invariant.are_names
    (subst P (c.as_bytes.ensures.value ∙ at.1) c.in-Some.ensures.0) in
    (omega (arith, at.2), (c.loop-word.word-index, at.0, names))

pub returns-in_default-push : goal.returns-in_default-push
returns-in_default-push c =
    let at = text-at c.args.words.now c.loop-word.word-index c.loop-word-test.true in
    let P : Text → Type 0 = λ w. is_header_name w ≡ true in
    let names = names-more (texts c.args.words.now) c.loop-word.word-index [] at.0
    c.loop-word.invariant.are_names
    (subst P (c.as_bytes.ensures.value ∙ at.1) c.in-Some.ensures.0) in
    (omega (arith, at.2), (c.loop-word.word-index, at.0, names))

pub loop-word-preserved : goal.loop-word-preserved
loop-word-preserved c =
    let at = text-at c.args.words.now c.loop-word.word-index c.loop-word-test.true in
    let P : Text → Type 0 = λ w. is_header_name w ≡ true in
    let word = c.as_bytes.ensures.value ∙ at.1 in
    let made : c.in-Ok.name ≡ lowercase c.as_bytes.result.now =
    rw c.in-Ok.is at c.in-Some.ensures.1 in
    record {
      are_names = names-more (texts c.args.words.now) c.loop-word.word-index [] at.0
          c.loop-word.invariant.are_names (subst P word c.in-Some.ensures.0);
      names = c.in-Ok-push.ensures.items
          ∙ ap₂ (λ prefix name. prefix ++ name ∷ []) c.loop-word.invariant.names
          (made ∙ ap lowercase word)
          ∙ sym (lowercase-more (texts c.args.words.now) c.loop-word.word-index [] at.0);
    }
