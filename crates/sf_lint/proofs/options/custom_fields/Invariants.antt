use Rattle.std.proofs.Common.{◌≡◌, map, take, Some}
use Rattle.sf_lint.specs.Options.{custom_of}
use Rattle.sf_lint.proofs.options.custom_fields.Given as goal

abbrev pub invariant-loop-word : goal.invariant-loop-word
invariant-loop-word l =
    map custom_of (take l.word-index (map (λ w. w.now) l.words)) ≡ map Some l.fields.items
