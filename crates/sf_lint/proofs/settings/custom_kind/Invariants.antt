use Rattle.std.proofs.Common.{◌≡◌, drop}
use Rattle.sf_lint.specs.Settings.{custom_kind}
use Rattle.sf_lint.proofs.settings.custom_kind.Given as goal

abbrev pub invariant-loop-field : goal.invariant-loop-field
invariant-loop-field l =
    custom_kind l.fields l.name ≡ custom_kind (drop l.field-index l.fields) l.name
