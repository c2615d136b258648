use Rattle.std.proofs.Common.{◌≡◌, ap, ◌∙◌, codes, refl}
use Rattle.std.proofs.lemmas.Result.{IfOk-weaker}
use Rattle.std.specs.Prelude.{true}
use Rattle.clap.specs.Simple.{App, Shape, app_of, app_of_fields, new_app, new_shape, on_top}
use Rattle.sf_tool.specs.CommandLine.{kind_command, names_command}
use Rattle.sf_tool.proofs.CommandLine.{added}
use Rattle.sf_tool.proofs.request.make_command.Goals as goal

abbrev top : App → Shape
top a = a.top

abbrev required : Shape → Shape
required s = record s { subcommand_required = true }

pub returns : goal.returns
returns c =
    let start : app_of c.subcommand_required.result ≡ on_top required (new_app (codes "sf")) =
    ap app_of_fields c.subcommand_required.ensures ∙ ap (on_top required) c.new.ensures.app in
    let show = added c.subcommand_required.result c.in_ok-with_kind.field-0
    c.in_ok-subcommand.field-0 _ (kind_command (codes "show")) c.in_ok-subcommand.ensures start
    (ap top c.in_ok-with_kind.ensures) refl in
    let check = added c.in_ok-subcommand.field-0 c.in_ok-with_kind-2.field-0
    c.in_ok-subcommand-2.field-0 _ (kind_command (codes "check")) c.in_ok-subcommand-2.ensures show
    (ap top c.in_ok-with_kind-2.ensures) refl in
    let normalise = added c.in_ok-subcommand-2.field-0 c.in_ok-with_kind-3.field-0
    c.in_ok-subcommand-3.field-0 _ (kind_command (codes "normalise")) c.in_ok-subcommand-3.ensures
    check (ap top c.in_ok-with_kind-3.ensures) refl in
    let cache_status = added c.in_ok-subcommand-3.field-0 c.new-2.result
    c.in_ok-subcommand-4.field-0 _ (new_shape (codes "cache-status")) c.in_ok-subcommand-4.ensures
    normalise (ap top c.new-2.ensures.app) refl in
    let targeted = added c.in_ok-subcommand-4.field-0 c.in_ok-with_names.field-0
    c.in_ok-subcommand-5.field-0 _ (names_command (codes "targeted")) c.in_ok-subcommand-5.ensures
    cache_status (ap top c.in_ok-with_names.ensures) refl in
    IfOk-weaker c.subcommand-6.result _ _
    (λ new adds. added c.in_ok-subcommand-5.field-0 c.new-3.result new _
    (new_shape (codes "priority")) adds targeted (ap top c.new-3.ensures.app) refl)
    c.subcommand-6.ensures
