use Rattle.sf_value.specs.declared.value.Kind.TheVariants as kind
use Rattle.sf_scan.specs.ItemFields.{SpellsRawField, in_field, ends_field}
use Rattle.sf_scan.specs.Settled.{item_field_of}
use Rattle.sf_scan.proofs.Due.{due_field}
use Rattle.sf_scan.proofs.Grammar.{settles_item_field}
use Rattle.sf_scan.proofs.Refused.{whole_field, refused_field}
use Rattle.sf_scan.proofs.refusal.item_refusal.Goals as goal

pub returns-in_err-stop : goal.returns-in_err-stop
returns-in_err-stop c =
    let d = c.args.dialect in
    rw c.from_residual.ensures (whole_field d kind.Item (SpellsRawField d) item_field_of
    (settles_item_field d) (in_field d) (due_field d) ends_field _ _ _ _ _ c.item_field.ensures
    c.in_err-stop.ensures)

pub returns : goal.returns
returns c =
    let d = c.args.dialect in
    refused_field d kind.Item (SpellsRawField d) item_field_of (settles_item_field d)
    (in_field d) (due_field d) ends_field _ _ _ _ _ c.item_field.ensures _ c.in_ok-stop.ensures
    _ c.allowed-allowed.ensures.expected _ c.allowed-allowed.ensures.may_end
