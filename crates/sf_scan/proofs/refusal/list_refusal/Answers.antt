use Rattle.sf_value.specs.declared.value.Kind.TheVariants as kind
use Rattle.sf_scan.specs.Series.{SpellsRawList, in_list, ends_list}
use Rattle.sf_scan.specs.Settled.{list_field_of}
use Rattle.sf_scan.proofs.Due.{due_list}
use Rattle.sf_scan.proofs.Grammar.{settles_list}
use Rattle.sf_scan.proofs.Refused.{whole_field, refused_field}
use Rattle.sf_scan.proofs.refusal.list_refusal.Goals as goal

pub returns-in_err-stop : goal.returns-in_err-stop
returns-in_err-stop c =
    let d = c.args.dialect in
    rw c.from_residual.ensures (whole_field d kind.List (SpellsRawList d) list_field_of
    (settles_list d) (in_list d) (due_list d) ends_list _ _ _ _ _ c.list.ensures
    c.in_err-stop.ensures)

pub returns : goal.returns
returns c =
    let d = c.args.dialect in
    refused_field d kind.List (SpellsRawList d) list_field_of (settles_list d)
    (in_list d) (due_list d) ends_list _ _ _ _ _ c.list.ensures _ c.in_ok-stop.ensures
    _ c.allowed-allowed.ensures.expected _ c.allowed-allowed.ensures.may_end
