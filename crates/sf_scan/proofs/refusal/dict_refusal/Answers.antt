use Rattle.sf_value.specs.declared.value.Kind.TheVariants as kind
use Rattle.sf_scan.specs.Entries.{SpellsRawDict, in_dict, ends_dict}
use Rattle.sf_scan.specs.Settled.{dict_field_of}
use Rattle.sf_scan.proofs.Due.{due_dict}
use Rattle.sf_scan.proofs.Grammar.{settles_dict}
use Rattle.sf_scan.proofs.Refused.{whole_field, refused_field}
use Rattle.sf_scan.proofs.refusal.dict_refusal.Goals as goal

pub returns-in_err-stop : goal.returns-in_err-stop
returns-in_err-stop c =
    let d = c.args.dialect in
    rw c.from_residual.ensures (whole_field d kind.Dict (SpellsRawDict d) dict_field_of
    (settles_dict d) (in_dict d) (due_dict d) ends_dict _ _ _ _ _ c.dict.ensures
    c.in_err-stop.ensures)

pub returns : goal.returns
returns c =
    let d = c.args.dialect in
    refused_field d kind.Dict (SpellsRawDict d) dict_field_of (settles_dict d)
    (in_dict d) (due_dict d) ends_dict _ _ _ _ _ c.dict.ensures _ c.in_ok-stop.ensures
    _ c.allowed-allowed.ensures.expected _ c.allowed-allowed.ensures.may_end
