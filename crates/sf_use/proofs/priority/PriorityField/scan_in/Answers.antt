use Rattle.std.proofs.Common.{◌≡◌, None}
use Rattle.sf_use.specs.Priority.{params_of_field}
use Rattle.sf_use.specs.Scanning.{with_member}
use Rattle.sf_use.proofs.Scanning.{params_of_pairs, all_params, read_none, read_all}
use Rattle.sf_use.proofs.priority.PriorityField.scan_in.Goals as goal

pub loop-member-init : goal.loop-member-init
loop-member-init c =
    read_none c.args.dialect with_member params_of_pairs _ _ _ c.new-cursor.ensures.dialect
    c.new-cursor.ensures.whole
    all_params

pub returns : goal.returns
returns c =
    let is = c.in_default.is in
    let none : c.in_ok-member.field-0 ≡ None = cc in
    read_all c.args.dialect with_member params_of_pairs _ _ _ _ _ c.loop-member.invariant
    c.in_ok-member.ensures.next
    none (λ v a. a ≡ params_of_field v) (λ all e. e)
