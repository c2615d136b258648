use Rattle.std.proofs.Common.{None, sym, subst}
use Rattle.sf_view.specs.Reads.{ReadsMember}
use Rattle.sf_view.proofs.ReadParts.{inner_member, item_member}
use Rattle.sf_view.proofs.text_parts.read_member.Goals as goal

pub returns-in-Some : goal.returns-in-Some
returns-in-Some c =
    let rest = c.in_ok-after_inner.field-0.now in
    subst (λ t. ReadsMember c.args.dialect t None rest) (sym c.in-Some.ensures)
    (inner_member _ _ _ c.in_ok-after_inner.ensures)

pub returns : goal.returns
returns c = item_member _ _ _ _ _ c.in_ok-bare.ensures c.in_ok-after_params.ensures
