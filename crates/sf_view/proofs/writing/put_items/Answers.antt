use Rattle.std.proofs.Common.{◌∷◌, [], ap, refl}
use Rattle.sf_value.specs.Grammar.Canonical.{canon_item, canon_items, canon_more}
use Rattle.sf_write.proofs.Following.{then, remains_all, remains_none}
use Rattle.sf_view.specs.declared.node_types.Role.TheVariants as role_is
use Rattle.sf_view.specs.View.{DescribesItem, DescribesItems}
use Rattle.sf_view.proofs.Writes.{unwritten_less, unwritten_none}
use Rattle.sf_view.proofs.writing.put_items.Goals as goal

pub returns-in_default : goal.returns-in_default
returns-in_default g c = λ d xs t.
    remains_none remains_all (ap canon_items (c.in_default.ensures.items d xs t))

pub loop-part-init : goal.loop-part-init
loop-part-init g c = λ d xs t.
    unwritten_less (DescribesItems d) canon_items c.args.view
    (λ s. DescribesItem d s role_is.InnerItem [])
    canon_more canon_item (λ x more. refl) c.in-Some.first c.in-Some.others
    (record { left = xs; describes = t; rest = remains_all }) c.in-Some.ensures.text
    (c.in-Some.ensures.items d) (λ x. c.put_item-sent.ensures d role_is.InnerItem [] x)

pub loop-part-preserved : goal.loop-part-preserved
loop-part-preserved g c = λ d xs t.
    unwritten_less (DescribesItems d) canon_more c.loop-part.rest
    (λ s. DescribesItem d s role_is.InnerItem [])
    canon_more (λ x. 32 ∷ canon_item x) (λ x more. refl)
    c.in-Some-split_first.part c.in-Some-split_first.others (c.loop-part.invariant d xs t)
    c.in-Some-split_first.ensures.text (c.in-Some-split_first.ensures.items d)
    (λ x u. then c.put-sent.ensures
    (c.put_item-sent-in-loop-part.ensures d role_is.InnerItem [] x u))

pub returns-in_default-split_first : goal.returns-in_default-split_first
returns-in_default-split_first g c = λ d xs t.
    unwritten_none (DescribesItems d) canon_more c.loop-part.rest
    (c.loop-part.invariant d xs t) (c.in_default-split_first.ensures.items d) refl
