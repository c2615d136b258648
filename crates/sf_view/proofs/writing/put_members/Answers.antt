use Rattle.std.proofs.Common.{◌∷◌, [], ap, refl}
use Rattle.sf_value.specs.Grammar.Canonical.{canon_member, canon_commas, canon_series}
use Rattle.sf_write.proofs.Following.{then, remains_all, remains_none}
use Rattle.sf_view.specs.View.{DescribesMember, DescribesMembers}
use Rattle.sf_view.proofs.Writes.{unwritten_less, unwritten_none}
use Rattle.sf_view.proofs.writing.put_members.Goals as goal

pub returns-in_default : goal.returns-in_default
returns-in_default g c = λ d xs t.
    remains_none remains_all (ap (canon_series canon_member) (c.in_default.ensures.members d xs t))

pub loop-part-init : goal.loop-part-init
loop-part-init g c = λ d xs t.
    unwritten_less (DescribesMembers d) (canon_series canon_member) c.args.view
    (λ s. DescribesMember d s [])
    (canon_commas canon_member) canon_member (λ x more. refl) c.in-Some.first c.in-Some.others
    (record { left = xs; describes = t; rest = remains_all }) c.in-Some.ensures.text
    (c.in-Some.ensures.members d) (λ x. c.put_member-sent.ensures d [] x)

pub loop-part-preserved : goal.loop-part-preserved
loop-part-preserved g c = λ d xs t.
    unwritten_less (DescribesMembers d) (canon_commas canon_member) c.loop-part.rest
    (λ s. DescribesMember d s [])
    (canon_commas canon_member) (λ x. 44 ∷ 32 ∷ canon_member x) (λ x more. refl)
    c.in-Some-split_first.part c.in-Some-split_first.others (c.loop-part.invariant d xs t)
    c.in-Some-split_first.ensures.text (c.in-Some-split_first.ensures.members d)
    (λ x u. then c.put-sent.ensures (c.put_member-sent-in-loop-part.ensures d [] x u))

pub returns-in_default-split_first : goal.returns-in_default-split_first
returns-in_default-split_first g c = λ d xs t.
    unwritten_none (DescribesMembers d) (canon_commas canon_member) c.loop-part.rest
    (c.loop-part.invariant d xs t) (c.in_default-split_first.ensures.members d) refl
