use Rattle.std.proofs.Common.{ℕ, List}
use Rattle.sf_value.specs.declared.dialect.Dialect.{Dialect}
use Rattle.sf_value.specs.declared.value.Member.{Member}
use Rattle.sf_value.specs.declared.value.Member.TheVariants as member
use Rattle.sf_value.specs.Grammar.Canonical.{canon_behind}
use Rattle.sf_write.specs.Writing.{Follows}
use Rattle.sf_write.proofs.Following.{then}
use Rattle.sf_view.specs.declared.node_types.Role.TheVariants as role_is
use Rattle.sf_view.specs.View.{DescribesMember}
use Rattle.sf_view.proofs.writing.put_after.Goals as goal

pub returns-in-Some : goal.returns-in-Some
returns-in-Some g c = by
  where
    by : (d : Dialect) (k : List ℕ) (m : Member)
        → DescribesMember d c.args.view.text.now k c.args.view.nodes.now m
        → Follows g.W.Sink.state g.W.Sink.send_gives c.args.out.now c.put_inner.new.out
        c.args.before c.put_inner.result (canon_behind m)
    by d k (member.Item i) t =
        let other = c.in-Some.ensures.item d role_is.Member k i t in
        absurd cc
    by d k (member.Inner l) t =
        then c.put-sent.ensures
        (c.put_inner.ensures d l (rw c.in-Some.ensures.text (c.in-Some.ensures.inner d k l t))
        role_is.InnerParameter (rw c.params.ensures.text (c.params.ensures.inner d k l t)))

pub returns-in-None : goal.returns-in-None
returns-in-None g c = by
  where
    by : (d : Dialect) (k : List ℕ) (m : Member)
        → DescribesMember d c.args.view.text.now k c.args.view.nodes.now m
        → Follows g.W.Sink.state g.W.Sink.send_gives c.args.out.now c.put_item_after.new.out
        c.args.before c.put_item_after.result (canon_behind m)
    by d k (member.Item i) t = c.put_item_after.ensures d role_is.Member k i t
    by d k (member.Inner l) t = absurd (c.in-None.ensures.inner d k l t)
