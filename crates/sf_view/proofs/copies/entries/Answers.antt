use Rattle.std.proofs.Common.{◌≡◌, Some}
use Rattle.sf_value.specs.Grammar.Tokens.{IsKey}
use Rattle.sf_value.specs.Grammar.Valid.{ValidMember}
use Rattle.sf_view.specs.View.{DescribesMember, DescribesEntries}
use Rattle.sf_view.proofs.Copying.{pairs_more, settled_more}
use Rattle.sf_view.proofs.copies.entries.Goals as goal

pub loop-part-preserved : goal.loop-part-preserved
loop-part-preserved c =
    let key = c.in-Some-2.key in
    let member = c.in-Some-2.member in
    let is = c.in-Some-2.is in
    let key_is = c.in-Some-2.key-is in
    let member_is = c.in-Some-2.member-is in
    let some : c.in_ok-key.field-0 ≡ Some (key, member) = cc in
    let e = c.in_ok-set.ensures.new in
    record {
      settled = settled_more c.loop-part.all c.set.new.self key member e;
      left = λ d ps t valid.
          pairs_more (λ s ns p. DescribesMember d s p.0 ns p.1) (DescribesEntries d)
          (λ p. IsKey p.0 × ValidMember d p.1) c.loop-part.rest c.in-Some.part c.in-Some.others
          c.loop-part.all ps (c.loop-part.invariant.left d ps t valid) c.in-Some.ensures.text
          (c.in-Some.ensures.entries d) c.set.new.self key member
          (λ p u v. let there = c.in_ok-key.ensures d p.0 p.1 u v.0 v.1 in cc) e;
    }
