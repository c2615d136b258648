use Rattle.std.proofs.Common.{ap}
use Rattle.std.proofs.lemmas.List.{nil_from_length, drop_all}
use Rattle.sf_value.specs.Grammar.Canonical.{canon_member, canon_commas, canon_series}
use Rattle.sf_write.proofs.Following.{then, remains_all, remains_less, remains_none}
use Rattle.sf_write.proofs.CanonSteps.{next_comma}
use Rattle.sf_write.proofs.ValidParts.{awaits_all, awaits_less, awaits_none, next_of}
use Rattle.sf_write.proofs.lists.put_members.Goals as goal

pub returns-in_default-clause-text : goal.returns-in_default-clause-text
returns-in_default-clause-text g c =
    remains_none remains_all
    (ap (canon_series canon_member) (nil_from_length _ c.in_default.ensures.cases))

pub returns-in_default-clause-valid : goal.returns-in_default-clause-valid
returns-in_default-clause-valid g c =
    awaits_none awaits_all (nil_from_length _ c.in_default.ensures.cases)

pub loop-member-init : goal.loop-member-init
loop-member-init g c =
    let first = c.in-Some.ensures.cases.0 in
    record {
      text = remains_less remains_all (ap (canon_series canon_member) first)
          c.put_member-sent.ensures.text;
      valid = awaits_less awaits_all first c.put_member-sent.ensures.valid;
    }

pub loop-member-preserved : goal.loop-member-preserved
loop-member-preserved g c =
    let next = next_comma canon_member _ _ _ c.loop-member-test.true c.member-item.is in
    let member = c.put_member-sent-in-loop-member.ensures in
    record {
      text = remains_less c.loop-member.invariant.text next
          (then c.put-sent.ensures member.text);
      valid = awaits_less c.loop-member.invariant.valid
          (next_of _ _ _ c.loop-member-test.true c.member-item.is) member.valid;
    }

pub returns-clause-text : goal.returns-clause-text
returns-clause-text g c =
    remains_none c.loop-member.invariant.text
    (ap (canon_commas canon_member) (drop_all _ _ c.loop-member-test.false))

pub returns-clause-valid : goal.returns-clause-valid
returns-clause-valid g c =
    awaits_none c.loop-member.invariant.valid (drop_all _ _ c.loop-member-test.false)
