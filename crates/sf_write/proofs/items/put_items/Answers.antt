use Rattle.std.proofs.Common.{ap}
use Rattle.std.proofs.lemmas.List.{nil_from_length, drop_all}
use Rattle.sf_value.specs.Grammar.Canonical.{canon_items, canon_more}
use Rattle.sf_write.proofs.Following.{then, remains_all, remains_less, remains_none}
use Rattle.sf_write.proofs.CanonSteps.{next_item}
use Rattle.sf_write.proofs.ValidParts.{awaits_all, awaits_less, awaits_none, next_of}
use Rattle.sf_write.proofs.items.put_items.Goals as goal

pub returns-in_default-clause-text : goal.returns-in_default-clause-text
returns-in_default-clause-text g c =
    remains_none remains_all (ap canon_items (nil_from_length _ c.in_default.ensures.cases))

pub returns-in_default-clause-valid : goal.returns-in_default-clause-valid
returns-in_default-clause-valid g c =
    awaits_none awaits_all (nil_from_length _ c.in_default.ensures.cases)

pub loop-item-init : goal.loop-item-init
loop-item-init g c =
    let first = c.in-Some.ensures.cases.0 in
    record {
      text = remains_less remains_all (ap canon_items first) c.put_item-sent.ensures.text;
      valid = awaits_less awaits_all first c.put_item-sent.ensures.valid;
    }

pub loop-item-preserved : goal.loop-item-preserved
loop-item-preserved g c =
    let next = next_item _ _ _ c.loop-item-test.true c.item-item.is in
    let item = c.put_item-sent-in-loop-item.ensures in
    record {
      text = remains_less c.loop-item.invariant.text next (then c.put-sent.ensures item.text);
      valid = awaits_less c.loop-item.invariant.valid
          (next_of _ _ _ c.loop-item-test.true c.item-item.is) item.valid;
    }

pub returns-clause-text : goal.returns-clause-text
returns-clause-text g c =
    remains_none c.loop-item.invariant.text (ap canon_more (drop_all _ _ c.loop-item-test.false))

pub returns-clause-valid : goal.returns-clause-valid
returns-clause-valid g c =
    awaits_none c.loop-item.invariant.valid (drop_all _ _ c.loop-item-test.false)
