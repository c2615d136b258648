use Rattle.std.proofs.Common.{◌≡◌, ◌≤◌, sym, subst, ◌∙◌, length, Some, None, Err, rules, arith}
use Rattle.sf_value.specs.declared.value.Member.{Member}
use Rattle.sf_value.specs.Grammar.Pairs.{HasDistinctKeys, value_at}
use Rattle.sf_value.specs.Grammar.Tokens.{IsKey}
use Rattle.sf_view.specs.View.{DescribesMember}
use Rattle.sf_view.specs.Building.{AreEntries, IsMember, Reads}
use Rattle.sf_view.proofs.Hops.{opens}
use Rattle.sf_view.proofs.BuildingLaws.{Entry, ValidEntry, NoMore, SameKey, no_more, entry_laws}
use Rattle.sf_view.proofs.BuildingLaws.{whole_dict, as_entry, member_at, parts_entries, key_once}
use Rattle.sf_view.proofs.BuildingLaws.{gives_none, gives_some, pushed, distinct_pushed}
use Rattle.sf_view.proofs.Wholes.{hopless, misfit, part_wrong, so_more, so_whole, nothing_left}
use Rattle.sf_view.proofs.Wholes.{opens_key}
use Rattle.sf_view.proofs.building.entries.Goals as goal

pub returns-in_default : goal.returns-in_default
returns-in_default c =
    let d = c.args.source.dialect in
    let s = c.args.source.text.now in
    let h = c.is_empty.ensures in
    let t = c.loop-source-test.true in
    let l : 1 ≤ length c.loop-source.rest.now = first_of (search rules, grind arith) in
    hopless s (Entry d s) (ValidEntry d) (HasDistinctKeys {V = Member}) NoMore SameKey
    (entry_laws d s) (AreEntries d s) (whole_dict d s) c.args.nodes.now c.loop-source.rest.now
    c.loop-source.all c.loop-source.invariant.so l (λ n more e. no_more n)
    c.in_default.ensures.none

pub returns-in_default-2 : goal.returns-in_default-2
returns-in_default-2 c =
    let d = c.args.source.dialect in
    let s = c.args.source.text.now in
    let h = c.in-Some.ensures.hop in
    let key = c.in-Some.bytes.now in
    let all = c.loop-source.all in
    let is = c.in_default-2.is in
    let none : c.in_ok-key.field-0 ≡ None = cc in
    misfit s (Entry d s) (ValidEntry d) (HasDistinctKeys {V = Member}) NoMore SameKey
    (entry_laws d s) (AreEntries d s) (whole_dict d s) c.args.nodes.now c.loop-source.rest.now all
    key c.in-Some.prefix.now c.in-Some.later.now c.loop-source.invariant.so h (no_more h.first)
    (λ fs p xs before o t v a k.
    gives_none (λ k. (k ≡ key) × IsKey k × (value_at k all ≡ None)) c.in_ok-key.field-0
    c.in_ok-key.ensures none p.0 (
      sym (opens_key s p.0 _ (opens d s p.0 _ p.1 t)) ∙ opens_key s key _ o,
      v.0,
      key_once all before xs p a k,
    ))

pub returns-in-Err : goal.returns-in-Err
returns-in-Err c =
    let d = c.args.source.dialect in
    let s = c.args.source.text.now in
    let h = c.in-Some.ensures.hop in
    subst (λ y. Reads (AreEntries d s) c.args.nodes.now (Err y)) (sym c.after.ensures)
    (part_wrong s (Entry d s) (ValidEntry d) (HasDistinctKeys {V = Member}) NoMore SameKey
    (entry_laws d s) (AreEntries d s) (whole_dict d s) (IsMember d s) c.args.nodes.now
    c.loop-source.rest.now c.loop-source.all c.in-Some.bytes.now c.in-Some.prefix.now
    c.in-Some.later.now c.in-Err.fault c.loop-source.invariant.so h (no_more h.first) (as_entry d s)
    c.in-Err.ensures)

pub loop-source-preserved : goal.loop-source-preserved
loop-source-preserved c =
    let d = c.args.source.dialect in
    let s = c.args.source.text.now in
    let h = c.in-Some.ensures.hop in
    let bytes = c.in-Some.bytes.now in
    let prefix = c.in-Some.prefix.now in
    let all = c.loop-source.all in
    let more = c.set.new.self in
    let key = c.in-Some-2.key in
    let m = c.in-Ok.member in
    let is = c.in-Some-2.is in
    let some : c.in_ok-key.field-0 ≡ Some key = cc in
    let k = gives_some (λ k. (k ≡ bytes) × IsKey k × (value_at k all ≡ None)) c.in_ok-key.field-0 key
    c.in_ok-key.ensures some in
    let new = c.in_ok-set.ensures.new in
    let t = member_at d s bytes c.loop-source.rest.now prefix c.in-Some.later.now m h
    c.in-Ok.ensures in
    record {
      so =
          so_more (Entry d s) (ValidEntry d) c.args.nodes.now c.loop-source.rest.now prefix
          c.in-Some.later.now all more (key, m) c.loop-source.invariant.so h.split
          (subst (λ y. DescribesMember d s y prefix m) (sym k.0) t) (k.1, c.in-Ok.ensures.1)
          (pushed all more key m c.loop-source.invariant.distinct k.2 new);
      distinct = distinct_pushed all more key m new;
    }

pub returns : goal.returns
returns c =
    let d = c.args.source.dialect in
    let s = c.args.source.text.now in
    let so = c.loop-source.invariant.so in
    let h = c.is_empty.ensures in
    let t = c.loop-source-test.false in
    let l : length c.loop-source.rest.now ≡ 0 = first_of (search rules, grind arith) in (
      parts_entries d s c.args.nodes.now c.loop-source.all
          (so_whole (Entry d s) (ValidEntry d) c.args.nodes.now c.loop-source.rest.now
          c.loop-source.all so (nothing_left c.loop-source.rest.now l)),
      (so.valid, c.loop-source.invariant.distinct),
    )
