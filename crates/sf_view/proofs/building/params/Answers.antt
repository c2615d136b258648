use Rattle.std.proofs.Common.{◌≡◌, ◌≤◌, sym, subst, ◌∙◌, length, Some, None, rules, arith}
use Rattle.sf_value.specs.declared.value.Bare.{Bare}
use Rattle.sf_value.specs.Grammar.Pairs.{HasDistinctKeys, value_at}
use Rattle.sf_value.specs.Grammar.Tokens.{IsKey}
use Rattle.sf_view.specs.Building.{AreParams, IsParam}
use Rattle.sf_view.proofs.Hops.{DescribesParam, param_opens}
use Rattle.sf_view.proofs.BuildingLaws.{Param, ValidParam, NoMore, SameKey, no_more, param_laws}
use Rattle.sf_view.proofs.BuildingLaws.{whole_params, param_at, parts_params, key_once, one_param}
use Rattle.sf_view.proofs.BuildingLaws.{gives_none, gives_some, pushed, distinct_pushed}
use Rattle.sf_view.proofs.Wholes.{hopless, misfit, so_more, so_whole, nothing_left, opens_key}
use Rattle.sf_view.proofs.building.params.Goals as goal

pub returns-in_default : goal.returns-in_default
returns-in_default c =
    let d = c.args.source.dialect in
    let s = c.args.source.text.now in
    let r = c.args.role in
    let h = c.is_empty.ensures in
    let t = c.loop-source-test.true in
    let l : 1 ≤ length c.loop-source.rest.now = first_of (search rules, grind arith) in
    hopless s (Param d s r) (ValidParam d) (HasDistinctKeys {V = Bare}) NoMore SameKey
    (param_laws d s r) (AreParams d s r) (whole_params d s r) c.args.nodes.now
    c.loop-source.rest.now c.loop-source.all c.loop-source.invariant.so l (λ n more e. no_more n)
    c.in_default.ensures.none

pub returns-in_default-2 : goal.returns-in_default-2
returns-in_default-2 c =
    let d = c.args.source.dialect in
    let s = c.args.source.text.now in
    let r = c.args.role in
    let h = c.in-Some.ensures.hop in
    let key = c.in-Some.bytes.now in
    let all = c.loop-source.all in
    let is = c.in_default-2.is in
    let none : c.in_ok-key.field-0 ≡ None = cc in
    misfit s (Param d s r) (ValidParam d) (HasDistinctKeys {V = Bare}) NoMore SameKey
    (param_laws d s r) (AreParams d s r) (whole_params d s r) c.args.nodes.now
    c.loop-source.rest.now all key c.in-Some.prefix.now c.in-Some.later.now
    c.loop-source.invariant.so h (no_more h.first)
    (λ fs p xs before o t v a k.
    gives_none (λ k. (k ≡ key) × IsKey k × (value_at k all ≡ None)) c.in_ok-key.field-0
    c.in_ok-key.ensures none p.0 (
      sym (opens_key s p.0 _ (param_opens d s r p.0 _ p.1 t)) ∙ opens_key s key _ o,
      v.0,
      key_once all before xs p a k,
    ))

pub returns-in_default-3 : goal.returns-in_default-3
returns-in_default-3 c =
    let d = c.args.source.dialect in
    let s = c.args.source.text.now in
    let r = c.args.role in
    let h = c.in-Some.ensures.hop in
    let prefix = c.in-Some.prefix.now in
    let is = c.in_default-3.is in
    let none : c.in_ok-value.field-0 ≡ None = cc in
    misfit s (Param d s r) (ValidParam d) (HasDistinctKeys {V = Bare}) NoMore SameKey
    (param_laws d s r) (AreParams d s r) (whole_params d s r) c.args.nodes.now
    c.loop-source.rest.now c.loop-source.all c.in-Some.bytes.now prefix c.in-Some.later.now
    c.loop-source.invariant.so h (no_more h.first)
    (λ fs p xs before o t v a k.
    gives_none (IsParam d s r prefix) c.in_ok-value.field-0 c.in_ok-value.ensures none p.1
    (one_param d s c.in-Some.bytes.now r c.loop-source.rest.now prefix c.in-Some.later.now h fs p t
    v.1))

pub loop-source-preserved : goal.loop-source-preserved
loop-source-preserved c =
    let d = c.args.source.dialect in
    let s = c.args.source.text.now in
    let r = c.args.role in
    let h = c.in-Some.ensures.hop in
    let bytes = c.in-Some.bytes.now in
    let prefix = c.in-Some.prefix.now in
    let all = c.loop-source.all in
    let more = c.set.new.self in
    let key = c.in-Some-2.key in
    let x = c.in-Some-3.value in
    let is = c.in-Some-2.is in
    let some : c.in_ok-key.field-0 ≡ Some key = cc in
    let k = gives_some (λ k. (k ≡ bytes) × IsKey k × (value_at k all ≡ None)) c.in_ok-key.field-0 key
    c.in_ok-key.ensures some in
    let there = c.in-Some-3.is in
    let one : c.in_ok-value.field-0 ≡ Some x = cc in
    let v = gives_some (IsParam d s r prefix) c.in_ok-value.field-0 x c.in_ok-value.ensures one in
    let new = c.in_ok-set.ensures.new in
    let t = param_at d s bytes r c.loop-source.rest.now prefix c.in-Some.later.now x h v in
    record {
      so =
          so_more (Param d s r) (ValidParam d) c.args.nodes.now c.loop-source.rest.now prefix
          c.in-Some.later.now all more (key, x) c.loop-source.invariant.so h.split
          (subst (λ y. DescribesParam d s r y prefix x) (sym k.0) t) (k.1, v.2.1)
          (pushed all more key x c.loop-source.invariant.distinct k.2 new);
      distinct = distinct_pushed all more key x new;
    }

pub returns : goal.returns
returns c =
    let d = c.args.source.dialect in
    let s = c.args.source.text.now in
    let r = c.args.role in
    let so = c.loop-source.invariant.so in
    let h = c.is_empty.ensures in
    let t = c.loop-source-test.false in
    let l : length c.loop-source.rest.now ≡ 0 = first_of (search rules, grind arith) in (
      parts_params d s r c.args.nodes.now c.loop-source.all
          (so_whole (Param d s r) (ValidParam d) c.args.nodes.now c.loop-source.rest.now
          c.loop-source.all so (nothing_left c.loop-source.rest.now l)),
      (so.valid, c.loop-source.invariant.distinct),
    )
