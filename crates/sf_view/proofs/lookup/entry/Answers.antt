use Rattle.std.proofs.Common.{◌≡◌, [], false, rules, arith, refl}
use Rattle.std.specs.Str.{bytes_eq}
use Rattle.sf_view.specs.View.{DescribesMember}
use Rattle.sf_view.proofs.Hops.{DescribesParam, param_parts, opens, param_opens}
use Rattle.sf_view.proofs.Hops.{left_all, left_none, left_found, left_more}
use Rattle.sf_view.proofs.lookup.entry.Goals as goal

pub loop-name-init : goal.loop-name-init
loop-name-init c =
    let s = c.args.source.now in record {
      members = λ d ps t. left_all (DescribesMember d s) c.args.key.now ps c.args.nodes.now t;
      params = λ d r ps t.
          left_all (DescribesParam d s r) c.args.key.now ps c.args.nodes.now
          (param_parts d s r c.args.nodes.now ps t);
    }

pub returns-in_default-clause-none : goal.returns-in_default-clause-none
returns-in_default-clause-none c = λ d ps t.
    let s = c.args.source.now in
    left_none (DescribesMember d s) s (opens d s) c.args.key.now ps c.loop-name.rest.now
    (c.loop-name.invariant.members d ps t) c.in_default.ensures.none

pub returns-in_default-clause-none_param : goal.returns-in_default-clause-none_param
returns-in_default-clause-none_param c = λ d r ps t.
    let s = c.args.source.now in
    left_none (DescribesParam d s r) s (param_opens d s r) c.args.key.now ps c.loop-name.rest.now
    (c.loop-name.invariant.params d r ps t) c.in_default.ensures.none

pub returns-then-eq-clause-found : goal.returns-then-eq-clause-found
returns-then-eq-clause-found c = λ d ps t.
    let s = c.args.source.now in
    let h = c.eq.ensures in
    let e : c.args.key.now ≡ c.in-Some.name.now = first_of (search rules, grind arith) in
    let f = left_found (DescribesMember d s) s (opens d s) c.args.key.now ps
    c.loop-name.rest.now c.in-Some.name.now c.in-Some.prefix.now c.in-Some.later.now
    (c.loop-name.invariant.members d ps t) c.in-Some.ensures.hop e in
    record { value = f.value; there = f.there; describes = f.describes }

pub returns-then-eq-clause-found_param : goal.returns-then-eq-clause-found_param
returns-then-eq-clause-found_param c = λ d r ps t.
    let s = c.args.source.now in
    let h = c.eq.ensures in
    let e : c.args.key.now ≡ c.in-Some.name.now = first_of (search rules, grind arith) in
    let f = left_found (DescribesParam d s r) s (param_opens d s r) c.args.key.now ps
    c.loop-name.rest.now c.in-Some.name.now c.in-Some.prefix.now c.in-Some.later.now
    (c.loop-name.invariant.params d r ps t) c.in-Some.ensures.hop e in
    let p = f.describes in
    record { value = f.value; there = f.there; describes = (p.0, [], p.1, p.2, refl) }

pub loop-name-preserved : goal.loop-name-preserved
loop-name-preserved c =
    let s = c.args.source.now in
    let h = c.eq.ensures in
    let e : bytes_eq c.args.key.now c.in-Some.name.now ≡ false
    = first_of (search rules, grind arith) in
    record {
      members = λ d ps t.
          left_more (DescribesMember d s) s (opens d s) c.args.key.now ps c.loop-name.rest.now
          c.in-Some.name.now c.in-Some.prefix.now c.in-Some.later.now
          (c.loop-name.invariant.members d ps t) c.in-Some.ensures.hop e;
      params = λ d r ps t.
          left_more (DescribesParam d s r) s (param_opens d s r) c.args.key.now ps
          c.loop-name.rest.now c.in-Some.name.now c.in-Some.prefix.now c.in-Some.later.now
          (c.loop-name.invariant.params d r ps t) c.in-Some.ensures.hop e;
    }
