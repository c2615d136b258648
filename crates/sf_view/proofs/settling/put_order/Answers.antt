use Rattle.std.proofs.Common.{◌≡◌, ◌-◌, ◌<◌, ℕ, List, take, drop, set, length, sym, subst, arith}
use Rattle.std.proofs.lemmas.List.{length-set}
use Rattle.sf_view.specs.Settling.{IsPlace}
use Rattle.sf_view.proofs.SettledNodes.{settled_more, settled_all, later_more}
use Rattle.sf_view.proofs.SettledNodes.{later_is, index_more, IsNext, next_is, run_is}
use Rattle.sf_view.proofs.settling.put_order.Goals as goal

pub returns-in_default-clause-settled : goal.returns-in_default-clause-settled
returns-in_default-clause-settled c = λ d ps t.
    settled_all d _ _ _ _ ps (c.loop-key.invariant.settled d ps t) c.in_default.ensures.none

pub loop-key-preserved : goal.loop-key-preserved
loop-key-preserved c =
    let s : ℕ = length c.args.nodes.now - length c.loop-key.rest.now in
    let order : List ℕ = c.loop-key.order in
    let place : ℕ = c.in_ok-place.place in
    let seen : List ℕ = take c.loop-key.count order in
    let w : place < length order = omega arith in
    let is : IsPlace c.args.source.now c.args.nodes.now seen c.in-Some.key.now place
    = c.in_ok-place.ensures.place c.loop-key.invariant.index in
    let next : IsNext seen place s (take c.max-count.result (set order place s))
    = subst (λ y. IsNext seen place s (take y (set order place s))) (sym c.max-count.ensures)
    (next_is order c.loop-key.count place s c.loop-key.invariant.within w) in
    let here : drop s c.args.nodes.now ≡ c.loop-key.rest.now
    = later_is c.args.nodes.now c.loop-key.rest.now c.loop-key.invariant.later in
    let hop = c.in-Some.ensures.hop in
    record {
      within = omega (arith, length-set order place s);
      later = later_more _ _ _ _ _ _ c.loop-key.invariant.later hop;
      index =
          index_more c.args.source.now c.args.nodes.now c.loop-key.table c.place_of.new.table seen
          _ c.in-Some.key.now place s c.loop-key.invariant.index c.in_ok-place.ensures.same
          c.in_ok-place.ensures.kept c.in_ok-place.ensures.entered is
          (run_is _ _ _ _ _ _ s here hop).1 next;
      settled = λ d ps t.
          settled_more d _ _ _ seen _ ps _ _ _ place s (c.loop-key.invariant.settled d ps t) hop here
          is next;
    }
