use Rattle.std.proofs.Common.{◌≡◌, arith, length, refl, ap, sym, subst, ◌∙◌, take}
use Rattle.sf_view.specs.Accepts.{AreEntries}
use Rattle.sf_view.proofs.Members.{entries_settled}
use Rattle.sf_view.proofs.growing.condense.Goals as goal

pub returns : goal.returns
returns c = λ d s.
    let settled = c.in-Some.settled in
    let all : c.len-count.result ≡ length settled.items =
    omega (arith, c.len-count.ensures, settled.ok) in
    subst (AreEntries d c.args.text.now c.args.from.rest.now _ settled.items) (sym all)
    (entries_settled d c.args.text.now c.args.from.rest.now c.args.from.marks _
    c.args.nodes.now.items c.split_at.result.0.now settled.items c.args.from.count s
    (c.split_at.ensures.front ∙ ap (take c.args.from.count) c.as_slice.ensures.value) refl
    (λ ps t. c.in-Some.ensures d ps t))
