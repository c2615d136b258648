use Rattle.std.proofs.Common.{◌≡◌, ◌∙◌, ap₂, bytes_eq, false, arith, rules}
use Rattle.std.proofs.lemmas.Result.{IfOk-weaker}
use Rattle.sf_tool.specs.Deciding.{different_text}
use Rattle.sf_tool.proofs.deciding.decision_text.Goals as goal

pub returns : goal.returns
returns c =
    let e = c.eq.ensures in
    let read : bytes_eq c.as_slice.result.now c.as_slice-2.result.now ≡ false
    = first_of (search rules, grind arith) in
    let differ : bytes_eq c.in_ok-older.older.items c.in_ok-newer.newer.items ≡ false =
    rw (c.as_slice.ensures.value, c.as_slice-2.ensures.value) at read in
    IfOk-weaker c.by_each_dialect.result _ _
    (λ text h. (
      c.in_ok-older.older.items,
      c.in_ok-newer.newer.items,
      c.in_ok-older.ensures,
      c.in_ok-newer.ensures,
      rw differ (h ∙ ap₂ different_text c.as_slice-3.ensures.value c.as_slice-4.ensures.value),
    )) c.by_each_dialect.ensures
