use Rattle.std.proofs.Common.{◌≡◌, ◌≢◌, ℕ, ◌<◌, ◌+◌, get_or}
use Rattle.sf_view.specs.Settling.{key_from, slot_in}
use Rattle.sf_view.proofs.settling.place_by_table.Given as goal

abbrev pub invariant-loop-step : goal.invariant-loop-step
invariant-loop-step l = record {
  same : l.table ≡ l.initial.table;
  other : (i p : ℕ) → i < l.step → get_or l.table (slot_in l.table l.own i) 0 ≡ p + 1
      → key_from l.source l.nodes (get_or l.order p 0) ≢ l.key;
  full : (i : ℕ) → i < l.step → get_or l.table (slot_in l.table l.own i) 0 ≢ 0;
}
