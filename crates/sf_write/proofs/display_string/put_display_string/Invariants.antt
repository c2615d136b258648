use Rattle.std.proofs.Common.{◌≡◌, ◌≤◌, length, ◌∷◌}
use Rattle.std.specs.List.{prefix_len}
use Rattle.sf_value.specs.Grammar.DisplayStrings.{is_unencoded}
use Rattle.sf_value.specs.Grammar.Canonical.{canon_shown}
use Rattle.sf_write.proofs.Following.{Remains}
use Rattle.sf_write.proofs.display_string.put_display_string.Given as goal

abbrev pub invariant-loop-byte : goal.invariant-loop-byte
invariant-loop-byte g l = record {
  left : Remains g.W.Sink.state g.W.Sink.send_gives l.fn.out l.out l.fn.before l.sent
      (37 ∷ 34 ∷ canon_shown l.text) (canon_shown l.rest);
  run : l.len ≡ prefix_len is_unencoded l.rest;
  within : l.len ≤ length l.rest;
}

abbrev pub decreases-loop-byte : goal.decreases-loop-byte
decreases-loop-byte g l = length l.rest
