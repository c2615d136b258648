use Rattle.std.proofs.Common.{◌≡◌, ◌≤◌, length, not, [], ◌∷◌, ◌++◌}
use Rattle.std.specs.List.{prefix_len}
use Rattle.sf_value.specs.Grammar.Strings.{escaped, is_escaped}
use Rattle.sf_write.proofs.Following.{Remains}
use Rattle.sf_write.proofs.strings.put_string.Given as goal

abbrev pub invariant-loop-byte : goal.invariant-loop-byte
invariant-loop-byte g l = record {
  left : Remains g.W.Sink.state g.W.Sink.send_gives l.fn.out l.out l.fn.before l.sent
      (34 ∷ (escaped l.text ++ 34 ∷ [])) (escaped l.rest ++ 34 ∷ []);
  run : l.len ≡ prefix_len (λ b. not (is_escaped b)) l.rest;
  within : l.len ≤ length l.rest;
}

abbrev pub decreases-loop-byte : goal.decreases-loop-byte
decreases-loop-byte g l = length l.rest
