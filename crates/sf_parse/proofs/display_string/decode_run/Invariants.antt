use Rattle.std.proofs.Common.{◌≡◌, ◌≤◌, ◌++◌, ◌∷◌, length, take}
use Rattle.sf_scan.specs.DisplayStrings.{shown_bytes}
use Rattle.sf_parse.proofs.display_string.decode_run.Given as goal

abbrev pub invariant-loop-count : goal.invariant-loop-count
invariant-loop-count l = record {
  within : l.count ≤ 64;
  bytes : l.first ∷ shown_bytes l.text ≡ take l.count l.block ++ shown_bytes l.rest;
  shorter : length l.rest ≤ length l.text;
}

abbrev pub decreases-loop-count : goal.decreases-loop-count
decreases-loop-count l = length l.rest
