use Rattle.std.proofs.Common.{length}
use Rattle.sf_parse.specs.Prefixes.{Goes}
use Rattle.sf_scan.specs.Characters.{utf8_of}
use Rattle.sf_parse.specs.Views.{Leads}
use Rattle.sf_parse.specs.Machine.Showns.{Unencoded, shown_step}
use Rattle.sf_parse.proofs.display_string.take_chars.Given as goal

abbrev pub invariant-loop-byte : goal.invariant-loop-byte
invariant-loop-byte l = record {
  goes :
      Goes shown_step (Unencoded l.initial.bytes (utf8_of l.initial.chars)) l.chunk l.rest
      (Unencoded l.bytes (utf8_of l.chars));
  leads : Leads l.bytes (utf8_of l.chars);
}

abbrev pub decreases-loop-byte : goal.decreases-loop-byte
decreases-loop-byte l = length l.rest
