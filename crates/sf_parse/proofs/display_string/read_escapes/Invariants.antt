use Rattle.std.proofs.Common.{ℕ, List, length, take, ◌++◌, ◌≤◌}
use Rattle.sf_parse.specs.Prefixes.{Goes}
use Rattle.sf_scan.specs.Characters.{utf8_of}
use Rattle.sf_parse.specs.Views.{Leads}
use Rattle.sf_parse.specs.Machine.Showns.{Unencoded, shown_step}
use Rattle.sf_parse.proofs.display_string.read_escapes.Given as goal

abbrev pub invariant-loop-rest : goal.invariant-loop-rest
invariant-loop-rest l = record {
  within : l.count ≤ 64;
  goes :
      (bs : List ℕ)
      → Goes shown_step (Unencoded bs (utf8_of l.fn.from)) l.chunk l.rest
      (Unencoded (bs ++ take l.count l.block) (utf8_of l.chars));
  leads :
      (bs : List ℕ) → Leads bs (utf8_of l.fn.from)
      → Leads (bs ++ take l.count l.block) (utf8_of l.chars);
}

abbrev pub decreases-loop-rest : goal.decreases-loop-rest
decreases-loop-rest l = length l.rest
