use Rattle.std.proofs.Common.{◌≡◌, ◌-◌, ◌≤◌, length}
use Rattle.sf_value.specs.Devices.{Gives}
use Rattle.sf_tool.proofs.reading.read_all.Given as goal

abbrev pub invariant-loop-all : goal.invariant-loop-all
invariant-loop-all g l = record {
  gives : Gives (g.R.Source.state l.initial.source) (g.R.Source.state l.source) l.all.items;
  count : length l.all.items ≡ l.given;
  within : l.given ≤ l.max;
}

abbrev pub decreases-loop-all : goal.decreases-loop-all
decreases-loop-all g l = l.max - l.given
