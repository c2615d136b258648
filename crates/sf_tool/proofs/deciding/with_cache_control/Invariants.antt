use Rattle.std.proofs.Common.{◌≡◌, take}
use Rattle.sf_tool.proofs.deciding.with_cache_control.Given as goal

abbrev pub invariant-loop-name : goal.invariant-loop-name
invariant-loop-name l = l.all.items ≡ take l.name-index l.names
