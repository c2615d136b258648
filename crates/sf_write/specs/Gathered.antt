-- What was gathered of a text.
use Rattle.std.specs.Prelude.{ℕ, List, ◌++◌}
use Rattle.sf_write.specs.declared.gathered.Gathered.{Gathered}

-- the bytes in memory, and then those of the block
abbrev pub bytes_of : Gathered → List ℕ
bytes_of g = g.text.items ++ g.block
