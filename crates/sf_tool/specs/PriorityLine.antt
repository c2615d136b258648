-- The line that `priority` prints.
use Rattle.std.specs.Prelude.{ℕ, Bool, true, false, List, ◌++◌, codes, decimal}
use Rattle.sf_use.specs.declared.priority.Priority.{Priority}

abbrev pub incremental_word : Bool → List ℕ
incremental_word true = codes "true\n"
incremental_word false = codes "false\n"

abbrev pub priority_line : Priority → List ℕ
priority_line p =
    codes "urgency "
    ++ (decimal p.urgency ++ (codes " incremental " ++ incremental_word p.incremental))
