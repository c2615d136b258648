use Rattle.std.proofs.Common.{◌≡◌, ◌++◌, drop}
use Rattle.sf_lint.specs.Meanings.{ignored_members}
use Rattle.sf_lint.proofs.ignored.ignored_members.Given as goal

-- the lines of the members so far, and of those that are left
abbrev pub invariant-loop-number : goal.invariant-loop-number
invariant-loop-number l =
    l.text.items ++ ignored_members l.settings l.number (drop l.number l.members)
    ≡ ignored_members l.settings 0 l.members
