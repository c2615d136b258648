use Rattle.std.proofs.Common.{sym, ◌∙◌}
use Rattle.sf_scan.proofs.DisplayStrings.{no_second}
use Rattle.sf_scan.proofs.display_string.second_digit.Goals as goal

pub returns-in_default-after : goal.returns-in_default-after
returns-in_default-after c =
    let n = no_second c.args.chars c.args.high c.in-Some.byte c.in-Some-unhex.low c.requires.small
    c.requires.begins (sym c.in-Some-unhex.ensures.value)
    (sym c.after.ensures ∙ c.in_default-after.is) in
    rw c.in-Some.ensures n
