use Rattle.std.proofs.Common.{rules, arith, ◌≡◌, ◌<◌, ◌≤◌, ◌+◌, ◌-◌, ◌++◌, length, take}
use Rattle.std.proofs.Common.{length-append, length-take}
use Rattle.sf_value.proofs.Gives.{gives_none, gives_more}
use Rattle.sf_tool.proofs.reading.read_all.Goals as goal

pub loop-all-init : goal.loop-all-init
loop-all-init g c =
    rw c.new-all.ensures.items
    (record { gives = gives_none _; count = search rules; within = search rules })

pub returns-then-n-max : goal.returns-then-n-max
returns-then-n-max g c =
    let prefix = c.loop-all.all.items in
    let n = c.in-Ok.n in
    let block = c.pull.new.block in
    let chunk = take n block in
    let some : 0 < n = omega arith in
    let count : length prefix ≡ c.loop-all.given = c.loop-all.invariant.count in
    let held : n ≤ length block = c.in-Ok.ensures.0 in
    let room : n ≤ c.args.max + 1 - c.loop-all.given = search rules in
    let size : length (prefix ++ chunk) ≡ c.args.max + 1 =
    omega (arith, length-append prefix chunk, length-take n block) in (
      prefix ++ chunk,
      gives_more _ _ _ prefix chunk c.loop-all.invariant.gives (c.in-Ok.ensures.1 some),
      size,
      search rules,
    )

pub returns-then-is_err : goal.returns-then-is_err
returns-then-is_err g c =
    let prefix = c.loop-all.all.items in
    let n = c.in-Ok.n in
    let block = c.pull.new.block in
    let chunk = take n block in
    let some : 0 < n = omega arith in
    let count : length prefix ≡ c.loop-all.given = c.loop-all.invariant.count in
    let held : n ≤ length block = c.in-Ok.ensures.0 in
    let above : 0 < length (prefix ++ chunk) =
    omega (arith, length-append prefix chunk, length-take n block) in
    let within : length (prefix ++ chunk) ≤ c.args.max =
    omega (arith, length-append prefix chunk, length-take n block) in (
      prefix ++ chunk,
      gives_more _ _ _ prefix chunk c.loop-all.invariant.gives (c.in-Ok.ensures.1 some),
      above,
      within,
    )
