use Rattle.std.proofs.Common.{sym}
use Rattle.sf_scan.proofs.Characters.{pair_begins}
use Rattle.sf_scan.proofs.display_string.past_escape.Goals as goal

pub returns : goal.returns
returns c =
    let h = c.in_ok-high.high in
    let l = c.in_ok-low.low in (
      h,
      c.in_ok-first.more.now,
      (
        c.in_ok-first.first,
        c.in_ok-first.ensures,
        sym c.in_ok-high.ensures.value,
        pair_begins c.args.chars _ h l c.in_ok-high.ensures.small c.in_ok-low.ensures.small
            (sym c.in_ok-next.ensures),
      ),
      (
        c.in_ok-second.second,
        l,
        c.in_ok-second.ensures,
        sym c.in_ok-low.ensures.value,
        sym c.in_ok-next.ensures,
      ),
    )
