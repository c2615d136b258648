use Rattle.sf_view.proofs.CountedParts.{entry_member, entry_flag}
use Rattle.sf_view.proofs.counting.count_entry.Goals as goal

pub returns-in-Some-strip_byte : goal.returns-in-Some-strip_byte
returns-in-Some-strip_byte c =
    entry_member _ _ _ _ _ _ _ _ c.in-Some.ensures.0 c.in-Some.ensures.1 c.in-Some-strip_byte.ensures
    c.in_ok-member.ensures

pub returns : goal.returns
returns c =
    entry_flag _ _ _ _ _ _ _ _ _ c.in-Some.ensures.0 c.in-Some.ensures.1 c.in_ok-params.ensures
    c.in_ok-counts.ensures.nodes c.in_ok-counts.ensures.bytes
