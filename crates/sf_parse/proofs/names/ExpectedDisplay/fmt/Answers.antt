use Rattle.std.proofs.Common.{◌++◌, sym, ap, ◌∙◌, rules}
use Rattle.std.proofs.Output.{has_written_append}
use Rattle.sf_parse.specs.Names.{name_text, names_left, and_more, joint}
use Rattle.sf_parse.proofs.Listing.{from_next, taken_next, joint_next, regroup}
use Rattle.sf_parse.proofs.names.ExpectedDisplay.fmt.Goals as goal

pub loop-next-preserved : goal.loop-next-preserved
loop-next-preserved g c =
    λ plain.
    let took = g.W.Write.write_str_gives in
    let start = c.args.f.now in
    let now = c.loop-next.invariant plain in
    let shown = now.0 in
    let next = c.next-next-in-Some-next.result in
    let left = names_left c.loop-next.names in
    let later = names_left c.next-next-in-Some-next.new.self in
    let text = c.joint_before.result.now in
    let name = name_text c.in-Some-next.name in
    let rest = and_more (from_next next later) in
    let taken = taken_next next left later c.next-next-in-Some-next.ensures in
    let told = joint_next next left later text c.next-next-in-Some-next.ensures c.joint_before.ensures in
    let joined = has_written_append took start shown c.loop-next.f text c.write_str-in-Some-next.new.self
    now.1 (c.write_str-in-Some-next.ensures.writes now.1.plain (search rules)) in (
      (shown ++ text) ++ name,
      has_written_append took start (shown ++ text) c.write_str-in-Some-next.new.self name
          c.put_name-in-Some-next.new.f joined
          (c.put_name-in-Some-next.ensures joined.plain (search rules)),
      regroup shown text name rest _ (ap (λ xs. shown ++ xs)
          (ap (λ j. j ++ (name ++ rest)) told
          ∙ ap (λ names. joint left ++ (name ++ and_more names)) (sym taken)
          ∙ ap (λ n. and_more (from_next n left)) (sym c.in-Some-next.is))
          ∙ now.2),
    )
