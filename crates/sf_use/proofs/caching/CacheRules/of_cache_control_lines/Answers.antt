use Rattle.std.proofs.Common.{Option, None, Some, sym, subst, rules, arith}
use Rattle.std.specs.Prelude.{MatchOption}
use Rattle.std.proofs.lemmas.Grind.{common_steps}
use Rattle.sf_use.specs.declared.caching.CacheRules.{CacheRules}
use Rattle.sf_use.specs.CacheControl.{AreNoCacheControl, HaveCacheRules}
use Rattle.sf_use.proofs.CacheControlLines.{bad_line, good_line, no_lines_left, read_lines}
use Rattle.sf_use.proofs.caching.CacheRules.of_cache_control_lines.Goals as goal

pub returns-in_err-rules : goal.returns-in_err-rules
returns-in_err-rules g c =
    let none = c.loop-line.invariant None
    (bad_line c.loop-line.rules c.in-Some.line.now
    (g.L.FieldLines.lines c.next_line.new.self) (g.L.FieldLines.lines c.loop-line.lines)
    c.in-Some.ensures c.in_err-rules.ensures) in
    let P : Option CacheRules → Type 0 = λ o.
    MatchOption o (AreNoCacheControl (g.L.FieldLines.lines c.args.lines))
    (HaveCacheRules (g.L.FieldLines.lines c.args.lines)) in
    subst P (sym c.from_residual.ensures) none

pub loop-line-preserved : goal.loop-line-preserved
loop-line-preserved g c = λ o more.
    c.loop-line.invariant o
    (good_line c.loop-line.rules c.in_ok-rules.rules c.in-Some.line.now
    (g.L.FieldLines.lines c.next_line.new.self) (g.L.FieldLines.lines c.loop-line.lines) o
    c.in-Some.ensures c.in_ok-rules.ensures more)

pub returns : goal.returns
returns g c =
    read_lines c.loop-line.rules (g.L.FieldLines.lines c.args.lines)
    (c.loop-line.invariant (Some c.loop-line.rules)
    (no_lines_left c.loop-line.rules (g.L.FieldLines.lines c.loop-line.lines)
    (first_of (search rules, grind (arith, common_steps)))))
