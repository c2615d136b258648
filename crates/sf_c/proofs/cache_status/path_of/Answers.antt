use Rattle.std.proofs.Common.{subst}
use Rattle.sf_c.specs.ScannedHops.{HasPathSizes, IsPathBy, IsPathOf}
use Rattle.sf_c.proofs.ScannedPaths.{counted_few, counted_short, put_answered, read_few}
use Rattle.sf_c.proofs.cache_status.path_of.Goals.{After-set, After-set-then-exceeds}
use Rattle.sf_c.proofs.cache_status.path_of.Goals as goal

put : (c : After-set)
    → IsPathOf c.args.dialect c.args.text.now c.scan_hops.new.hops c.scan_hops.new.bytes
    c.in-Some.found.sizes
put c =
    subst
    (λ b. IsPathBy b c.args.dialect c.args.text.now c.scan_hops.new.hops c.scan_hops.new.bytes
    c.in-Some.found.sizes)
    c.if-found.true c.in-Some.ensures.read

counted : (c : After-set-then-exceeds)
    → HasPathSizes c.args.dialect c.args.text.now c.in-Some.found.sizes
counted c =
    subst
    (λ b. IsPathBy b c.args.dialect c.args.text.now c.scan_hops.new.hops c.scan_hops.new.bytes
    c.in-Some.found.sizes)
    c.if-found.false c.in-Some.ensures.read

pub returns-then-found-clause-reports : goal.returns-then-found-clause-reports
returns-then-found-clause-reports c =
    put_answered c.args.dialect c.args.text.now c.in-Some.found.sizes c.args.hops.now
    c.scan_hops.new.hops c.args.bytes.now c.scan_hops.new.bytes c.args.path.now c.set.new.self
    c.args.refusal.now c.in-Some.ensures.same_hops c.in-Some.ensures.same_bytes (put c)
    c.set.ensures

pub returns-then-found-clause-few : goal.returns-then-found-clause-few
returns-then-found-clause-few c =
    read_few c.args.dialect c.args.text.now c.scan_hops.new.hops c.scan_hops.new.bytes
    c.in-Some.found.sizes c.set.new.self c.args.path.now.nameless c.hops_are_few.ensures.hops
    c.hops_are_few.ensures.bytes (put c) c.set.ensures

pub returns-then-exceeds-clause-reports : goal.returns-then-exceeds-clause-reports
returns-then-exceeds-clause-reports c =
    counted_short c.args.dialect c.args.text.now c.in-Some.found.sizes c.args.hops.now
    c.scan_hops.new.hops c.args.bytes.now c.scan_hops.new.bytes c.args.path.now
    c.set-then-exceeds.new.self c.args.refusal.now c.in-Some.ensures.same_hops
    c.in-Some.ensures.same_bytes (counted c) c.set-then-exceeds.ensures
    (c.exceeds.ensures c.if-exceeds.true)

pub returns-then-exceeds-clause-few : goal.returns-then-exceeds-clause-few
returns-then-exceeds-clause-few c =
    counted_few c.args.dialect c.args.text.now c.in-Some.found.sizes c.set-then-exceeds.new.self
    c.args.path.now.nameless c.hops_are_few.ensures.hops c.hops_are_few.ensures.bytes (counted c)
    c.set-then-exceeds.ensures
