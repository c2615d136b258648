use Rattle.std.proofs.Common.{subst}
use Rattle.sf_c.specs.ScannedHops.{IsReadBy}
use Rattle.sf_c.proofs.ScannedPaths.{counted_more}
use Rattle.sf_c.proofs.hop_scan.ScannedPath.with.Goals as goal

pub returns-in-Some-clause-read : goal.returns-in-Some-clause-read
returns-in-Some-clause-read c = λ d t u e s r.
    c.in-Some.ensures.put d t u e
    (subst (λ b. IsReadBy b d t u c.args.hops.now c.args.bytes.now c.args.self.sizes)
    c.if-self.true s) r

pub returns-clause-read : goal.returns-clause-read
returns-clause-read c =
    counted_more c.count_next.result c.args.hop c.args.self c.args.hops.now _ c.args.bytes.now _
    c.count_next.ensures
