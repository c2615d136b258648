use Rattle.std.proofs.Common.{sym}
use Rattle.sf_scan.specs.Characters.{utf8_of}
use Rattle.sf_scan.proofs.Characters.{step_on}
use Rattle.sf_parse.proofs.Leading.{leads_push}
use Rattle.sf_parse.proofs.display_string.ShownPlace.push.Goals as goal

pub returns-clause-fits : goal.returns-clause-fits
returns-clause-fits c =
    rw c.in_ok-push.ensures.bytes (
      leads_push c.args.bytes.now c.args.byte (utf8_of c.args.self.now.chars)
          (utf8_of c.in-Some.chars) c.requires.0
          (step_on c.args.self.now.chars c.in-Some.chars c.args.byte (sym c.in-Some.ensures)),
      tt,
    )
