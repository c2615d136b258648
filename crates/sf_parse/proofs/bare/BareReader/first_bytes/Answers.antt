use Rattle.std.proofs.Common.{is_some}
use Rattle.sf_scan.specs.Places.{is_bare_start}
use Rattle.sf_parse.specs.Machine.Bares.{bare_start}
use Rattle.sf_parse.proofs.Marks.{marks_below, each_same}
use Rattle.sf_parse.proofs.BarePlaces.{starts}
use Rattle.sf_parse.proofs.bare.BareReader.first_bytes.Goals as goal

pub returns : goal.returns
returns c =
    let d = c.args.dialect in
    marks_below _ (is_bare_start d) (λ b. is_some (bare_start d b)) (each_same _ _ (starts d))
    c.expected.ensures
