use Rattle.std.proofs.Common.{is_some}
use Rattle.sf_scan.specs.Places.{in_bare}
use Rattle.sf_parse.specs.Machine.Bares.{bare_step}
use Rattle.sf_parse.proofs.Marks.{marks_below}
use Rattle.sf_parse.proofs.bare.BareReaderLevel.expected.Goals as goal

pub returns : goal.returns
returns c =
    let d = c.args.dialect in
    marks_below _ (in_bare d c.place.result) (λ b. is_some (bare_step c.args.self.now b))
    (c.place.ensures.bytes d) c.expected.ensures
