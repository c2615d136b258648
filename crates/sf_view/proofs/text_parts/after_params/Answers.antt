use Rattle.std.proofs.Common.{[]}
use Rattle.sf_scan.specs.Places.{in_params}
use Rattle.sf_scan.proofs.Grammar.{settles_params}
use Rattle.sf_view.proofs.ReadParts.{settled_reads}
use Rattle.sf_view.proofs.text_parts.after_params.Goals as goal

pub returns-in-Ok : goal.returns-in-Ok
returns-in-Ok c =
    let d = c.args.dialect in
    settled_reads [] _ _ _ (settles_params d) (in_params d c.in-Ok.stop.place) _ _ _
    c.in-Ok.ensures.reads
