use Rattle.std.proofs.Common.{[], ◌∷◌}
use Rattle.sf_scan.specs.InnerLists.{in_inner}
use Rattle.sf_scan.proofs.Grammar.{settles_inner}
use Rattle.sf_view.proofs.ReadParts.{settled_reads}
use Rattle.sf_view.proofs.text_parts.after_inner.Goals as goal

pub returns-in-Ok : goal.returns-in-Ok
returns-in-Ok c =
    let d = c.args.dialect in
    settled_reads (40 ∷ []) _ _ _ (settles_inner d) (in_inner d c.in-Ok.stop.place) _ _ _
    c.in-Ok.ensures.reads
