use Rattle.std.proofs.Common.{refl, []}
use Rattle.sf_scan.proofs.Bares.{lacks_none}
use Rattle.sf_scan.proofs.Raws.{raw_read, whole_none}
use Rattle.sf_scan.proofs.param.params.Goals as goal

pub returns-in_default : goal.returns-in_default
returns-in_default g c =
    let d = c.args.dialect in
    record {
      raw = [];
      reads = raw_read d _ _ [] [] (whole_none d) _ _ refl (lacks_none _) c.in_default.ensures;
      made = refl;
      ends = refl;
    }
