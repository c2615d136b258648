use Rattle.std.proofs.Common.{◌∙◌, sym}
use Rattle.sf_c.proofs.OneHop.{one_path}
use Rattle.sf_c.proofs.laws.hops_describe_one_path.Goals as goal

pub returns : goal.returns
returns c = λ bytes hops hs js e f. one_path hs js (sym e ∙ f)
