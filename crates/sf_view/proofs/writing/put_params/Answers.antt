use Rattle.std.proofs.Common.{◌≡◌, length, arith, rules}
use Rattle.sf_view.proofs.Writes.{no_params}
use Rattle.sf_view.proofs.writing.put_params.Goals as goal

pub returns-then-is_empty : goal.returns-then-is_empty
returns-then-is_empty g c = λ d r ps t.
    let a = c.is_empty.ensures in
    let b = c.if-is_empty.true in
    let none : length c.args.view.nodes.now ≡ 0 = first_of (search rules, grind arith) in
    no_params d c.args.view.text.now r c.args.view.nodes.now ps t none
