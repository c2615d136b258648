use Rattle.sf_parse.proofs.GrammarLaws.{one_value}
use Rattle.sf_parse.proofs.refusing.refuse_text.Goals as goal

pub returns-in_err-refused : goal.returns-in_err-refused
returns-in_err-refused c =
    let h = c.in_err-refused.ensures in
    rw (c.from_residual.ensures) (
      h.0,
      record {
        spelled = h.1;
        only = λ w k. one_value c.args.dialect c.args.kind c.args.text.now w h.0 k h.1;
      },
    )
