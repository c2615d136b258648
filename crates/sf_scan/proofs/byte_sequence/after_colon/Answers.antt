use Rattle.std.proofs.Common.{sym, ◌∙◌}
use Rattle.sf_scan.proofs.BlobStops.{not_closing, not_colon}
use Rattle.sf_scan.proofs.byte_sequence.after_colon.Goals as goal

pub returns-then-not-may_close : goal.returns-then-not-may_close
returns-then-not-may_close c =
    not_closing c.args.place c.args.text.now (sym c.may_close.ensures ∙ c.if-not-may_close.true)

pub returns-in_default : goal.returns-in_default
returns-in_default c = not_colon c.args.place c.args.text.now c.in_default.ensures
