use Rattle.std.proofs.Common.{refl, ap, ◌∷◌, []}
use Rattle.sf_value.specs.Ascii.{percent}
use Rattle.sf_value.specs.Grammar.Dialects.{is_rfc9651}
use Rattle.sf_value.specs.Grammar.BareItems.{SpellsBare}
use Rattle.sf_scan.proofs.Bares.{bare_refused, past_scans, no_percent}
use Rattle.sf_scan.proofs.bare.percent.Goals as goal

pub returns-in-Rfc8941 : goal.returns-in-Rfc8941
returns-in-Rfc8941 c =
    bare_refused c.args.dialect _
    (no_percent c.args.dialect _ _ c.requires (ap is_rfc9651 c.in-Rfc8941.is)) refl

pub returns-in-Rfc9651 : goal.returns-in-Rfc9651
returns-in-Rfc9651 c =
    let d = c.args.dialect in
    past_scans d (SpellsBare d) (percent ∷ []) _ _ _ c.requires
    (c.display_string.ensures d (ap is_rfc9651 c.in-Rfc9651.is))
