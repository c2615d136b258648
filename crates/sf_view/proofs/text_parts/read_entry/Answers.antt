use Rattle.sf_view.proofs.ReadParts.{entry_value, entry_flag}
use Rattle.sf_view.proofs.text_parts.read_entry.Goals as goal

pub returns-in-Some : goal.returns-in-Some
returns-in-Some c =
    entry_value _ _ _ _ _ _ _ c.in_ok-key.ensures.0 c.in_ok-key.ensures.1 c.in-Some.ensures
    c.in_ok-bare.ensures

pub returns : goal.returns
returns c =
    entry_flag _ _ _ _ _ c.in_ok-key.ensures.0 c.in_ok-key.ensures.1
    c.in_ok-after_params.ensures
