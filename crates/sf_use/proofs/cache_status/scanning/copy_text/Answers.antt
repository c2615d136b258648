use Rattle.std.proofs.Common.{refl}
use Rattle.sf_value.specs.declared.value.Bare.TheVariants as bare_is
use Rattle.sf_use.proofs.CacheStatusLemmas.Scanned.{copied_text}
use Rattle.sf_use.proofs.cache_status.scanning.copy_text.Goals as goal

pub returns : goal.returns
returns c = λ d t h.
    copied_text _ t c.to_bare.result c.in_ok-ok.field-0 c.in_ok-branch.field-0 c.into_text.result
    (c.to_bare.ensures d (bare_is.Text t) (t, refl, h)) c.in_ok-ok.ensures.value
    c.in_ok-branch.was c.into_text.ensures
