use Rattle.std.proofs.Common.{◌≡◌, subst}
use Rattle.std.specs.Str.{IsUtf8}
use Rattle.sf_value.proofs.Utf8Table.{to_utf8}
use Rattle.sf_view.proofs.copies.shown.Goals as goal

pub returns-in_default : goal.returns-in_default
returns-in_default c = λ d t has formed.
    let whole = c.in_ok-bytes.ensures d t has in
    let same = c.as_bytes.ensures.bytes in
    let e : t ≡ c.as_bytes.result.now = cc in
    c.in_default.ensures.cases.0 (subst IsUtf8 e (to_utf8 t formed))
