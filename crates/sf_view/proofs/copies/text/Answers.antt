use Rattle.std.proofs.Common.{◌≡◌, subst}
use Rattle.sf_value.specs.Grammar.Classes.{is_visible}
use Rattle.sf_value.specs.Grammar.Words.{Every}
use Rattle.sf_value.proofs.Faults.{refused_text}
use Rattle.sf_view.proofs.copies.text.Goals as goal

pub returns-in-Err-Empty : goal.returns-in-Err-Empty
returns-in-Err-Empty c = λ d t has visible.
    let h = c.in-Err-Empty in
    let whole = c.in_ok-bytes.ensures d t has in
    let same = c.as_bytes.ensures.bytes in
    let e : t ≡ c.as_bytes.result.now = cc in
    let out =
    refused_text c.as_bytes.result.now h.field-0 (subst (Every is_visible) e visible)
    h.ensures.exact in
    let is = h.is in
    absurd cc

pub returns-in-Err-BadByte : goal.returns-in-Err-BadByte
returns-in-Err-BadByte c = λ d t has visible.
    let h = c.in-Err-BadByte in
    let whole = c.in_ok-bytes.ensures d t has in
    let same = c.as_bytes.ensures.bytes in
    let e : t ≡ c.as_bytes.result.now = cc in
    let out =
    refused_text c.as_bytes.result.now h.field-0 (subst (Every is_visible) e visible)
    h.ensures.exact in
    let is = h.is in
    absurd cc
