use Rattle.sf_value.specs.Grammar.Classes.{is_key_start, is_in_key}
use Rattle.sf_value.proofs.Faults.{refused_word}
use Rattle.sf_view.proofs.copies.key_of.Goals as goal

pub returns-in-Err-Empty : goal.returns-in-Err-Empty
returns-in-Err-Empty c = λ key.
    let h = c.in-Err-Empty in
    let out = refused_word is_key_start is_in_key c.args.bytes.now h.field-0 key h.ensures.exact in
    let is = h.is in
    absurd cc

pub returns-in-Err-BadByte : goal.returns-in-Err-BadByte
returns-in-Err-BadByte c = λ key.
    let h = c.in-Err-BadByte in
    let out = refused_word is_key_start is_in_key c.args.bytes.now h.field-0 key h.ensures.exact in
    let is = h.is in
    absurd cc
