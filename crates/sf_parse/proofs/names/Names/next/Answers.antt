use Rattle.std.proofs.Common.{◌≡◌, ◌-◌, ◌∙◌, arith, refl}
use Rattle.sf_parse.proofs.Fitting.{fitting-none}
use Rattle.sf_parse.proofs.names.Names.next.Goals as goal

pub returns-then-self : goal.returns-then-self
returns-then-self c =
    let left = c.next_low_byte.new.self in
    let last = c.in_default-next_low_byte.ensures in
    let past = last.none in
    let over : 137 - left.place ≡ 0 = omega arith in
    c.in_default.ensures.names ∙ c.in_default-next_byte.ensures.names ∙ last.names
    ∙ rw (over, fitting-none left.set left.place, c.if-self.true) refl

pub returns : goal.returns
returns c =
    let left = c.next_low_byte.new.self in
    let last = c.in_default-next_low_byte.ensures in
    let past = last.none in
    let over : 137 - left.place ≡ 0 = omega arith in
    c.in_default.ensures.names ∙ c.in_default-next_byte.ensures.names ∙ last.names
    ∙ rw (over, fitting-none left.set left.place, c.if-self.false) refl
