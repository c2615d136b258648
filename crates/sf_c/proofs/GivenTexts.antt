-- Bytes of which a String or a Token is refused give none, unless an allocation failed.
use Rattle.std.proofs.Common.{◌≡◌, ℕ, List}
use Rattle.std.proofs.Common.{sym, ◌∙◌, subst}
use Rattle.sf_value.specs.declared.fault.TextFault.{TextFault}
use Rattle.sf_value.specs.declared.fault.TextFault.TheVariants.{Empty, BadByte, OutOfMemory}
use Rattle.sf_value.specs.Faults.{IsStringFault, IsTokenFault}
use Rattle.sf_value.specs.Grammar.Classes.{is_visible, is_token_start, is_in_token}
use Rattle.sf_value.specs.Grammar.Tokens.{IsToken}
use Rattle.sf_value.specs.Grammar.Words.{Every}
use Rattle.sf_value.proofs.Faults.{every_place, refused_word}
use Rattle.sf_c.specs.declared.span.Span.{Span}
use Rattle.sf_c.specs.GivenHops.{AreBytes, GivesNone, GivesString, GivesToken, fault_status}

pub no_string : (bytes : List ℕ) (p : Span) (part : List ℕ) (fault : TextFault)
    → AreBytes bytes p part → IsStringFault part fault
    → GivesNone (GivesString bytes p) (fault_status fault)
no_string bytes p part Empty a e = absurd e
no_string bytes p part (BadByte place) a e =
    λ text g.
    let same : text ≡ part = g.0.1 ∙ sym a.1 in
    let none = every_place is_visible part (subst (Every is_visible) same g.1) in
    absurd cc
no_string bytes p part OutOfMemory a e = (part, (a, e))

pub no_token : (bytes : List ℕ) (p : Span) (part : List ℕ) (fault : TextFault)
    → AreBytes bytes p part → IsTokenFault part fault
    → GivesNone (GivesToken bytes p) (fault_status fault)
no_token bytes p part OutOfMemory a e = (part, (a, e))
no_token bytes p part fault a e =
    λ token g.
    let same : token ≡ part = g.0.1 ∙ sym a.1 in
    let only = refused_word is_token_start is_in_token part fault (subst IsToken same g.1) e in
    absurd cc
