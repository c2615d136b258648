-- Parts of canonical texts, as they are written from nodes.
use Rattle.std.specs.Prelude.{◌≡◌, ℕ, ◌/◌, ◌%◌, Bool, true, false, if◌then◌else◌, List as Seq, [], ◌∷◌, ◌++◌}
use Rattle.sf_value.specs.declared.dialect.Dialect.{Dialect}
use Rattle.sf_value.specs.declared.value.Bare.{Bare}
use Rattle.sf_value.specs.declared.value.Field.{Field}
use Rattle.sf_value.specs.declared.value.Kind.{Kind}
use Rattle.sf_value.specs.Ascii.{percent, semicolon}
use Rattle.sf_value.specs.Grammar.DisplayStrings.{hex, is_unencoded, EncodedBytes}
use Rattle.sf_value.specs.Grammar.Canonical.{canon, canon_shown, canon_value}
use Rattle.sf_parse.specs.Parsers.{IsOnly}
use Rattle.sf_view.specs.declared.view.BareView.{BareView}
use Rattle.sf_view.specs.declared.view.BareView.TheVariants as view_is

-- a byte of a Display String: itself, or % and its two digits (RFC 9651, 4.1.11)
abbrev pub encoding : ℕ → Seq ℕ
encoding b =
    if is_unencoded b then b ∷ [] else percent ∷ hex (b / 16) ∷ hex (b % 16) ∷ []

-- of the bytes t of a Display String, prefix is the canonical text of the first, and the others are
-- spelled by rest
pub record CanonicalRun (prefix rest t : Seq ℕ) : Type 0 where
  pub left : Seq ℕ
  pub remains : EncodedBytes rest left
  pub canonical : canon_shown t ≡ prefix ++ canon_shown left

-- the text begins with a prefix, such as a needed escape, that is canonical in every Display String
-- whose bytes the text spells
pub record IsNeededEscape (text rest : Seq ℕ) : Type 0 where
  pub prefix : Seq ℕ
  pub split : text ≡ prefix ++ rest
  pub run : (t : Seq ℕ) → EncodedBytes text t → CanonicalRun prefix rest t

-- a parameter (4.1.1.2)
abbrev pub canon_param : Seq ℕ × Bare → Seq ℕ
canon_param p = semicolon ∷ (p.0 ++ canon_value p.1)

-- whether a borrowed bare item is Boolean true
abbrev pub is_flag : BareView → Bool
is_flag (view_is.Boolean true) = true
is_flag x = false

-- c is the canonical text of the only value that the text t spells
pub record IsCanonicalOf (d : Dialect) (kind : Kind) (t c : Seq ℕ) : Type 0 where
  pub value : Field
  pub only : IsOnly d kind t value
  pub canonical : c ≡ canon value
