-- Texts that spell a field are ASCII.
use Rattle.std.proofs.Common.{◌≡◌, ℕ, zero, suc, ◌<◌, true, List, [], ◌∷◌, arith}
use Rattle.std.specs.Str.{IsAscii, IsUtf8}
use Rattle.std.proofs.lemmas.Str.{IsUtf8-from_ascii}
use Rattle.sf_value.specs.declared.dialect.Dialect.{Dialect}
use Rattle.sf_value.specs.declared.value.Field.{Field}
use Rattle.sf_value.specs.declared.value.Kind.{Kind}
use Rattle.sf_value.specs.Grammar.Words.{Every}
use Rattle.sf_value.specs.Grammar.Fields.{SpellsField}
use Rattle.sf_value.proofs.TextBytes.{is_text, spelled_text}

ascii_byte : (b : ℕ) → is_text b ≡ true → b < 128
ascii_byte b e = grind arith

ascii : (t : List ℕ) → Every is_text t → IsAscii t
ascii [] h i = omega arith
ascii (b ∷ t) h zero = ascii_byte b h.0
ascii (b ∷ t) h (suc i) = ascii t h.1 i

pub spelled_utf8 : (d : Dialect) (kind : Kind) (v : Field) (t : List ℕ) → SpellsField d kind t v
    → IsUtf8 t
spelled_utf8 d kind v t h = IsUtf8-from_ascii t (ascii t (spelled_text d kind v t h))
