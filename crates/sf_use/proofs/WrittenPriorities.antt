-- The Dictionary that asks for a priority can be written, and is read as the same.
use Rattle.std.proofs.Common.{ℕ, pos, ◌<◌, ◌==◌, Bool, true, false, ◌∷◌, [], ◌++◌, refl, arith}
use Rattle.std.specs.Prelude.{◌^◌, if◌then◌else◌, codes}
use Rattle.std.specs.List.{IsDistinct}
use Rattle.sf_value.specs.declared.dialect.Dialect.TheVariants.{Rfc9651}
use Rattle.sf_value.specs.declared.value.Bare.TheVariants.{Integer}
use Rattle.sf_value.specs.declared.value.Field.{Field}
use Rattle.sf_value.specs.declared.value.Field.TheVariants as field
use Rattle.sf_value.specs.declared.value.Kind.TheVariants as kind
use Rattle.sf_value.specs.Grammar.Canonical.{canon}
use Rattle.sf_value.specs.Grammar.Valid.{ValidEntries}
use Rattle.sf_value.proofs.CanonicalTexts.{canon_spells}
use Rattle.sf_parse.proofs.GrammarLaws.{one_value}
use Rattle.sf_use.specs.Ranges.{IsUrgency, usual_urgency}
use Rattle.sf_use.specs.Priority.{incremental_written, bare_member, prio}
use Rattle.sf_use.specs.PriorityLaws.{ReadFromText}

-- u and i are keys, and the urgency is an Integer
valid_members : (n : ℕ) → IsUrgency n → (usual i : Bool)
    → ValidEntries Rfc9651
    ((if usual then [] else (codes "u", bare_member (Integer (pos n))) ∷ [])
    ++ incremental_written i)
unfolding IsDistinct
valid_members n h true true = ((((refl, tt), (tt, (tt, tt))), tt), (tt, tt))
valid_members n h true false = (tt, tt)
valid_members n h false true =
    let small : n < 10 ^ 15 = omega (arith, h) in (
      (((refl, tt), (small, (tt, tt))), (((refl, tt), (tt, (tt, tt))), tt)),
      ((refl, tt), (tt, tt)),
    )
valid_members n h false false =
    let small : n < 10 ^ 15 = omega (arith, h) in ((((refl, tt), (small, (tt, tt))), tt), (tt, tt))

-- its text spells it, and nothing else
pub read_from_text : ReadFromText
read_from_text p h =
    let v : Field = field.Dict (prio p) in
    let spelled = canon_spells Rfc9651 kind.Dict v
    (valid_members p.urgency h (p.urgency == usual_urgency) p.incremental) in (
      v,
      record {
        spelled = spelled;
        only = λ w k. one_value Rfc9651 kind.Dict (canon v) w v k spelled;
      },
      refl,
    )
