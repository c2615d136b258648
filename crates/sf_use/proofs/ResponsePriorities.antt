-- The priority of a response is read as it was written, and merged as it was meant.
use Rattle.std.proofs.Common.{◌≡◌, ℕ, pos, ◌<◌, Bool, true, false, ◌∷◌, [], ◌++◌, refl, ap, ◌∙◌}
use Rattle.std.proofs.Common.{Option, Some, None, Ok, subst, arith}
use Rattle.std.specs.Prelude.{◌^◌, unwrap_or, codes}
use Rattle.std.specs.List.{IsDistinct}
use Rattle.std.specs.Option.{ForSome, option_or}
use Rattle.std.proofs.lemmas.Bool.Decides.{nat_tests}
use Rattle.sf_value.specs.declared.dialect.Dialect.{Dialect}
use Rattle.sf_value.specs.declared.value.Bare.TheVariants.{Integer}
use Rattle.sf_value.specs.declared.value.Field.{Field}
use Rattle.sf_value.specs.declared.value.Field.TheVariants as field
use Rattle.sf_value.specs.declared.value.Kind.TheVariants as kind
use Rattle.sf_value.specs.Grammar.Canonical.{canon}
use Rattle.sf_value.specs.Grammar.Valid.{ValidEntries}
use Rattle.sf_value.proofs.CanonicalTexts.{canon_spells}
use Rattle.sf_parse.proofs.GrammarLaws.{one_value}
use Rattle.sf_use.specs.Ranges.{IsUrgency, usual_urgency}
use Rattle.sf_use.specs.Priority.{merge_params, params_of_dict, priority_with_defaults}
use Rattle.sf_use.specs.Priority.{urgency_in}
use Rattle.sf_use.specs.ResponsePriority.{FixedIsKept, ResponseIsMeant, ResponseReadAsWritten}
use Rattle.sf_use.specs.ResponsePriority.{ResponseReadFromText, fixed, for_request}
use Rattle.sf_use.specs.ResponsePriority.{asked_of, incremental_set, response_dict, response_to}
use Rattle.sf_use.specs.ResponsePriority.{set_by, urgency_set}
use Rattle.sf_use.specs.declared.priority.Asked.{Asked}
use Rattle.sf_use.specs.declared.response_priority.ResponsePriority.{ResponsePriority}

urgency_back : (n : ℕ) → IsUrgency n → urgency_in (Integer (pos n)) ≡ Some n
urgency_back n h = grind (arith, nat_tests)

-- what is read of the members that are written
read_back : (u : Option ℕ) (i : Option Bool) → ForSome u IsUrgency
    → params_of_dict (record { members = urgency_set u ++ incremental_set i })
    ≡ record { urgency = u; incremental = i }
read_back None None h = refl
read_back None (Some b) h = refl
read_back (Some n) None h =
    ap (λ u. record { urgency = u; incremental = None }) (urgency_back n (h n refl))
read_back (Some n) (Some b) h =
    ap (λ u. record { urgency = u; incremental = Some b }) (urgency_back n (h n refl))

pub read_as_written : ResponseReadAsWritten
read_as_written r h = ap set_by (read_back r.urgency r.incremental h)

-- a parameter that is merged and filled in
picked : {A : Type 0} (server client : Option A) (default : A)
    → unwrap_or (option_or server client) default ≡ for_request server client default
picked (Some s) c d = refl
picked None (Some c) d = refl
picked None None d = refl

-- what is set, merged with what a request asks for
pub merged : (request : Asked) (r : ResponsePriority)
    → priority_with_defaults (merge_params request (asked_of r)) ≡ response_to request r
merged request r =
    ap
    (λ u. record {
      urgency = u;
      incremental = unwrap_or (option_or r.incremental request.incremental) false;
    })
    (picked r.urgency request.urgency usual_urgency)
    ∙ ap
    (λ i. record {
      urgency = for_request r.urgency request.urgency usual_urgency;
      incremental = i;
    })
    (picked r.incremental request.incremental false)

pub is_meant : ResponseIsMeant
is_meant r request h =
    ap (λ a. priority_with_defaults (merge_params request a))
    (read_back r.urgency r.incremental h)
    ∙ merged request r

-- an urgency that is there
there : (n : ℕ) → IsUrgency n → ForSome (Some n) IsUrgency
there n h = λ k e. (let same : n ≡ k = cc in subst IsUrgency same h)

pub fixed_is_kept : FixedIsKept
fixed_is_kept p request h = is_meant (fixed p) request (there p.urgency h)

-- u and i are keys, and the urgency is an Integer
valid_members : (d : Dialect) (u : Option ℕ) (i : Option Bool) → ForSome u IsUrgency
    → ValidEntries d (urgency_set u ++ incremental_set i)
unfolding IsDistinct
valid_members d None None h = (tt, tt)
valid_members d None (Some b) h = ((((refl, tt), (tt, (tt, tt))), tt), (tt, tt))
valid_members d (Some n) None h =
    let l = h n refl in
    let small : n < 10 ^ 15 = omega (arith, l) in ((((refl, tt), (small, (tt, tt))), tt), (tt, tt))
valid_members d (Some n) (Some b) h =
    let l = h n refl in
    let small : n < 10 ^ 15 = omega (arith, l) in (
      (((refl, tt), (small, (tt, tt))), (((refl, tt), (tt, (tt, tt))), tt)),
      ((refl, tt), (tt, tt)),
    )

-- its text spells it, and nothing else
pub read_from_text : ResponseReadFromText
read_from_text d r h =
    let v : Field = field.Dict (response_dict r) in
    let spelled = canon_spells d kind.Dict v (valid_members d r.urgency r.incremental h) in (
      v,
      record {
        spelled = spelled;
        only = λ w k. one_value d kind.Dict (canon v) w v k spelled;
      },
      ap Ok (read_as_written r h),
    )
