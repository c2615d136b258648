-- The Dictionary of u and i can be written, and is read as the same.
use Rattle.std.proofs.Common.{◌≡◌, ℕ, ◌<◌, Bool, true, false, ◌++◌, refl, arith}
use Rattle.std.proofs.Common.{Option, Some, None}
use Rattle.std.proofs.lemmas.Bool.Decides.{nat_tests}
use Rattle.std.specs.Prelude.{◌^◌, ◌==◌, nat_le, if◌then◌else◌}
use Rattle.std.specs.List.{IsDistinct}
use Rattle.sf_value.specs.declared.dialect.Dialect.TheVariants.{Rfc9651}
use Rattle.sf_value.specs.declared.value.Field.{Field}
use Rattle.sf_value.specs.declared.value.Field.TheVariants as field
use Rattle.sf_value.specs.declared.value.Kind.TheVariants as kind
use Rattle.sf_value.specs.Grammar.Canonical.{canon}
use Rattle.sf_value.specs.Grammar.Valid.{ValidEntries}
use Rattle.sf_value.proofs.CanonicalTexts.{canon_spells}
use Rattle.sf_parse.proofs.GrammarLaws.{one_value}
use Rattle.sf_use.specs.declared.priority.Asked.{Asked}
use Rattle.sf_use.specs.Priority.{params_of_dict}
use Rattle.sf_c.specs.Laws.{PriorityIsRead}
use Rattle.sf_c.specs.Priorities.{params_of_flags, dict_of_params, incremental_member, urgency_at}
use Rattle.sf_c.specs.Priorities.{urgency_member}

-- u and i are keys, and the urgency is an Integer
valid_given : (n : ℕ) → nat_le n 7 ≡ true → (i : Option Bool)
    → ValidEntries Rfc9651 (urgency_member (Some n) ++ incremental_member i)
unfolding IsDistinct
valid_given n h None =
    let small : n < 10 ^ 15 = grind (arith, nat_tests) in
    ((((refl, tt), (small, (tt, tt))), tt), (tt, tt))
valid_given n h (Some b) =
    let small : n < 10 ^ 15 = grind (arith, nat_tests) in (
      (((refl, tt), (small, (tt, tt))), (((refl, tt), (tt, (tt, tt))), tt)),
      ((refl, tt), (tt, tt)),
    )

valid_none : (i : Option Bool)
    → ValidEntries Rfc9651 (urgency_member None ++ incremental_member i)
unfolding IsDistinct
valid_none None = (tt, tt)
valid_none (Some b) = ((((refl, tt), (tt, (tt, tt))), tt), (tt, tt))

-- an urgency that is said is from 0 to 7
valid_said : (says n : ℕ) (i : Option Bool)
    → ValidEntries Rfc9651 (urgency_member (urgency_at says n) ++ incremental_member i)
valid_said says n i = by (says == 0) refl
  where
    within : (b : Bool) → nat_le n 7 ≡ b
        → ValidEntries Rfc9651
        (urgency_member (if b then Some n else None) ++ incremental_member i)
    within true h = valid_given n h i
    within false h = valid_none i

    by : (b : Bool) → (says == 0) ≡ b
        → ValidEntries Rfc9651
        (urgency_member (if b then None else (if nat_le n 7 then Some n else None))
        ++ incremental_member i)
    by true h = valid_none i
    by false h = within (nat_le n 7) refl

read_given : (n : ℕ) → nat_le n 7 ≡ true → (i : Option Bool)
    → params_of_dict (dict_of_params (record { urgency = Some n; incremental = i }))
    ≡ record { urgency = Some n; incremental = i }
read_given n h None = rw h refl
read_given n h (Some b) = rw h refl

read_none : (i : Option Bool)
    → params_of_dict (dict_of_params (record { urgency = None; incremental = i }))
    ≡ record { urgency = None; incremental = i }
read_none None = refl
read_none (Some b) = refl

read_said : (says n : ℕ) (i : Option Bool)
    → params_of_dict (dict_of_params (record { urgency = urgency_at says n; incremental = i }))
    ≡ record { urgency = urgency_at says n; incremental = i }
read_said says n i = by (says == 0) refl
  where
    asks : Option ℕ → Asked
    asks u = record { urgency = u; incremental = i }

    within : (b : Bool) → nat_le n 7 ≡ b
        → params_of_dict (dict_of_params (asks (if b then Some n else None)))
        ≡ asks (if b then Some n else None)
    within true h = read_given n h i
    within false h = read_none i

    by : (b : Bool) → (says == 0) ≡ b
        → params_of_dict
        (dict_of_params (asks (if b then None else (if nat_le n 7 then Some n else None))))
        ≡ asks (if b then None else (if nat_le n 7 then Some n else None))
    by true h = read_none i
    by false h = within (nat_le n 7) refl

pub priority_is_read : PriorityIsRead
priority_is_read p =
    let a = params_of_flags p in
    let v : Field = field.Dict (dict_of_params a) in
    let spelled = canon_spells Rfc9651 kind.Dict v
    (valid_said p.has_urgency p.urgency a.incremental) in (
      record {
        spelled = spelled;
        only = λ w k. one_value Rfc9651 kind.Dict (canon v) w v k spelled;
      },
      read_said p.has_urgency p.urgency a.incremental,
    )
