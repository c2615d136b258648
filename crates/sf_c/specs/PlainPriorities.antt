-- Priority fields with the members u and i alone.
use Rattle.std.specs.Prelude.{ℕ, ◌++◌, Bool, true, false, List, Option}
use Rattle.sf_value.specs.declared.dialect.Dialect.TheVariants.{Rfc9651}
use Rattle.sf_value.specs.declared.value.Dict.{Dict as Dictionary}
use Rattle.sf_value.specs.declared.value.Field.TheVariants as field
use Rattle.sf_value.specs.declared.value.Kind.TheVariants.{Dict}
use Rattle.sf_value.specs.declared.value.Member.{Member}
use Rattle.sf_value.specs.declared.value.Member.TheVariants as member
use Rattle.sf_value.specs.Grammar.Pairs.{Pairs}
use Rattle.sf_parse.specs.Parsers.{IsOnly}
use Rattle.sf_use.specs.Priority.{bare_member}
use Rattle.sf_c.specs.declared.plain_priority.PlainPriority.{PlainPriority}
use Rattle.sf_c.specs.Priorities.{incremental_member, urgency_member}

-- a member without its parameters, if it is an Item
abbrev pub plain : Member → Member
plain (member.Item i) = bare_member i.bare
plain (member.Inner l) = member.Inner l

-- u and i in this order, or reversed
abbrev pub in_order : Bool → Option ℕ → Option Bool → Pairs Member
in_order false u i = urgency_member u ++ incremental_member i
in_order true u i = incremental_member i ++ urgency_member u

abbrev pub plain_members : PlainPriority → Pairs Member
plain_members p = in_order p.is_reversed p.urgency p.incremental

abbrev pub dict_of_plain : PlainPriority → Dictionary
dict_of_plain p = record { members = plain_members p }

abbrev pub reversed : Option ℕ → Option Bool → Dictionary
reversed u i = record { members = in_order true u i }

-- the text spells the Dictionary of these members, and no other value
abbrev pub IsPlain : List ℕ → PlainPriority → Type 0
IsPlain t p = IsOnly Rfc9651 Dict t (field.Dict (dict_of_plain p))
