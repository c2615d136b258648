-- The meanings of fields to a cache or a server, in the lines that the command `sf` prints.
use Rattle.std.specs.Prelude.{◌≡◌, ℕ, suc, Bool, true, false, ◌&&◌, List as Seq, [], ◌∷◌, ◌++◌}
use Rattle.std.specs.Prelude.{Result, Ok, Err, Option, Some, None, is_some, is_none, codes, decimal}
use Rattle.std.specs.Prelude.{if◌then◌else◌, not, ⊤}
use Rattle.std.specs.Str.{bytes_eq}
use Rattle.std.specs.declared.vec.Vec.{Vec}
use Rattle.std.specs.declared.alloc.Global.{Global}
use Rattle.sf_value.specs.declared.value.Bare.{Bare}
use Rattle.sf_value.specs.declared.value.Field.{Field}
use Rattle.sf_value.specs.declared.value.Field.TheVariants.{Item, List, Dict}
use Rattle.sf_value.specs.declared.value.Member.{Member}
use Rattle.sf_value.specs.declared.value.Member.TheVariants as member
use Rattle.sf_value.specs.Grammar.Pairs.{Pairs, value_at}
use Rattle.sf_field.specs.declared.consumer.UseFault.{UseFault}
use Rattle.sf_field.specs.declared.consumer.UseFault.TheVariants.{NotACache, OutOfMemory}
use Rattle.sf_use.specs.declared.cache_status.hop.Hop.{Hop}
use Rattle.sf_use.specs.CacheStatus.Hops.{hops, status_of}
use Rattle.sf_use.specs.CacheStatus.Parameters.{boolean_at, integer_at, name_at, text_at, token_at}
use Rattle.sf_use.specs.declared.priority.Asked.{Asked}
use Rattle.sf_use.specs.declared.targeted.Policy.{Policy}
use Rattle.sf_use.specs.Priority.{params_of_dict, priority_with_defaults}
use Rattle.sf_use.specs.Ranges.{is_valid_status}
use Rattle.sf_use.specs.Targeted.{policy}
use Rattle.sf_tool.specs.ChoiceLines.{policy_lines}
use Rattle.sf_tool.specs.PathLines.{path_lines}
use Rattle.sf_tool.specs.PriorityLine.{priority_line}
use Rattle.sf_lint.specs.declared.colours.Verdict.TheVariants.{Ignored, Invalid}
use Rattle.sf_lint.specs.declared.ignored.ParamType.{ParamType}
use Rattle.sf_lint.specs.declared.ignored.ParamType.TheVariants as type
use Rattle.sf_lint.specs.declared.settings.Settings.{Settings}
use Rattle.sf_lint.specs.Colours.{verdict_text}
use Rattle.sf_lint.specs.Settings.{is_targeted}

-- a member or a parameter is present but ignored: it has another type than its specification
-- states, or is out of range
abbrev pub is_ignored : {X Y : Type 0} → Option X → Option Y → Bool
is_ignored value said = is_some value && is_none said

-- the line for a member or a parameter that is ignored
abbrev pub ignored_line : Settings → Seq ℕ → Bool → Seq ℕ
ignored_line s key true = verdict_text s Ignored ++ (codes " " ++ (key ++ codes "\n"))
ignored_line s key false = []

-- a parameter of a member of Cache-Status: the number of the member, from 0, and the key
abbrev pub hop_key : ℕ → Seq ℕ → Seq ℕ
hop_key n key = codes "hop " ++ (decimal n ++ (codes " " ++ key))

-- the line for the parameter at this key of the n-th member, if it is present but ignored
abbrev pub ignored_at : {X : Type 0} → Settings → ℕ → Pairs Bare → (Seq ℕ → Pairs Bare → Option X)
    → Seq ℕ → Seq ℕ
ignored_at s n params meant key =
    ignored_line s (hop_key n key) (is_ignored (value_at key params) (meant key params))

-- a status code, if the parameter is an Integer that is one
abbrev pub status_at : Seq ℕ → Pairs Bare → Option ℕ
status_at key params = status_of (integer_at key params)

-- no parameter of this type has the key
abbrev pub is_unread : ParamType → Seq ℕ → Pairs Bare → Bool
is_unread type.Boolean key params = is_none (boolean_at key params)
is_unread type.Integer key params = is_none (integer_at key params)
is_unread type.Status key params = is_none (status_at key params)
is_unread type.Token key params = is_none (token_at key params)
is_unread type.Text key params = is_none (text_at key params)
is_unread type.Name key params = is_none (name_at key params)

-- the parameter is present, but is not of this type
abbrev pub is_other : ParamType → Seq ℕ → Pairs Bare → Bool
is_other expected key params = is_some (value_at key params) && is_unread expected key params

-- the lines for the ignored parameters of the n-th member, among the eight that RFC 9211 defines
-- (sections 2.1 to 2.8)
abbrev pub ignored_params : Settings → ℕ → Pairs Bare → Seq ℕ
ignored_params s n params =
    ignored_at s n params boolean_at (codes "hit")
    ++ (ignored_at s n params token_at (codes "fwd")
    ++ (ignored_at s n params status_at (codes "fwd-status")
    ++ (ignored_at s n params integer_at (codes "ttl")
    ++ (ignored_at s n params boolean_at (codes "stored")
    ++ (ignored_at s n params boolean_at (codes "collapsed")
    ++ (ignored_at s n params text_at (codes "key")
    ++ ignored_at s n params name_at (codes "detail")))))))

-- the line for parameters that are not ignored, but invalid
abbrev pub invalid_line : Settings → Seq ℕ → Bool → Seq ℕ
invalid_line s what true = verdict_text s Invalid ++ (codes " " ++ (what ++ codes "\n"))
invalid_line s what false = []

-- hit and fwd are both read: "only one of them should appear on each list member" (2.1)
abbrev pub has_both : Pairs Bare → Bool
has_both params =
    is_some (boolean_at (codes "hit") params) && is_some (token_at (codes "fwd") params)

-- a status code that is invalid: "Values outside the range 100..599 are invalid" (RFC 9110 section
-- 15). One without three digits is ignored
abbrev pub is_invalid_status : Option ℕ → Bool
is_invalid_status (Some n) = not (is_valid_status n)
is_invalid_status None = false

abbrev pub has_invalid_status : Pairs Bare → Bool
has_invalid_status params = is_invalid_status (status_at (codes "fwd-status") params)

-- the lines for the invalid parameters of the n-th member
abbrev pub invalid_params : Settings → ℕ → Pairs Bare → Seq ℕ
invalid_params s n params =
    invalid_line s (hop_key n (codes "hit fwd")) (has_both params)
    ++ invalid_line s (hop_key n (codes "fwd-status")) (has_invalid_status params)

-- the lines for the ignored and the invalid parameters of the n-th member; an Inner List names no
-- cache
abbrev pub ignored_member : Settings → ℕ → Member → Seq ℕ
ignored_member s n (member.Item i) = ignored_params s n i.params ++ invalid_params s n i.params
ignored_member s n (member.Inner l) = []

-- the lines for the ignored and the invalid parameters of members, whose first is the n-th
abbrev pub ignored_members : Settings → ℕ → Seq Member → Seq ℕ
ignored_members s n [] = []
ignored_members s n (m ∷ ms) = ignored_member s n m ++ ignored_members s (suc n) ms

-- the lines of what is ignored, and then those of a path; or the index of the first member that
-- names no cache
abbrev pub path_text : Seq ℕ → Result (Seq Hop) ℕ → Result (Seq ℕ) ℕ
path_text ignored (Ok path) = Ok (ignored ++ path_lines path)
path_text ignored (Err index) = Err index

-- the lines for the members of a Priority field that are ignored (RFC 9218 section 4), and for its
-- parameters with the defaults filled in
abbrev pub priority_lines : Settings → Pairs Member → Asked → Seq ℕ
priority_lines s members a =
    (ignored_line s (codes "u") (is_ignored (value_at (codes "u") members) a.urgency)
    ++ ignored_line s (codes "i") (is_ignored (value_at (codes "i") members) a.incremental))
    ++ priority_line (priority_with_defaults a)

-- the lines for the members of a targeted field that are ignored (RFC 9213 section 2.1), and for
-- its policy; any value but false sets the other directives
abbrev pub targeted_lines : Settings → Pairs Member → Policy → Seq ℕ
targeted_lines s members p =
    (ignored_line s (codes "max-age") (is_ignored (value_at (codes "max-age") members) p.max_age)
    ++ ignored_line s (codes "s-maxage")
    (is_ignored (value_at (codes "s-maxage") members) p.s_maxage))
    ++ policy_lines p

-- a List as Cache-Status (RFC 9211)
abbrev pub path_meaning : Settings → Field → Result (Seq ℕ) ℕ
path_meaning s (List l) = path_text (ignored_members s 0 l.members) (hops (List l))
path_meaning s (Item i) = Ok []
path_meaning s (Dict d) = Ok []

-- a Dictionary as Priority (RFC 9218)
abbrev pub priority_meaning : Settings → Field → Result (Seq ℕ) ℕ
priority_meaning s (Dict d) = Ok (priority_lines s d.members (params_of_dict d))
priority_meaning s (Item i) = Ok []
priority_meaning s (List l) = Ok []

-- a Dictionary as a targeted cache control field (RFC 9213)
abbrev pub policy_meaning : Settings → Field → Result (Seq ℕ) ℕ
policy_meaning s (Dict d) = Ok (targeted_lines s d.members (policy d))
policy_meaning s (Item i) = Ok []
policy_meaning s (List l) = Ok []

-- the meaning of the field of this name, in lower case: lines, of which there are none for a field
-- that has no meaning here; or the index of the first member that names no cache
abbrev pub meaning_of : Settings → Seq ℕ → Field → Result (Seq ℕ) ℕ
meaning_of s name v =
    if bytes_eq name (codes "cache-status") then path_meaning s v
    else if bytes_eq name (codes "priority") then priority_meaning s v
    else if is_targeted name then policy_meaning s v
    else Ok []

-- the meaning, or its fault; of a failed allocation nothing is claimed
abbrev pub IsMeaning : Result (Seq ℕ) ℕ → Result (Vec ℕ Global) UseFault → Type 0
IsMeaning meant (Ok text) = meant ≡ Ok text.items
IsMeaning meant (Err (NotACache index)) = meant ≡ Err index
IsMeaning meant (Err OutOfMemory) = ⊤
