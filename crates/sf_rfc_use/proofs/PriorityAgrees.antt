-- Priorities are those of RFC 9218.
use Rattle.std.proofs.Common.{◌≡◌, ℕ, pos, negsuc, Bool}
use Rattle.std.proofs.Common.{true, false, [], ◌∷◌, ◌++◌, Option, Some, None, ◌==◌}
use Rattle.std.proofs.Common.{Ok, Result, refl, sym, ap, ap₂, ◌∙◌, subst, arith}
use Rattle.std.proofs.Common.{eqb-true}
use Rattle.std.specs.Prelude.{codes, nat_le, unwrap_or, if◌then◌else◌}
use Rattle.std.specs.Option.{option_or}
use Rattle.std.proofs.lemmas.Bool.Decides.{nat_tests}
use Rattle.sf_value.specs.declared.dialect.Dialect.TheVariants.{Rfc9651}
use Rattle.sf_value.specs.declared.value.Bare.{Bare}
use Rattle.sf_value.specs.declared.value.Bare.TheVariants.{Integer, Boolean}
use Rattle.sf_value.specs.declared.value.Dict.{Dict}
use Rattle.sf_value.specs.declared.value.Member.{Member}
use Rattle.sf_value.specs.declared.value.Member.TheVariants as member
use Rattle.sf_value.specs.declared.value.Field.{Field}
use Rattle.sf_value.specs.declared.value.Field.TheVariants as field
use Rattle.sf_value.specs.declared.value.Kind.TheVariants as kind
use Rattle.sf_value.specs.Grammar.Canonical.{canon}
use Rattle.sf_value.specs.Grammar.Fields.{SpellsField}
use Rattle.sf_use.specs.declared.priority.Asked.{Asked}
use Rattle.sf_use.specs.declared.priority.Priority.{Priority}
use Rattle.sf_use.specs.Priority.{urgency_in, urgency, boolean, incremental, params_of_dict}
use Rattle.sf_use.specs.Priority.{merge_params, priority_with_defaults, params_of_field, prio}
use Rattle.sf_use.specs.Priority.{bare_member, incremental_written}
use Rattle.sf_use.specs.Ranges.{IsUrgency, usual_urgency}
use Rattle.sf_use.specs.ResponsePriority.{for_request, response_dict, response_of_dict}
use Rattle.sf_use.specs.ResponsePriority.{response_of_field, response_to, set_by}
use Rattle.sf_use.specs.declared.response_priority.ResponsePriority.{ResponsePriority}
use Rattle.sf_use.proofs.ResponsePriorities as responses
use Rattle.sf_use.proofs.WrittenPriorities as requests
use Rattle.sf_rfc.specs.Rfc9651.Words.{only_if}
use Rattle.sf_rfc.specs.Rfc9651.Parsing.{Map}
use Rattle.sf_rfc_use.specs.OrderedMaps.{value_of}
use Rattle.sf_rfc_use.specs.Rfc9218.{urgency_value, incremental_value, unless_ignored, Parameters}
use Rattle.sf_rfc_use.specs.Rfc9218.{parameters, or_default, KeepsClients, PrefersServers}
use Rattle.sf_rfc_use.specs.PriorityLaws.{as_asked, ParametersAgree, LinesAgree, UnknownIgnored}
use Rattle.sf_rfc_use.specs.Rfc9218.{Encodes, IsServers, IsUnchanged, request_incremental}
use Rattle.sf_rfc_use.specs.Rfc9218.{request_urgency}
use Rattle.sf_rfc_use.specs.PriorityLaws.{RequestsAgree, MergingAgrees, IsMerged, as_parameters}
use Rattle.sf_rfc_use.specs.PriorityLaws.{RepliesAgree, RequestsEncode, ResponsesAgree}
use Rattle.sf_rfc_use.specs.PriorityLaws.{ResponsesEncode}
use Rattle.sf_rfc.proofs.ParsingFields.{fields_agree}
use Rattle.sf_rfc_use.proofs.LookUps.{found, only_value}

same_test : (x : Bool) (n : ℕ) → (if x then Some n else None) ≡ only_if x n
same_test true n = refl
same_test false n = refl

bare_urgency : (x : Bare) → urgency_in x ≡ urgency_value x
bare_urgency (Integer (negsuc n)) = refl
bare_urgency (Integer (pos n)) = same_test (nat_le n 7) n
bare_urgency x = refl

bare_flag : (x : Bare) → boolean x ≡ incremental_value x
bare_flag (Boolean b) = refl
bare_flag x = refl

member_urgency : (m : Option Member) → urgency m ≡ unless_ignored urgency_value m
member_urgency None = refl
member_urgency (Some (member.Item i)) = bare_urgency i.bare
member_urgency (Some (member.Inner l)) = refl

member_flag : (m : Option Member) → incremental m ≡ unless_ignored incremental_value m
member_flag None = refl
member_flag (Some (member.Item i)) = bare_flag i.bare
member_flag (Some (member.Inner l)) = refl

asked_as : (u u' : Option ℕ) (i i' : Option Bool) → u ≡ u' → i ≡ i'
    → ◌≡◌ {A = Asked} (record { urgency = u; incremental = i })
    (record { urgency = u'; incremental = i' })
asked_as u u' i i' e f = cc

pub parameters_agree : ParametersAgree
parameters_agree ms =
    asked_as _ _ _ _
    (ap urgency (sym (found (codes "u") ms)) ∙ member_urgency (value_of (codes "u") ms))
    (ap incremental (sym (found (codes "i") ms)) ∙ member_flag (value_of (codes "i") ms))

pub lines_agree : LinesAgree
lines_agree d lines ms e = (
  field.Dict (record { members = ms }),
  only_value d kind.Dict lines (field.Dict (record { members = ms })) e,
  ap (λ a. Ok a) (parameters_agree ms),
)

pub unknown_ignored : UnknownIgnored
unknown_ignored these those u i =
    parameters_agree these
    ∙ asked_as _ _ _ _ (ap (unless_ignored urgency_value) u) (ap (unless_ignored incremental_value) i)
    ∙ sym (parameters_agree those)

-- defaults
defaulted : {X : Type 0} (o : Option X) (x : X) → unwrap_or o x ≡ or_default x o
defaulted None x = refl
defaulted (Some y) x = refl

priority_as : (u u' : ℕ) (i i' : Bool) → u ≡ u' → i ≡ i'
    → ◌≡◌ {A = Priority} (record { urgency = u; incremental = i })
    (record { urgency = u'; incremental = i' })
priority_as u u' i i' e f = cc

pub requests_agree : RequestsAgree
requests_agree ms =
    ap priority_with_defaults (parameters_agree ms)
    ∙ priority_as _ _ _ _ (defaulted (parameters ms).u 3) (defaulted (parameters ms).i false)

-- merging
keeps : {X : Type 0} (c s m : Option X) → m ≡ option_or s c → KeepsClients c s m
keeps c None m e = e
keeps c (Some x) m e = tt

prefers : {X : Type 0} (c s m : Option X) → m ≡ option_or s c → PrefersServers c s m
prefers c None m e = e
prefers c (Some x) m e = e

pub merging_agrees : MergingAgrees
merging_agrees client server =
    let u = ap₂ (λ (c s : Asked). (merge_params c s).urgency) (parameters_agree client)
    (parameters_agree server) in
    let i = ap₂ (λ (c s : Asked). (merge_params c s).incremental) (parameters_agree client)
    (parameters_agree server) in (
      keeps (parameters client).u (parameters server).u _ u,
      keeps (parameters client).i (parameters server).i _ i,
      prefers (parameters client).u (parameters server).u _ u,
      prefers (parameters client).i (parameters server).i _ i,
    )

-- the result of merging what two Dictionaries set
pub merged_is : (client server : Dict) (c s m : Asked) → c ≡ params_of_dict client
    → s ≡ params_of_dict server → m ≡ merge_params c s
    → IsMerged (parameters client.members) (parameters server.members) m
merged_is client server c s m e f g =
    let h : m ≡ merge_params (as_asked (parameters client.members))
    (as_asked (parameters server.members)) =
    g ∙ ap₂ merge_params (e ∙ parameters_agree client.members)
    (f ∙ parameters_agree server.members) in (
      prefers (parameters client.members).u (parameters server.members).u m.urgency
          (ap (λ (a : Asked). a.urgency) h),
      prefers (parameters client.members).i (parameters server.members).i m.incremental
          (ap (λ (a : Asked). a.incremental) h),
    )

-- responses
parameters_as : (p q : Asked) → p ≡ q → as_parameters (set_by p) ≡ as_parameters (set_by q)
parameters_as p q e = ap (λ a. as_parameters (set_by a)) e

pub responses_agree : ResponsesAgree
responses_agree ms =
    parameters_as (params_of_dict (record { members = ms })) (as_asked (parameters ms))
    (parameters_agree ms)

unchanged : {X : Type 0} (server client : Option X) (default : X)
    → IsUnchanged default client server (for_request server client default)
unchanged (Some x) client default = tt
unchanged None (Some x) default = refl
unchanged None None default = refl

servers : {X : Type 0} (server client : Option X) (default : X)
    → IsServers server (for_request server client default)
servers (Some x) client default = refl
servers None client default = tt

-- the priority of the parameters of both
abbrev reply : Parameters → Parameters → Priority
reply c s = response_to (as_asked c) (set_by (as_asked s))

reply_is : (client server : Map Member)
    → response_to (params_of_dict (record { members = client }))
    (response_of_dict (record { members = server }))
    ≡ reply (parameters client) (parameters server)
reply_is client server =
    ap₂ (λ (c s : Asked). response_to c (set_by s)) (parameters_agree client)
    (parameters_agree server)

pub replies_agree : RepliesAgree
replies_agree client server =
    let u = sym (ap (λ (p : Priority). p.urgency) (reply_is client server)) in
    let i = sym (ap (λ (p : Priority). p.incremental) (reply_is client server)) in
    let c = parameters client in
    let s = parameters server in (
      subst (IsUnchanged 3 c.u s.u) u (unchanged s.u c.u 3),
      subst (IsUnchanged false c.i s.i) i (unchanged s.i c.i false),
      subst (IsServers s.u) u (servers s.u c.u 3),
      subst (IsServers s.i) i (servers s.i c.i false),
    )

-- fields that are written
ok_same : {A E : Type 0} (a b : A) → ◌≡◌ {A = Result A E} (Ok a) (Ok b) → a ≡ b
ok_same a b e = cc

pub responses_encode : ResponsesEncode
responses_encode d r h =
    let m = responses.read_from_text d r h in by m.0 m.1.spelled m.2
  where
    by : (v : Field) → SpellsField d kind.Dict (canon (field.Dict (response_dict r))) v
        → ◌≡◌ {A = Result ResponsePriority ℕ} (Ok (response_of_field v)) (Ok r)
        → Encodes d (canon (field.Dict (response_dict r))) (as_parameters r)
    by (field.Dict m) s e = (
      m.members,
      (fields_agree d kind.Dict (canon (field.Dict (response_dict r))) (field.Dict m)).1 s,
      sym (responses_agree m.members) ∙ ap as_parameters (ok_same (response_of_dict m) r e),
    )
    by (field.List l) s e = absurd s
    by (field.Item i) s e = absurd s

urgency_back : (n : ℕ) → IsUrgency n → urgency_in (Integer (pos n)) ≡ Some n
urgency_back n h = grind (arith, nat_tests)

request_back : (n : ℕ) (usual i : Bool) → (n == usual_urgency) ≡ usual → IsUrgency n
    → priority_with_defaults (params_of_dict (record {
      members =
          (if usual then [] else (codes "u", bare_member (Integer (pos n))) ∷ [])
          ++ incremental_written i;
    }))
    ≡ record { urgency = n; incremental = i }
request_back n true true e h =
    ap (λ m. record { urgency = m; incremental = true }) (sym (eqb-true n 3 e))
request_back n true false e h =
    ap (λ m. record { urgency = m; incremental = false }) (sym (eqb-true n 3 e))
request_back n false true e h =
    ap (λ u. priority_with_defaults (record { urgency = u; incremental = Some true }))
    (urgency_back n h)
request_back n false false e h =
    ap (λ u. priority_with_defaults (record { urgency = u; incremental = None })) (urgency_back n h)

pub requests_encode : RequestsEncode
requests_encode p h =
    let m = requests.read_from_text p h in by m.0 m.1.spelled m.2
  where
    by : (v : Field) → SpellsField Rfc9651 kind.Dict (canon (field.Dict (prio p))) v
        → ◌≡◌ {A = Result Asked ℕ} (Ok (params_of_field v)) (Ok (params_of_dict (prio p)))
        → (written : Parameters)
        × Encodes Rfc9651 (canon (field.Dict (prio p))) written
        × (request_urgency written ≡ p.urgency)
        × (request_incremental written ≡ p.incremental)
    by (field.Dict m) s e =
        let same : priority_with_defaults (params_of_dict m) ≡ p =
        ap priority_with_defaults (ok_same (params_of_dict m) (params_of_dict (prio p)) e)
        ∙ request_back p.urgency (p.urgency == usual_urgency) p.incremental refl h in
        let meant = sym (requests_agree m.members) ∙ same in (
          parameters m.members,
          (
            m.members,
            (fields_agree Rfc9651 kind.Dict (canon (field.Dict (prio p))) (field.Dict m)).1 s,
            refl,
          ),
          ap (λ (q : Priority). q.urgency) meant,
          ap (λ (q : Priority). q.incremental) meant,
        )
    by (field.List l) s e = absurd s
    by (field.Item i) s e = absurd s
