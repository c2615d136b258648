-- Whether a struct describes a hop, by its parts.
use Rattle.std.proofs.Common.{◌≡◌, ◌≢◌, ℕ, zero, suc, ◌∷◌, Bool, true, false, List}
use Rattle.std.proofs.Common.{Option, None, Some, refl, sym, subst, ◌∙◌}
use Rattle.std.specs.Bool.{MatchBool}
use Rattle.std.specs.Prelude.{◌&&◌, ◌==◌, is_none, not}
use Rattle.sf_value.proofs.Faults.{every_place}
use Rattle.sf_value.proofs.Words.{every_from_place}
use Rattle.sf_value.specs.Faults.{bad_place}
use Rattle.sf_value.specs.Grammar.Classes.{is_in_token, is_token_start, is_visible}
use Rattle.sf_value.specs.Grammar.Tokens.{IsToken}
use Rattle.sf_value.specs.Grammar.Words.{Every}
use Rattle.sf_use.specs.declared.cache_status.hop.Forward.TheVariants.{Other}
use Rattle.sf_use.specs.declared.cache_status.hop.Name.TheVariants as name
use Rattle.sf_use.specs.declared.cache_status.hop.Outcome.TheVariants.{Forwarded, Conflict}
use Rattle.sf_c.specs.declared.hops.HopNode.{HopNode}
use Rattle.sf_c.specs.declared.span.Span.{Span}
use Rattle.sf_c.specs.declared.status.Status.{Status}
use Rattle.sf_c.specs.declared.status.Status.TheVariants.{Invalid}
use Rattle.sf_c.specs.GivenHops.{AreBytes, GivesFlag, GivesHop, GivesInteger, GivesMaybe}
use Rattle.sf_c.specs.GivenHops.{GivesName, GivesNone, GivesOutcome, GivesPassed, GivesStatus}
use Rattle.sf_c.specs.GivenHops.{GivesString, GivesToken, GivesWhy}
use Rattle.sf_c.specs.HopParts.{Decides}
use Rattle.sf_c.proofs.GivenHops.{conflicting, forwarded, not_other, not_some, not_text, not_token}

-- no bad byte is found exactly if each passes
pub all_or_not : (p : ℕ → Bool) (bs : List ℕ) (o : Option ℕ) → o ≡ bad_place p bs
    → MatchBool (is_none o) (Every p bs) (Every p bs → ⊥)
all_or_not p bs None e = every_from_place p bs (sym e)
all_or_not p bs (Some i) e = λ h. let never : Some i ≡ None = e ∙ every_place p bs h in absurd cc

-- what is made of values that there are, or are not
moved : {X Y : Type 0} (P : X → Type 0) (Q : Y → Type 0) (make : X → Y)
    → ((x : X) → P x → Q (make x)) → (((x : X) → P x → ⊥) → (y : Y) → Q y → ⊥) → (r : Bool)
    → Decides P r → Decides Q r
moved P Q make has none true d = (make d.0, has d.0 d.1)
moved P Q make has none false d = none d

pub string_decided : (bytes : List ℕ) (p : Span) (part : List ℕ) (r : Bool) → AreBytes bytes p part
    → MatchBool r (Every is_visible part) (Every is_visible part → ⊥)
    → Decides (GivesString bytes p) r
string_decided bytes p part true a m = (part, (a, m))
string_decided bytes p part false a m =
    λ text g. m (subst (Every is_visible) (g.0.1 ∙ sym a.1) g.1)

pub token_decided : (bytes : List ℕ) (p : Span) (part : List ℕ) (r : Bool) → AreBytes bytes p part
    → MatchBool r (IsToken part) (IsToken part → ⊥) → Decides (GivesToken bytes p) r
token_decided bytes p part true a m = (part, (a, m))
token_decided bytes p part false a m = λ token g. m (subst IsToken (g.0.1 ∙ sym a.1) g.1)

-- the first byte, and those after it
pub word_decided : (first : ℕ) (rest : List ℕ) (r : Bool) → is_token_start first ≡ true
    → MatchBool r (Every is_in_token rest) (Every is_in_token rest → ⊥)
    → MatchBool r (IsToken (first ∷ rest)) (IsToken (first ∷ rest) → ⊥)
word_decided first rest true e m = (e, m)
word_decided first rest false e m = λ h. m h.1

pub text_name_decided : (bytes : List ℕ) (p : Span) (flag : ℕ) (r : Bool) → flag ≡ 0
    → Decides (GivesString bytes p) r → Decides (GivesName bytes p flag) r
text_name_decided bytes p flag r e =
    moved (GivesString bytes p) (GivesName bytes p flag) (λ t. name.Text t) (λ t g. (e, g))
    (not_text bytes p flag e) r

pub token_name_decided : (bytes : List ℕ) (p : Span) (flag : ℕ) (r : Bool) → flag ≢ 0
    → Decides (GivesToken bytes p) r → Decides (GivesName bytes p flag) r
token_name_decided bytes p flag r e =
    moved (GivesToken bytes p) (GivesName bytes p flag) (λ t. name.Token t) (λ t g. (e, g))
    (not_token bytes p flag e) r

pub forwarded_decided : (bytes : List ℕ) (n : HopNode) (r : Bool) → n.outcome ≡ 2
    → Decides (GivesPassed bytes n) r → Decides (GivesOutcome bytes n) r
forwarded_decided bytes n r e =
    moved (GivesPassed bytes n) (GivesOutcome bytes n) (λ p. Forwarded p) (λ p g. (e, g))
    (forwarded bytes n e) r

pub conflict_decided : (bytes : List ℕ) (n : HopNode) (r : Bool) → n.outcome ≡ 3
    → Decides (GivesPassed bytes n) r → Decides (GivesOutcome bytes n) r
conflict_decided bytes n r e =
    moved (GivesPassed bytes n) (GivesOutcome bytes n) (λ p. Conflict p) (λ p g. (e, g))
    (conflicting bytes n e) r

pub other_decided : (bytes : List ℕ) (n : HopNode) (r : Bool) → n.why ≡ 9
    → Decides (GivesToken bytes n.why_token) r → Decides (GivesWhy bytes n) r
other_decided bytes n r e =
    moved (GivesToken bytes n.why_token) (GivesWhy bytes n) (λ t. Other t) (λ t g. (e, g))
    (not_other bytes n e) r

-- a value whose flag is set, and one whose flag is not
pub some_decided : {X : Type 0} (flag : ℕ) (P : X → Type 0) (r : Bool) → flag ≢ 0 → Decides P r
    → Decides (GivesMaybe flag P) r
some_decided flag P r e =
    moved P (GivesMaybe flag P) (λ x. Some x) (λ x g. (e, g)) (not_some flag P e) r

pub none_decided : {X : Type 0} (flag : ℕ) (P : X → Type 0) → flag ≡ 0
    → Decides (GivesMaybe flag P) true
none_decided flag P e = (None, e)

-- why there is none, if no allocation is needed
pub unmade_decided : {X : Type 0} (P : X → Type 0) (s : Status) → s ≡ Invalid → GivesNone P s
    → Decides P false
unmade_decided P s e h = subst (GivesNone P) e h

-- any number is a flag
flag_given : (flag number : ℕ) → (x : Option Bool) × GivesMaybe flag (GivesFlag number) x
flag_given zero number = (None, refl)
flag_given (suc m) number = (Some (not (number == 0)), ((λ e. absurd cc), refl))

pub passed_decided : (bytes : List ℕ) (n : HopNode) (a b : Bool)
    → Decides (GivesWhy bytes n) a → Decides (GivesMaybe n.has_status (GivesStatus n.status)) b
    → Decides (GivesPassed bytes n) (a && b)
passed_decided bytes n true true w t =
    let s = flag_given n.has_stored n.stored in
    let c = flag_given n.has_collapsed n.collapsed in (
      record { why = w.0; status = t.0; stored = s.0; collapsed = c.0 },
      (w.1, t.1, s.1, c.1),
    )
passed_decided bytes n false b w t = λ p g. w p.why g.0
passed_decided bytes n true false w t = λ p g. t p.status g.1

pub hop_decided : (bytes : List ℕ) (n : HopNode) (a b c d e : Bool)
    → Decides (GivesName bytes n.name n.name_is_token) a → Decides (GivesOutcome bytes n) b
    → Decides (GivesMaybe n.has_ttl (GivesInteger n.ttl)) c
    → Decides (GivesMaybe n.has_key (GivesString bytes n.key)) d
    → Decides (GivesMaybe n.has_detail (GivesName bytes n.detail n.detail_is_token)) e
    → Decides (GivesHop bytes n) ((((a && b) && c) && d) && e)
hop_decided bytes n true true true true true u v w x y = (
  record { name = u.0; outcome = v.0; ttl = w.0; key = x.0; detail = y.0 },
  (u.1, v.1, w.1, x.1, y.1),
)
hop_decided bytes n false b c d e u v w x y = λ h g. u h.name g.0
hop_decided bytes n true false c d e u v w x y = λ h g. v h.outcome g.1
hop_decided bytes n true true false d e u v w x y = λ h g. w h.ttl g.2
hop_decided bytes n true true true false e u v w x y = λ h g. x h.key g.3
hop_decided bytes n true true true true false u v w x y = λ h g. y h.detail g.4
