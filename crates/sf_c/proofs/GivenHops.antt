-- Where a part of a hop is not given, no hop is; where each is, a hop is; and a text that is
-- written is that of the hop.
use Rattle.std.proofs.Common.{◌≡◌, ◌≢◌, ℕ, ℤ, ◌||◌, Bool, true, false, List, [], ◌∷◌}
use Rattle.std.proofs.Common.{Option, None, Some, Result, Ok, Err, MatchResult}
use Rattle.std.proofs.Common.{refl, sym, subst}
use Rattle.std.specs.Option.{option_and_then, ForSome}
use Rattle.sf_value.specs.declared.dialect.Dialect.TheVariants.{Rfc9651}
use Rattle.sf_value.specs.declared.value.Kind.TheVariants as kind
use Rattle.sf_value.specs.Grammar.Fields.{list_of}
use Rattle.sf_value.specs.Grammar.Valid.{Valid}
use Rattle.sf_use.specs.CacheStatus.Members.{entry, passed_by}
use Rattle.sf_use.specs.Ranges.{IsHopStatus}
use Rattle.sf_use.proofs.CacheStatusLemmas.ReadBack.{reads_back}
use Rattle.sf_use.specs.declared.cache_status.hop.Forward.{Forward}
use Rattle.sf_use.specs.declared.cache_status.hop.Forward.TheVariants.{Other}
use Rattle.sf_use.specs.declared.cache_status.hop.Hop.{Hop}
use Rattle.sf_use.specs.declared.cache_status.hop.Name.{Name}
use Rattle.sf_use.specs.declared.cache_status.hop.Name.TheVariants as name
use Rattle.sf_use.specs.declared.cache_status.hop.Outcome.{Outcome}
use Rattle.sf_use.specs.declared.cache_status.hop.Outcome.TheVariants.{Forwarded, Conflict}
use Rattle.sf_use.specs.declared.cache_status.hop.Passed.{Passed}
use Rattle.sf_c.specs.declared.hops.HopNode.{HopNode}
use Rattle.sf_c.specs.declared.status.Status.{Status}
use Rattle.sf_c.specs.declared.status.Status.TheVariants.{Answered, Short}
use Rattle.sf_c.specs.declared.status.Status.TheVariants.{OutOfMemory}
use Rattle.sf_c.specs.declared.status.Status.TheVariants.{Invalid}
use Rattle.sf_c.specs.declared.span.Span.{Span}
use Rattle.sf_c.specs.GivenHops.{GivesFlag, GivesHop, GivesInteger, GivesMaybe, GivesName}
use Rattle.sf_c.specs.GivenHops.{GivesNone, GivesOutcome, GivesPassed, GivesStatus, GivesString}
use Rattle.sf_c.specs.GivenHops.{GivesToken, GivesWhy, IsReadAs, WritesHop, hop_text, is_invalid}
use Rattle.sf_c.specs.TextBuffers.{PutsText, TextBuffer}
use Rattle.sf_c.proofs.NodeTexts.{canon_only}

pub forwarded : (bytes : List ℕ) (n : HopNode) → n.outcome ≡ 2
    → ((p : Passed) → GivesPassed bytes n p → ⊥) → (o : Outcome) → GivesOutcome bytes n o → ⊥
forwarded bytes n e h (Forwarded p) g = h p g.1
forwarded bytes n e h (Conflict p) g = let other = g.0 in absurd cc
forwarded bytes n e h o g = absurd cc

pub conflicting : (bytes : List ℕ) (n : HopNode) → n.outcome ≡ 3
    → ((p : Passed) → GivesPassed bytes n p → ⊥) → (o : Outcome) → GivesOutcome bytes n o → ⊥
conflicting bytes n e h (Forwarded p) g = let other = g.0 in absurd cc
conflicting bytes n e h (Conflict p) g = h p g.1
conflicting bytes n e h o g = absurd cc

-- there is no value of Q for a status if there is none of P: none of Q where none of P is, and one
-- of Q for one of P
carries : {X Y : Type 0} (P : X → Type 0) (Q : Y → Type 0) (make : X → Y)
    → ((x : X) → P x → Q (make x)) → (((x : X) → P x → ⊥) → (y : Y) → Q y → ⊥) → (s : Status)
    → GivesNone P s → GivesNone Q s
carries P Q make has none Invalid h = none h
carries P Q make has none OutOfMemory h = (make h.0, has h.0 h.1)
carries P Q make has none s h = absurd h

pub no_forwarded : (bytes : List ℕ) (n : HopNode) (s : Status) → n.outcome ≡ 2
    → GivesNone (GivesPassed bytes n) s → GivesNone (GivesOutcome bytes n) s
no_forwarded bytes n s e =
    carries (GivesPassed bytes n) (GivesOutcome bytes n) (λ p. Forwarded p) (λ p g. (e, g))
    (forwarded bytes n e) s

pub no_conflict : (bytes : List ℕ) (n : HopNode) (s : Status) → n.outcome ≡ 3
    → GivesNone (GivesPassed bytes n) s → GivesNone (GivesOutcome bytes n) s
no_conflict bytes n s e =
    carries (GivesPassed bytes n) (GivesOutcome bytes n) (λ p. Conflict p) (λ p g. (e, g))
    (conflicting bytes n e) s

-- a name
pub not_text : (bytes : List ℕ) (p : Span) (flag : ℕ) → flag ≡ 0
    → ((t : List ℕ) → GivesString bytes p t → ⊥) → (x : Name) → GivesName bytes p flag x → ⊥
not_text bytes p flag e none (name.Text t) g = none t g.1
not_text bytes p flag e none (name.Token t) g = absurd (g.0 e)

pub not_token : (bytes : List ℕ) (p : Span) (flag : ℕ) → flag ≢ 0
    → ((t : List ℕ) → GivesToken bytes p t → ⊥) → (x : Name) → GivesName bytes p flag x → ⊥
not_token bytes p flag e none (name.Text t) g = absurd (e g.0)
not_token bytes p flag e none (name.Token t) g = none t g.1

pub no_text_name : (bytes : List ℕ) (p : Span) (flag : ℕ) (s : Status) → flag ≡ 0
    → GivesNone (GivesString bytes p) s → GivesNone (GivesName bytes p flag) s
no_text_name bytes p flag s e =
    carries (GivesString bytes p) (GivesName bytes p flag) (λ t. name.Text t) (λ t g. (e, g))
    (not_text bytes p flag e) s

pub no_token_name : (bytes : List ℕ) (p : Span) (flag : ℕ) (s : Status) → flag ≢ 0
    → GivesNone (GivesToken bytes p) s → GivesNone (GivesName bytes p flag) s
no_token_name bytes p flag s e =
    carries (GivesToken bytes p) (GivesName bytes p flag) (λ t. name.Token t) (λ t g. (e, g))
    (not_token bytes p flag e) s

-- a value whose flag is set
pub not_some : {X : Type 0} (flag : ℕ) (P : X → Type 0) → flag ≢ 0 → ((x : X) → P x → ⊥)
    → (x : Option X) → GivesMaybe flag P x → ⊥
not_some flag P e none None g = e g
not_some flag P e none (Some x) g = none x g.1

pub no_some : {X : Type 0} (flag : ℕ) (P : X → Type 0) (s : Status) → flag ≢ 0 → GivesNone P s
    → GivesNone (GivesMaybe flag P) s
no_some flag P s e =
    carries P (GivesMaybe flag P) (λ x. Some x) (λ x g. (e, g)) (not_some flag P e) s

-- a reason with a token of its own
pub not_other : (bytes : List ℕ) (n : HopNode) → n.why ≡ 9
    → ((t : List ℕ) → GivesToken bytes n.why_token t → ⊥) → (w : Forward) → GivesWhy bytes n w → ⊥
not_other bytes n e none (Other t) g = none t g.1
not_other bytes n e none w g = absurd cc

pub no_other : (bytes : List ℕ) (n : HopNode) (s : Status) → n.why ≡ 9
    → GivesNone (GivesToken bytes n.why_token) s → GivesNone (GivesWhy bytes n) s
no_other bytes n s e =
    carries (GivesToken bytes n.why_token) (GivesWhy bytes n) (λ t. Other t) (λ t g. (e, g))
    (not_other bytes n e) s

-- the parameters of a request, of which the reason is made last
pub no_passed : (bytes : List ℕ) (n : HopNode) (status : Option ℕ) (stored collapsed : Option Bool)
    (s : Status) → GivesMaybe n.has_status (GivesStatus n.status) status
    → GivesMaybe n.has_stored (GivesFlag n.stored) stored
    → GivesMaybe n.has_collapsed (GivesFlag n.collapsed) collapsed
    → GivesNone (GivesWhy bytes n) s → GivesNone (GivesPassed bytes n) s
no_passed bytes n status stored collapsed s a b c =
    carries (GivesWhy bytes n) (GivesPassed bytes n)
    (λ w. record { why = w; status = status; stored = stored; collapsed = collapsed })
    (λ w g. (g, a, b, c)) (λ none p g. none p.why g.0) s

-- none of Q where a part of it is Invalid
pub no_whole : {X Y : Type 0} (P : X → Type 0) (Q : Y → Type 0) (part : Y → X)
    → ((y : Y) → Q y → P (part y)) → (s : Status) → s ≡ Invalid → GivesNone P s → GivesNone Q s
no_whole P Q part has s e h =
    subst (GivesNone Q) (sym e) (λ y g. (subst (GivesNone P) e h) (part y) (has y g))

-- a part that is not Invalid is given
held : {X : Type 0} (P : X → Type 0) (r : Result X Status) → MatchResult r P (GivesNone P)
    → is_invalid r ≡ false → (x : X) × P x
held P (Ok x) m e = (x, m)
held P (Err OutOfMemory) m e = m
held P (Err Invalid) m e = absurd cc
held P (Err s) m e = absurd m

-- of a part that is Invalid there is none
unheld : {X : Type 0} (P : X → Type 0) (r : Result X Status) → MatchResult r P (GivesNone P)
    → is_invalid r ≡ true → (x : X) → P x → ⊥
unheld P (Err Invalid) m e = m
unheld P r m e = absurd cc

-- what is made of the parts of a hop that need memory
pub record Made (bytes : List ℕ) (n : HopNode) (a : Result Name Status) (b : Result Outcome Status)
    (k : Result (Option (List ℕ)) Status) (d : Result (Option Name) Status) : Type 0 where
  pub name : MatchResult a (GivesName bytes n.name n.name_is_token)
      (GivesNone (GivesName bytes n.name n.name_is_token))
  pub outcome : MatchResult b (GivesOutcome bytes n) (GivesNone (GivesOutcome bytes n))
  pub key : MatchResult k (GivesMaybe n.has_key (GivesString bytes n.key))
      (GivesNone (GivesMaybe n.has_key (GivesString bytes n.key)))
  pub detail : MatchResult d
      (GivesMaybe n.has_detail (GivesName bytes n.detail n.detail_is_token))
      (GivesNone (GivesMaybe n.has_detail (GivesName bytes n.detail n.detail_is_token)))

any_of : {C : Type 0} (w x y z : Bool) → (((w || x) || y) || z) ≡ true → (w ≡ true → C)
    → (x ≡ true → C) → (y ≡ true → C) → (z ≡ true → C) → C
any_of true x y z e f g h i = f refl
any_of false true y z e f g h i = g refl
any_of false false true z e f g h i = h refl
any_of false false false true e f g h i = i refl
any_of false false false false e f g h i = absurd cc

none_is : (w x y z : Bool) → (((w || x) || y) || z) ≡ false
    → (w ≡ false) × (x ≡ false) × (y ≡ false) × (z ≡ false)
none_is false false false false e = (refl, refl, refl, refl)
none_is w x y z e = absurd cc

-- what fails of a part that is not Invalid is an allocation, and so it is for what is given
no_memory : {X Y : Type 0} (P : X → Type 0) (Q : Y → Type 0) (s : Status) → GivesNone P s
    → is_invalid {X = X} (Err s) ≡ false → ((y : Y) × Q y) → GivesNone Q s
no_memory P Q OutOfMemory h e q = q
no_memory P Q Invalid h e q = absurd cc
no_memory P Q s h e q = absurd h

no_part : {X Y : Type 0} (P : X → Type 0) (Q : Y → Type 0) (r : Result X Status)
    → MatchResult r P (GivesNone P) → is_invalid r ≡ false → ((y : Y) × Q y) → (s : Status)
    → r ≡ Err s → GivesNone Q s
no_part P Q r m f q s e =
    no_memory P Q s (subst (λ z. MatchResult z P (GivesNone P)) e m)
    (subst (λ z. is_invalid z ≡ false) e f) q

-- why a part was not made is why no hop is
pub record Unmade (bytes : List ℕ) (n : HopNode) (a : Result Name Status)
    (b : Result Outcome Status)
    (k : Result (Option (List ℕ)) Status) (d : Result (Option Name) Status) : Type 0 where
  pub name : (s : Status) → a ≡ Err s → GivesNone (GivesHop bytes n) s
  pub outcome : (s : Status) → b ≡ Err s → GivesNone (GivesHop bytes n) s
  pub key : (s : Status) → k ≡ Err s → GivesNone (GivesHop bytes n) s
  pub detail : (s : Status) → d ≡ Err s → GivesNone (GivesHop bytes n) s

module _ {bytes : List ℕ} {n : HopNode} {a : Result Name Status} {b : Result Outcome Status}
    {k : Result (Option (List ℕ)) Status} {d : Result (Option Name) Status}
    (m : Made bytes n a b k d) where
  -- no hop is given if one of these parts is Invalid
  pub no_hop : (((is_invalid a || is_invalid b) || is_invalid k) || is_invalid d) ≡ true
      → (h : Hop) → GivesHop bytes n h → ⊥
  no_hop e h g =
      any_of (is_invalid a) (is_invalid b) (is_invalid k) (is_invalid d) e
      (λ w. unheld _ a m.name w h.name g.0) (λ w. unheld _ b m.outcome w h.outcome g.1)
      (λ w. unheld _ k m.key w h.key g.3) (λ w. unheld _ d m.detail w h.detail g.4)

  -- a hop is given if none is
  pub unmade : (ttl : Option ℤ) → GivesMaybe n.has_ttl (GivesInteger n.ttl) ttl
      → (((is_invalid a || is_invalid b) || is_invalid k) || is_invalid d) ≡ false
      → Unmade bytes n a b k d
  unmade ttl t e =
      let valid = none_is (is_invalid a) (is_invalid b) (is_invalid k) (is_invalid d) e in
      let x = held _ a m.name valid.0 in
      let y = held _ b m.outcome valid.1 in
      let z = held _ k m.key valid.2 in
      let w = held _ d m.detail valid.3 in
      let hop : (h : Hop) × GivesHop bytes n h = (
        record { name = x.0; outcome = y.0; ttl = ttl; key = z.0; detail = w.0 },
        (x.1, y.1, t, z.1, w.1),
      ) in
      record {
        name = no_part _ (GivesHop bytes n) a m.name valid.0 hop;
        outcome = no_part _ (GivesHop bytes n) b m.outcome valid.1 hop;
        key = no_part _ (GivesHop bytes n) k m.key valid.2 hop;
        detail = no_part _ (GivesHop bytes n) d m.detail valid.3 hop;
      }

-- the status of a hop that a struct gives has three digits
status_in_range : (flag number : ℕ) (status : Option ℕ)
    → GivesMaybe flag (GivesStatus number) status → ForSome status IsHopStatus
status_in_range flag number None g = λ x e. absurd cc
status_in_range flag number (Some n) g =
    λ x e. let same : number ≡ x = cc in subst IsHopStatus same g.1.1

outcome_in_range : (bytes : List ℕ) (n : HopNode) (o : Outcome) → GivesOutcome bytes n o
    → ForSome (option_and_then (λ p. p.status) (passed_by o)) IsHopStatus
outcome_in_range bytes n (Forwarded p) g = status_in_range n.has_status n.status p.status g.1.1
outcome_in_range bytes n (Conflict p) g = status_in_range n.has_status n.status p.status g.1.1
outcome_in_range bytes n o g = λ x e. absurd cc

-- what is written of it is read as it
pub read_as : (bytes : List ℕ) (n : HopNode) (h : Hop) → GivesHop bytes n h
    → Valid Rfc9651 kind.List (list_of (entry h ∷ [])) → IsReadAs (hop_text h) h
read_as bytes n h g valid =
    let v = list_of (entry h ∷ []) in
    (v, canon_only Rfc9651 kind.List v valid, reads_back h (outcome_in_range bytes n h.outcome g.1))

pub writes_hop : (old new : TextBuffer) (bytes : List ℕ) (n : HopNode) (h : Hop) (s : Status)
    → GivesHop bytes n h → IsReadAs (hop_text h) h → PutsText old new (hop_text h) (Some s)
    → WritesHop old new bytes n (Some s)
writes_hop old new bytes n h Answered g r w = (h, g, r, w)
writes_hop old new bytes n h Short g r w = (h, g, w)
writes_hop old new bytes n h s g r w = absurd w
