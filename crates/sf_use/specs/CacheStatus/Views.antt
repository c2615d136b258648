-- Hops that borrow the text of a field.
use Rattle.std.specs.Prelude.{◌≡◌, ℕ, ℤ, Bool, false, codes, unwrap_or, List, [], ◌∷◌}
use Rattle.std.specs.Prelude.{Option, Some, None}
use Rattle.std.specs.Option.{option_and_then, option_copied, option_map}
use Rattle.sf_value.specs.declared.dialect.Dialect.{Dialect}
use Rattle.sf_value.specs.declared.value.Bare.{Bare}
use Rattle.sf_value.specs.declared.value.Bare.TheVariants.{Text}
use Rattle.sf_value.specs.declared.value.Member.{Member}
use Rattle.sf_value.specs.Grammar.Pairs.{Pairs, settle}
use Rattle.sf_value.specs.Lookups.{as_boolean, as_integer, as_text, as_token}
use Rattle.sf_view.specs.View.{DescribesText}
use Rattle.sf_view.specs.Reads.{ShowsText}
use Rattle.sf_view.specs.ItemCursors.{RemainsInList, RemainsInItem}
use Rattle.sf_view.specs.Overwriting.{overwritten}
use Rattle.sf_view.specs.declared.item_cursor.ItemCursor.{ItemCursor}
use Rattle.sf_view.specs.declared.item_cursor.ParamCursor.{ParamCursor}
use Rattle.sf_use.specs.declared.cache_status.hop.Name.{Name}
use Rattle.sf_use.specs.declared.cache_status.hop.Name.TheVariants as name
use Rattle.sf_use.specs.declared.cache_status.hop.Outcome.{Outcome}
use Rattle.sf_use.specs.declared.cache_status.hop.Passed.{Passed}
use Rattle.sf_use.specs.declared.cache_status.hop.Hop.{Hop}
use Rattle.sf_use.specs.declared.cache_status.view.NameView.{NameView}
use Rattle.sf_use.specs.declared.cache_status.view.NameView.TheVariants as view_is
use Rattle.sf_use.specs.declared.cache_status.view.HopParams.{HopParams}
use Rattle.sf_use.specs.declared.cache_status.view.HopView.{HopView}
use Rattle.sf_use.specs.declared.cache_status.view.HopCursor.{HopCursor}
use Rattle.sf_use.specs.CacheStatus.Parameters.{as_name, boolean_at, integer_at, name_at, text_at}
use Rattle.sf_use.specs.CacheStatus.Parameters.{token_at}
use Rattle.sf_use.specs.CacheStatus.Reasons.{forward_of}
use Rattle.sf_use.specs.CacheStatus.Hops.{member_hop, outcome_by, status_of}

-- the parameters of a hop, each by its key and its type
pub record HopParts : Type 0 where
  pub hit : Option Bool
  pub fwd : Option (List ℕ)
  pub fwd_status : Option ℤ
  pub ttl : Option ℤ
  pub stored : Option Bool
  pub collapsed : Option Bool
  pub key : Option (List ℕ)
  pub detail : Option Name

-- the parameters of a hop among these
abbrev pub parts_at : Pairs Bare → HopParts
parts_at params = record {
  hit = boolean_at (codes "hit") params;
  fwd = token_at (codes "fwd") params;
  fwd_status = integer_at (codes "fwd-status") params;
  ttl = integer_at (codes "ttl") params;
  stored = boolean_at (codes "stored") params;
  collapsed = boolean_at (codes "collapsed") params;
  key = text_at (codes "key") params;
  detail = name_at (codes "detail") params;
}

-- the parameters of a forwarded request
abbrev pub passed_in : HopParts → Option Passed
passed_in s =
    option_map
    (λ token. record {
      why = forward_of token;
      status = status_of s.fwd_status;
      stored = s.stored;
      collapsed = s.collapsed;
    })
    s.fwd

-- what these parameters say that the cache did
abbrev pub outcome_in : HopParts → Outcome
outcome_in s = outcome_by (unwrap_or s.hit false) (passed_in s)

-- the hop of a name and these parameters
abbrev pub hop_by : HopParts → Name → Hop
hop_by s n = record {
  name = n;
  outcome = outcome_by (unwrap_or s.hit false) (passed_in s);
  ttl = s.ttl;
  key = s.key;
  detail = s.detail;
}

-- the parameters after one more
abbrev pub with_param : HopParts → List ℕ × Bare → HopParts
with_param s p = record {
  hit = overwritten (option_and_then as_boolean) (codes "hit") s.hit p;
  fwd = overwritten (option_and_then as_token) (codes "fwd") s.fwd p;
  fwd_status = overwritten (option_and_then as_integer) (codes "fwd-status") s.fwd_status p;
  ttl = overwritten (option_and_then as_integer) (codes "ttl") s.ttl p;
  stored = overwritten (option_and_then as_boolean) (codes "stored") s.stored p;
  collapsed = overwritten (option_and_then as_boolean) (codes "collapsed") s.collapsed p;
  key = overwritten (option_and_then as_text) (codes "key") s.key p;
  detail = overwritten (option_and_then as_name) (codes "detail") s.detail p;
}

-- a name that is borrowed: its bytes or, if they are coded, its whole text
abbrev pub BorrowsName : Dialect → NameView → Name → Type 0
BorrowsName d (view_is.Text s) n =
    (t : List ℕ) × (n ≡ name.Text t) × DescribesText d s.coded s.bytes.now (Text t)
BorrowsName d (view_is.Token s) n = n ≡ name.Token s.now

-- a name that is borrowed, or that is absent from both
abbrev pub ShowsName : Dialect → Option NameView → Option Name → Type 0
ShowsName d (Some v) (Some n) = BorrowsName d v n
ShowsName d None None = Unit {0}
ShowsName d v n = ⊥

-- what is borrowed are these parameters
pub record ShowsParts (d : Dialect) (v : HopParams) (s : HopParts) : Type 0 where
  pub hit : v.hit ≡ s.hit
  pub fwd : option_copied v.fwd ≡ s.fwd
  pub fwd_status : v.fwd_status ≡ s.fwd_status
  pub ttl : v.ttl ≡ s.ttl
  pub stored : v.stored ≡ s.stored
  pub collapsed : v.collapsed ≡ s.collapsed
  pub key : ShowsText d v.key s.key
  pub detail : ShowsName d v.detail s.detail

-- what is borrowed is this hop; Strings and Tokens are the same in each dialect
pub record ShowsHop (v : HopView) (h : Hop) : Type 0 where
  pub dialect : Dialect
  pub name : Name
  pub parts : HopParts
  pub made : h ≡ hop_by parts name
  pub shows_name : BorrowsName dialect v.name name
  pub shows_parts : ShowsParts dialect v.params parts

-- these members remain
abbrev pub RemainsInPath : HopCursor → List Member → Type 0
RemainsInPath c ms = RemainsInList c.items ms

-- the text spells these parameters, which are borrowed, and then the members that remain
pub record ReadsParams (start : ParamCursor) (v : HopParams) (c : ItemCursor) : Type 0 where
  pub raw : Pairs Bare
  pub shows : ShowsParts start.dialect v (parts_at (settle raw))
  pub dialect : c.dialect ≡ start.dialect
  pub remains : (ms : List Member) → RemainsInList c ms → RemainsInItem start raw ms

-- a member with the hop that is borrowed comes before those that remain; or none remain
abbrev pub ReadsNextHop : HopCursor → HopCursor → Option HopView → Type 0
ReadsNextHop old new None = RemainsInPath old []
ReadsNextHop old new (Some v) =
    (m : Member) × (h : Hop)
    × (member_hop m ≡ Some h)
    × ShowsHop v h
    × ((ms : List Member) → RemainsInPath new ms → RemainsInPath old (m ∷ ms))
