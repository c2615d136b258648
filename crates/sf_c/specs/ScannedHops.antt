-- Hops that are read from the text of a field into the caller's buffers.
use Rattle.std.specs.Prelude.{◌≡◌, ℕ, pos, ◌+◌, ◌*◌, ◌≤◌, ◌++◌, Bool, true, false, List as Seq, []}
use Rattle.std.specs.Prelude.{length, map, take, is_some, unwrap_or, Ok, Option, Some}
use Rattle.std.specs.Option.{option_and, option_copied, option_map}
use Rattle.sf_value.specs.declared.dialect.Dialect.{Dialect}
use Rattle.sf_value.specs.declared.value.Field.{Field}
use Rattle.sf_value.specs.declared.value.Kind.TheVariants.{List}
use Rattle.sf_value.specs.declared.value.Member.{Member}
use Rattle.sf_value.specs.Grammar.InnerLists.{SpellsMember}
use Rattle.sf_value.specs.Grammar.Series.{SpellsWhole}
use Rattle.sf_parse.specs.Parsers.{IsOnly}
use Rattle.sf_use.specs.declared.cache_status.hop.Hop.{Hop}
use Rattle.sf_use.specs.declared.cache_status.view.NameView.{NameView}
use Rattle.sf_use.specs.declared.cache_status.view.NameView.TheVariants as view_is
use Rattle.sf_use.specs.declared.cache_status.view.HopCursor.{HopCursor}
use Rattle.sf_use.specs.declared.cache_status.view.HopView.{HopView}
use Rattle.sf_use.specs.CacheStatus.Hops.{hops, member_hop, status_of}
use Rattle.sf_use.specs.CacheStatus.Members.{passed_by}
use Rattle.sf_use.specs.CacheStatus.Reasons.{forward_of}
use Rattle.sf_use.specs.CacheStatus.Served.{served}
use Rattle.sf_use.specs.CacheStatus.Views.{RemainsInPath}
use Rattle.sf_c.specs.declared.hop_scan.PathSizes.{PathSizes}
use Rattle.sf_c.specs.declared.hop_scan.ScannedPath.{ScannedPath}
use Rattle.sf_c.specs.declared.hops.HopNode.{HopNode}
use Rattle.sf_c.specs.declared.span.Span.{Span}
use Rattle.sf_c.specs.Hops.{bytes_of, detail_bytes, end_of, hops_size, reason_number, says_by}
use Rattle.sf_c.specs.Hops.{says_of, hop_content, hop_content_by, why_token, HopsHoldUp}
use Rattle.sf_c.specs.Hops.{HopSays, HopsAtStart, PutsSpan}
use Rattle.sf_c.specs.Refusals.{flag_number}

-- whether a name that is borrowed is a Token
abbrev pub is_token_view : NameView → Bool
is_token_view (view_is.Text s) = false
is_token_view (view_is.Token s) = true

-- the number of the reason that a token stands for
abbrev pub token_number : Seq ℕ → ℕ
token_number token = reason_number (forward_of token)

-- the numbers of a hop that is borrowed
abbrev pub says_in : HopView → HopSays
says_in v = record {
  outcome = flag_number (unwrap_or v.params.hit false) + 2 * flag_number (is_some v.params.fwd);
  why = unwrap_or (option_map token_number (option_copied v.params.fwd)) 0;
  status = unwrap_or (status_of (option_and v.params.fwd v.params.fwd_status)) 0;
  has_status = flag_number (is_some (status_of (option_and v.params.fwd v.params.fwd_status)));
  stored = flag_number (unwrap_or (option_and v.params.fwd v.params.stored) false);
  has_stored = flag_number (is_some (option_and v.params.fwd v.params.stored));
  collapsed = flag_number (unwrap_or (option_and v.params.fwd v.params.collapsed) false);
  has_collapsed = flag_number (is_some (option_and v.params.fwd v.params.collapsed));
  ttl = unwrap_or v.params.ttl (pos 0);
  has_ttl = flag_number (is_some v.params.ttl);
  has_key = flag_number (is_some v.params.key);
  has_detail = flag_number (is_some v.params.detail);
  name_is_token = flag_number (is_token_view v.name);
  detail_is_token = flag_number (unwrap_or (option_map is_token_view v.params.detail) false);
}

-- the text is after the first bytes of the buffer, of which so many were used
abbrev pub PutsAfter : Seq ℕ → Seq ℕ → ℕ → Seq ℕ → Span → Type 0
PutsAfter old new used text p = PutsSpan (take used old) (take (end_of p) new) text p

-- the four texts of a hop are after the first bytes of the buffer, of which so many were used, one
-- after another, and the struct describes the hop
pub record IsHopPut (old new : Seq ℕ) (used : ℕ) (n : HopNode) (h : Hop) : Type 0 where
  pub with_name : Seq ℕ
  pub with_why : Seq ℕ
  pub with_key : Seq ℕ
  pub name : PutsSpan (take used old) with_name (bytes_of h.name) n.name
  pub why : PutsSpan with_name with_why (why_token (passed_by h.outcome)) n.why_token
  pub key : PutsSpan with_why with_key (unwrap_or h.key []) n.key
  pub detail : PutsSpan with_key (take (end_of n.detail) new) (detail_bytes h.detail) n.detail
  pub says : says_by n ≡ says_of h

-- in the dialect the text spells a List, and no other value, and the starts of the buffers describe
-- its hops
pub record IsPathOf (k : Dialect) (t : Seq ℕ) (nodes : Seq HopNode) (bytes : Seq ℕ)
    (s : PathSizes) : Type 0 where
  pub value : Field
  pub path : Seq Hop
  pub only : IsOnly k List t value
  pub means : hops value ≡ Ok path
  pub count : s.hops ≡ length path
  pub size : s.bytes ≡ hops_size (map hop_content path)
  pub place : s.served ≡ served path
  pub hops : HopsAtStart (map hop_content path) nodes bytes

-- in the dialect the text spells a List, and no other value, whose hops have these sizes
pub record HasPathSizes (k : Dialect) (t : Seq ℕ) (s : PathSizes) : Type 0 where
  pub value : Field
  pub path : Seq Hop
  pub only : IsOnly k List t value
  pub means : hops value ≡ Ok path
  pub count : s.hops ≡ length path
  pub size : s.bytes ≡ hops_size (map hop_content path)
  pub place : s.served ≡ served path

-- so many hops were read, with so many bytes and this last hit; whatever members remain, the text
-- spells those that were read and them
pub record PathSoFar (k : Dialect) (text : Seq ℕ) (c : HopCursor) (nodes : Seq HopNode)
    (bytes : Seq ℕ) (count used : ℕ) (last : Option ℕ) : Type 0 where
  pub members : Seq Member
  pub path : Seq Hop
  pub means : map member_hop members ≡ map Some path
  pub fits : count ≤ length nodes
  pub within : used ≤ length bytes
  pub describes : map (hop_content_by (take used bytes)) (take count nodes) ≡ map hop_content path
  pub held : HopsHoldUp (take used bytes) (take count nodes)
  pub place : last ≡ served path
  pub reads : (ms : Seq Member) → RemainsInPath c ms
      → SpellsWhole (SpellsMember k) text (members ++ ms)

-- hops that were counted, as PathSoFar
pub record CountedSoFar (k : Dialect) (text : Seq ℕ) (c : HopCursor) (z : PathSizes) : Type 0 where
  pub members : Seq Member
  pub path : Seq Hop
  pub means : map member_hop members ≡ map Some path
  pub count : z.hops ≡ length path
  pub size : z.bytes ≡ hops_size (map hop_content path)
  pub place : z.served ≡ served path
  pub reads : (ms : Seq Member) → RemainsInPath c ms
      → SpellsWhole (SpellsMember k) text (members ++ ms)

-- the same of these sizes
abbrev pub IsPutTo : Dialect → Seq ℕ → HopCursor → Seq HopNode → Seq ℕ → PathSizes → Type 0
IsPutTo d t c nodes bytes z = PathSoFar d t c nodes bytes z.hops z.bytes z.served

abbrev pub IsCountedTo : Dialect → Seq ℕ → HopCursor → PathSizes → Type 0
IsCountedTo d t c z = CountedSoFar d t c z

-- hops were read, and all are in the buffers, or they were counted
abbrev pub IsReadBy : Bool → Dialect → Seq ℕ → HopCursor → Seq HopNode → Seq ℕ → PathSizes
    → Type 0
IsReadBy true d t c nodes bytes z = IsPutTo d t c nodes bytes z
IsReadBy false d t c nodes bytes z = IsCountedTo d t c z

abbrev pub IsReadTo : Dialect → Seq ℕ → HopCursor → Seq HopNode → Seq ℕ → ScannedPath → Type 0
IsReadTo d t c nodes bytes s = IsReadBy s.is_put d t c nodes bytes s.sizes

-- in the dialect the text spells a List, and no other value; and the starts of the buffers describe
-- its hops, or they were counted
abbrev pub IsPathBy : Bool → Dialect → Seq ℕ → Seq HopNode → Seq ℕ → PathSizes → Type 0
IsPathBy true d t nodes bytes z = IsPathOf d t nodes bytes z
IsPathBy false d t nodes bytes z = HasPathSizes d t z

abbrev pub IsScannedPath : Dialect → Seq ℕ → Seq HopNode → Seq ℕ → ScannedPath → Type 0
IsScannedPath d t nodes bytes s = IsPathBy s.is_put d t nodes bytes s.sizes
