-- A path has at most as many hops as the value of its text has nodes, and at most as many bytes.
use Rattle.std.proofs.Common.{◌≡◌, ℕ, ◌+◌, ◌*◌, ◌≤◌, Bool, true, false, ◌&&◌, List as Seq, [], ◌∷◌}
use Rattle.std.proofs.Common.{length}
use Rattle.std.proofs.Common.{map, Option, Some, None, Ok, refl, sym, ap, ◌∙◌, arith}
use Rattle.std.proofs.Common.{codes, bytes_eq}
use Rattle.std.proofs.lemmas.Bool.{and_parts, false≢true, false_from_ne_true}
use Rattle.std.proofs.lemmas.List.{length-map}
use Rattle.std.proofs.lemmas.Slice.Eq.{bytes_eq-Decides}
use Rattle.std.specs.List.{filter_map}
use Rattle.std.specs.Map.{lookup}
use Rattle.std.specs.Option.{option_and_then, option_map}
use Rattle.std.specs.Prelude.{unwrap_or}
use Rattle.sf_value.specs.declared.value.Bare.{Bare}
use Rattle.sf_value.specs.declared.value.Bare.TheVariants.{Text, Token}
use Rattle.sf_value.specs.declared.value.Member.{Member}
use Rattle.sf_value.specs.declared.value.Member.TheVariants as member
use Rattle.sf_value.specs.declared.value.Field.{Field}
use Rattle.sf_value.specs.declared.value.Field.TheVariants as field
use Rattle.sf_value.specs.Grammar.Pairs.{Pairs, value_at}
use Rattle.sf_value.specs.declared.dialect.Dialect.{Dialect}
use Rattle.sf_value.specs.declared.value.Kind.TheVariants.{List}
use Rattle.sf_value.specs.Grammar.Fields.{SpellsField}
use Rattle.sf_value.specs.Lookups.{as_text, as_token}
use Rattle.sf_use.specs.declared.cache_status.hop.Name.{Name}
use Rattle.sf_use.specs.declared.cache_status.hop.Name.TheVariants as name
use Rattle.sf_use.specs.declared.cache_status.hop.Forward.{Forward}
use Rattle.sf_use.specs.declared.cache_status.hop.Forward.TheVariants.{Other}
use Rattle.sf_use.specs.declared.cache_status.hop.Passed.{Passed}
use Rattle.sf_use.specs.declared.cache_status.hop.Hop.{Hop}
use Rattle.sf_use.specs.CacheStatus.Parameters.{as_name, boolean_at}
use Rattle.sf_use.specs.CacheStatus.Reasons.{forward_of, reasons, token_of}
use Rattle.sf_use.specs.CacheStatus.Hops.{hop_named, hops, member_hop, outcome_by, passed_at}
use Rattle.sf_use.specs.CacheStatus.Hops.{passed_by_token, unless}
use Rattle.sf_use.specs.CacheStatus.Members.{passed_by}
use Rattle.sf_view.specs.View.{text_of}
use Rattle.sf_nodes.specs.NodeCounts.{member_nodes, members_nodes, field_nodes, params_bytes}
use Rattle.sf_nodes.specs.NodeCounts.{member_bytes, members_bytes, field_bytes}
use Rattle.sf_c.specs.Laws.{HopsAreFew, HopBytesAreFew}
use Rattle.sf_c.specs.Hops.{HopContent, bytes_of, detail_bytes, hop_size, hops_size, hop_content}
use Rattle.sf_c.specs.Hops.{why_token}

-- how many bytes a bare item has, where there is one
abbrev taken : Option Bare → ℕ
taken None = 0
taken (Some x) = length (text_of x)

-- no key passes both tests
abbrev Apart : (Seq ℕ → Bool) → (Seq ℕ → Bool) → Type 0
Apart f g = (k : Seq ℕ) → (f k && g k) ≡ false

-- what is looked up among parameters has at most their bytes
one_taken : (f : Seq ℕ → Bool) (ps : Pairs Bare)
    → taken (lookup f ps) ≤ params_bytes ps
one_taken f [] = omega arith
one_taken f (p ∷ ps) = let rest = one_taken f ps in grind arith

-- so have two that differ
two_taken : (f g : Seq ℕ → Bool) → Apart f g → (ps : Pairs Bare)
    → taken (lookup f ps) + taken (lookup g ps) ≤ params_bytes ps
two_taken f g d [] = omega arith
two_taken f g d (p ∷ ps) =
    let one = one_taken f ps in
    let other = one_taken g ps in
    let both = two_taken f g d ps in
    let apart : (f p.0 && g p.0) ≡ false = d p.0 in
    grind arith

-- and three
three_taken : (f g h : Seq ℕ → Bool) → Apart f g → Apart f h → Apart g h → (ps : Pairs Bare)
    → taken (lookup f ps) + taken (lookup g ps) + taken (lookup h ps)
    ≤ params_bytes ps
three_taken f g h d m n [] = omega arith
three_taken f g h d m n (p ∷ ps) =
    let fg = two_taken f g d ps in
    let fh = two_taken f h m ps in
    let gh = two_taken g h n ps in
    let all = three_taken f g h d m n ps in
    let a : (f p.0 && g p.0) ≡ false = d p.0 in
    let b : (f p.0 && h p.0) ≡ false = m p.0 in
    let c : (g p.0 && h p.0) ≡ false = n p.0 in
    grind arith

-- two keys that differ
keys_apart : (a b : Seq ℕ) → bytes_eq a b ≡ false → Apart (bytes_eq a) (bytes_eq b)
keys_apart a b differ k =
    false_from_ne_true (bytes_eq a k && bytes_eq b k) (λ both.
    let p = and_parts (bytes_eq a k) (bytes_eq b k) both in
    let same : a ≡ b = (bytes_eq-Decides a k).0 p.0 ∙ sym ((bytes_eq-Decides b k).0 p.1) in
    false≢true (sym differ ∙ (bytes_eq-Decides a b).1 same))

-- the reason of a token has that token
abbrev AreTheirs : Pairs Forward → Type 0
AreTheirs [] = Unit {0}
AreTheirs (p ∷ ps) = (token_of p.1 ≡ p.0) × AreTheirs ps

found : (s : Seq ℕ) (w : Forward) (ps : Pairs Forward) → AreTheirs ps → value_at s ps ≡ Some w
    → token_of w ≡ s
found s w [] h e = let never : None ≡ Some w = e in absurd cc
found s w (p ∷ ps) h e = go (bytes_eq s p.0) refl e (found s w ps h.1)
  where
    go : (b : Bool) → bytes_eq s p.0 ≡ b → value_at s (p ∷ ps) ≡ Some w
        → (value_at s ps ≡ Some w → token_of w ≡ s) → token_of w ≡ s
    go true i f rest =
        let here : Some p.1 ≡ Some w = rw i at f in
        let same : w ≡ p.1 = cc in
        ap token_of same ∙ h.0 ∙ sym ((bytes_eq-Decides s p.0).0 i)
    go false i f rest = rest (rw i at f)

pub forward_back : (s : Seq ℕ) → token_of (forward_of s) ≡ s
forward_back s = go (value_at s reasons) refl
  where
    go : (o : Option Forward) → value_at s reasons ≡ o → token_of (forward_of s) ≡ s
    go None e = ap (λ o. token_of (unwrap_or o (Other s))) e
    go (Some w) e =
        ap (λ o. token_of (unwrap_or o (Other s))) e
        ∙ found s w reasons (refl, (refl, (refl, (refl, (refl, (refl, (refl, (refl, tt)))))))) e

-- a parameter as a token, as a text and as a detail
parts_few : (ps : Pairs Bare) (o : Option Bare)
    → (length (why_token (option_map (passed_by_token ps) (option_and_then as_token o))) ≤ taken o)
    × (length (unwrap_or (option_and_then as_text o) []) ≤ taken o)
    × (length (detail_bytes (option_and_then as_name o)) ≤ taken o)
parts_few ps None = omega arith
parts_few ps (Some (Token s)) = omega (arith, ap length (forward_back s))
parts_few ps o = omega arith

pub passed_back : (b : Bool) (o : Option Passed) → passed_by (outcome_by b o) ≡ o
passed_back b o = grind arith

-- a hop has at most the bytes of its name and its parameters
hop_few : (ps : Pairs Bare) (n : Name)
    → hop_size (hop_content (hop_named ps n))
    ≤ length (bytes_of n) + params_bytes ps
hop_few ps n =
    let suffix = ap (λ o. length (why_token o))
    (passed_back (unwrap_or (boolean_at (codes "hit") ps) false) (passed_at ps)) in
    let why = (parts_few ps (value_at (codes "fwd") ps)).0 in
    let key = (parts_few ps (value_at (codes "key") ps)).1 in
    let detail = (parts_few ps (value_at (codes "detail") ps)).2 in
    let all = three_taken (bytes_eq (codes "fwd")) (bytes_eq (codes "key"))
    (bytes_eq (codes "detail")) (keys_apart (codes "fwd") (codes "key") refl)
    (keys_apart (codes "fwd") (codes "detail") refl)
    (keys_apart (codes "key") (codes "detail") refl) ps in
    omega arith

-- the bytes of a hop, where there is one
abbrev few : Option Hop → ℕ
few None = 0
few (Some h) = hop_size (hop_content h)

bare_few : (x : Bare) (ps : Pairs Bare)
    → few (option_map (hop_named ps) (as_name x))
    ≤ length (text_of x) + params_bytes ps
bare_few (Text s) ps = hop_few ps (name.Text s)
bare_few (Token s) ps = hop_few ps (name.Token s)
bare_few x ps = omega arith

member_few : (m : Member) → few (member_hop m) ≤ member_bytes m
member_few (member.Item i) = omega (arith, bare_few i.bare i.params)
member_few (member.Inner l) = omega arith

-- a member has a node
member_some : (m : Member) → 1 ≤ member_nodes m
member_some (member.Item i) = omega arith
member_some (member.Inner l) = omega arith

members_few : (ms : Seq Member)
    → hops_size (map hop_content (filter_map member_hop ms)) ≤ members_bytes ms
members_few [] = omega arith
members_few (m ∷ ms) =
    let one = member_few m in
    let rest = members_few ms in
    grind arith

members_count : (ms : Seq Member)
    → length (filter_map member_hop ms) ≤ members_nodes ms
members_count [] = omega arith
members_count (m ∷ ms) =
    let one = member_some m in
    let rest = members_count ms in
    grind arith

unless_ok : (o : Option ℕ) (js hs : Seq Hop) → unless o js ≡ Ok hs → js ≡ hs
unless_ok None js hs e = cc
unless_ok (Some index) js hs e = absurd cc

pub path_few : (v : Field) (hs : Seq Hop) → hops v ≡ Ok hs
    → (length hs ≤ field_nodes v)
    × (hops_size (map hop_content hs) ≤ field_bytes v)
path_few (field.List l) hs e =
    let same = unless_ok _ (filter_map member_hop l.members) hs e in
    let size = ap (λ js. hops_size (map hop_content js)) same in
    omega (arith, ap length same, members_count l.members, members_few l.members)
path_few v hs e =
    let same : [] ≡ hs = cc in
    let size = ap (λ js. hops_size (map hop_content js)) same in
    omega (arith, ap length same)

-- the same of numbers that say how many there are
count_few : (n m : ℕ) (ts : Seq HopContent) (js hs : Seq Hop) → n ≡ length ts
    → ts ≡ map hop_content js → js ≡ hs → 10 * length hs ≤ m → 10 * n ≤ m
count_few n m ts js hs e f g h = omega (arith, ap length f, length-map js hop_content, ap length g)

size_few : (n m : ℕ) (ts : Seq HopContent) (js hs : Seq Hop) → n ≡ hops_size ts
    → ts ≡ map hop_content js → js ≡ hs → 5 * hops_size (map hop_content hs) ≤ m → 5 * n ≤ m
size_few n m ts js hs e f g h =
    omega (arith, ap hops_size f, ap (λ z. hops_size (map hop_content z)) g)

-- and of the two together, of the path of a text
pub content_few : (k : Dialect) (n size : ℕ) (t : Seq ℕ) (v : Field) (ts : Seq HopContent)
    (js hs : Seq Hop) → n ≡ length ts → size ≡ hops_size ts → ts ≡ map hop_content js → js ≡ hs
    → HopsAreFew → HopBytesAreFew → SpellsField k List t v → hops v ≡ Ok hs
    → (10 * n ≤ 8 * length t + 5) × (5 * size ≤ 8 * length t)
content_few k n size t v ts js hs e s f g few small spelled means = (
  count_few n (8 * length t + 5) ts js hs e f g (few k List t v hs spelled means),
  size_few size (8 * length t) ts js hs s f g (small k List t v hs spelled means),
)
