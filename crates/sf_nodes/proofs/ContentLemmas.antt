-- What parts describe stays when more bytes and more parts come.
use Rattle.std.proofs.Common.{◌≡◌, ℕ, ◌+◌, ◌≤◌, List, [], ◌∷◌, ◌++◌, length, map, refl}
use Rattle.std.proofs.Common.{ap, ◌∙◌, arith, length-append, cond, true, false, Result, Ok, Err}
use Rattle.std.specs.Prelude.{is_ok, is_err}
use Rattle.std.proofs.lemmas.List.{map-append}
use Rattle.sf_view.specs.View.{slice_at}
use Rattle.sf_nodes.specs.declared.parts.Part.{Part}
use Rattle.sf_nodes.specs.NodeContents.{NodeContent, content_by, content_size, IsWithin, AreWithin}
use Rattle.sf_nodes.specs.NodeContents.{HoldsUp}
use Rattle.sf_nodes.proofs.Slices.{slice_at-append, slice_at_last}

-- a node that points to bytes points to the same among more
pub IsWithin-append : (bytes more : List ℕ) (n : Part) → IsWithin bytes n
    → IsWithin (bytes ++ more) n
IsWithin-append bytes more n h =
    let longer = length-append bytes more in
    let key = h.0 in
    let text = h.1 in
    (omega arith, omega arith)

pub AreWithin-append : (bytes more : List ℕ) (ns : List Part) → AreWithin bytes ns
    → AreWithin (bytes ++ more) ns
AreWithin-append bytes more [] h = tt
AreWithin-append bytes more (n ∷ ns) h =
    (IsWithin-append bytes more n h.0, AreWithin-append bytes more ns h.1)

pub AreWithin-push : (bytes : List ℕ) (ns : List Part) (n : Part) → AreWithin bytes ns
    → IsWithin bytes n → AreWithin bytes (ns ++ n ∷ [])
AreWithin-push bytes [] n h w = (w, tt)
AreWithin-push bytes (m ∷ ns) n h w = (h.0, AreWithin-push bytes ns n h.1 w)

-- so it tells the same
pub content_by-append : (bytes more : List ℕ) (n : Part) → IsWithin bytes n
    → content_by (bytes ++ more) n ≡ content_by bytes n
content_by-append bytes more n h =
    let key = slice_at-append n.key_at n.key_length bytes more h.0 in
    let text = slice_at-append n.text_at n.text_length bytes more h.1 in
    rw (key, text) refl

pub map-content_by-append : (bytes more : List ℕ) (ns : List Part) → AreWithin bytes ns
    → map (content_by (bytes ++ more)) ns ≡ map (content_by bytes) ns
map-content_by-append bytes more [] h = refl
map-content_by-append bytes more (n ∷ ns) h =
    rw (content_by-append bytes more n h.0, map-content_by-append bytes more ns h.1) refl

-- a node of this key and this text, which are after the bytes before
pub record Points (bytes key text : List ℕ) (n : Part) : Type 0 where
  pub key_at : n.key_at ≡ length bytes
  pub key_length : n.key_length ≡ length key
  pub text_at : n.text_at ≡ length (bytes ++ key)
  pub text_length : n.text_length ≡ length text

pub Points-within : (bytes key text : List ℕ) (n : Part) → Points bytes key text n
    → IsWithin ((bytes ++ key) ++ text) n
Points-within bytes key text n p =
    let a = p.key_at in
    let b = p.key_length in
    let c = p.text_at in
    let d = p.text_length in
    let e = length-append bytes key in
    let f = length-append (bytes ++ key) text in
    (omega arith, omega arith)

pub within_more : (bytes now key text : List ℕ) (ns ms : List Part) (n : Part)
    → now ≡ (bytes ++ key) ++ text → ms ≡ ns ++ n ∷ [] → Points bytes key text n
    → AreWithin bytes ns → AreWithin now ms
within_more bytes now key text ns ms n e f p h =
    rw (e, f)
    (AreWithin-push _ ns n
    (AreWithin-append (bytes ++ key) text ns (AreWithin-append bytes key ns h))
    (Points-within bytes key text n p))

-- its key and its text are these
pub key_is : (bytes key text : List ℕ) (n : Part) → Points bytes key text n
    → slice_at n.key_at n.key_length ((bytes ++ key) ++ text) ≡ key
key_is bytes key text n p =
    let whole = length-append bytes key in
    let fits : length bytes + length key ≤ length (bytes ++ key) = omega arith in
    rw (p.key_at, p.key_length)
    (slice_at-append (length bytes) (length key) (bytes ++ key) text fits ∙ slice_at_last bytes key)

pub text_is : (bytes key text : List ℕ) (n : Part) → Points bytes key text n
    → slice_at n.text_at n.text_length ((bytes ++ key) ++ text) ≡ text
text_is bytes key text n p = rw (p.text_at, p.text_length) (slice_at_last (bytes ++ key) text)

pub content_more : (bytes now key text : List ℕ) (ns ms : List Part) (n : Part)
    → now ≡ (bytes ++ key) ++ text → ms ≡ ns ++ n ∷ [] → Points bytes key text n
    → AreWithin bytes ns
    → map (content_by now) ms
    ≡ map (content_by bytes) ns
    ++ record {
      role = n.role;
      node_type = n.node_type;
      number = n.number;
      key = key;
      text = text;
      size = n.size;
    }
    ∷ []
content_more bytes now key text ns ms n e f p h =
    let before = AreWithin-append bytes key ns h in
    rw (e, f)
    (map-append (content_by ((bytes ++ key) ++ text)) ns (n ∷ [])
    ∙ rw (
      map-content_by-append (bytes ++ key) text ns before,
      map-content_by-append bytes key ns h,
      key_is bytes key text n p,
      text_is bytes key text n p,
    ) refl)

-- how many bytes there are with one more part
pub content_size-append : (ts us : List NodeContent)
    → content_size (ts ++ us) ≡ content_size ts + content_size us
content_size-append [] us = omega arith
content_size-append (t ∷ ts) us = let e = content_size-append ts us in omega arith

pub holds_more : (bytes now key text : List ℕ) (ns ms : List Part) (n : Part)
    → now ≡ (bytes ++ key) ++ text → ms ≡ ns ++ n ∷ [] → Points bytes key text n
    → HoldsUp bytes ns → HoldsUp now ms
holds_more bytes now key text ns ms n e f p h =
    let before = h.1 in
    let longer = ap length e in
    let first = length-append bytes key in
    let second = length-append (bytes ++ key) text in
    let last : NodeContent = record {
      role = n.role;
      node_type = n.node_type;
      number = n.number;
      key = key;
      text = text;
      size = n.size;
    } in
    let contents : map (content_by now) ms ≡ map (content_by bytes) ns ++ last ∷ []
    = content_more bytes now key text ns ms n e f p h.0 in
    let size = ap content_size contents in
    let sizes = content_size-append (map (content_by bytes) ns) (last ∷ []) in
    (within_more bytes now key text ns ms n e f p h.0, omega arith)

-- what a push that succeeded left
pub pushed : {A E : Type 0} (r : Result A E) (xs ys zs : List Part) → xs ≡ cond (is_ok r) ys zs
    → is_err r ≡ false → xs ≡ ys
pushed (Ok a) xs ys zs e h = e
pushed (Err b) xs ys zs e h = let never : true ≡ false = h in absurd cc
