-- What the structs of hops describe stays when more bytes and more hops come.
use Rattle.std.proofs.Common.{◌≡◌, ℕ, ◌+◌, List, [], ◌∷◌, ◌++◌, length, take, drop, map, refl}
use Rattle.std.proofs.Common.{ap, ◌∙◌, sym, subst, arith, length-append, append_assoc}
use Rattle.std.proofs.lemmas.List.{append-nil, length-map, length-take, map-append}
use Rattle.std.proofs.Math.Seq.{take-append_seam}
use Rattle.sf_use.specs.declared.cache_status.hop.Hop.{Hop}
use Rattle.sf_use.specs.CacheStatus.Members.{passed_by}
use Rattle.sf_c.specs.declared.span.Span.{Span}
use Rattle.sf_c.specs.declared.hops.HopNode.{HopNode}
use Rattle.sf_c.specs.Spans.{IsSpanWithin, span_bytes}
use Rattle.sf_c.specs.Hops.{HopContent, says_by, says_of, hop_content_by, hop_content}
use Rattle.sf_c.specs.Hops.{bytes_of, detail_bytes, why_token, hops_size}
use Rattle.sf_c.specs.Hops.{IsHopWithin, AreHopsWithin, HopsHoldUp, PutsSpan, HopsAtStart}
use Rattle.sf_c.specs.Hops.{hop_bytes, hops_bytes, end_of, AreHopsInOrder}
use Rattle.sf_nodes.proofs.Slices.{slice_at-append, slice_at_last}
use Rattle.std.specs.Prelude.{unwrap_or}

-- a span of bytes is the same among more, and there
span_more : (bytes more : List ℕ) (p : Span) → IsSpanWithin bytes p
    → span_bytes (bytes ++ more) p ≡ span_bytes bytes p
span_more bytes more p h = slice_at-append p.at p.length bytes more h

within_more : (bytes more : List ℕ) (p : Span) → IsSpanWithin bytes p
    → IsSpanWithin (bytes ++ more) p
within_more bytes more p h = omega (arith, length-append bytes more)

-- so is a hop
hop_within_more : (bytes more : List ℕ) (n : HopNode) → IsHopWithin bytes n
    → IsHopWithin (bytes ++ more) n
hop_within_more bytes more n h = (
  within_more bytes more n.name h.0,
  within_more bytes more n.why_token h.1,
  within_more bytes more n.key h.2,
  within_more bytes more n.detail h.3,
)

hop_more : (bytes more : List ℕ) (n : HopNode) → IsHopWithin bytes n
    → hop_content_by (bytes ++ more) n ≡ hop_content_by bytes n
hop_more bytes more n h =
    let name = span_more bytes more n.name h.0 in
    let why = span_more bytes more n.why_token h.1 in
    let key = span_more bytes more n.key h.2 in
    let detail = span_more bytes more n.detail h.3 in
    rw (name, why, key, detail) refl

-- and each of hops
hops_within_more : (bytes more : List ℕ) (ns : List HopNode) → AreHopsWithin bytes ns
    → AreHopsWithin (bytes ++ more) ns
hops_within_more bytes more [] h = tt
hops_within_more bytes more (n ∷ ns) h =
    (hop_within_more bytes more n h.0, hops_within_more bytes more ns h.1)

hops_more : (bytes more : List ℕ) (ns : List HopNode) → AreHopsWithin bytes ns
    → map (hop_content_by (bytes ++ more)) ns ≡ map (hop_content_by bytes) ns
hops_more bytes more [] h = refl
hops_more bytes more (n ∷ ns) h =
    rw (hop_more bytes more n h.0, hops_more bytes more ns h.1) refl

hops_within_push : (bytes : List ℕ) (ns : List HopNode) (n : HopNode) → AreHopsWithin bytes ns
    → IsHopWithin bytes n → AreHopsWithin bytes (ns ++ n ∷ [])
hops_within_push bytes [] n h w = (w, tt)
hops_within_push bytes (m ∷ ns) n h w = (h.0, hops_within_push bytes ns n h.1 w)

-- a text that was put is there
put_within : (old new text : List ℕ) (p : Span) → PutsSpan old new text p → IsSpanWithin new p
put_within old new text p h = omega (arith, ap length h.0, h.1, h.2, length-append old text)

put_there : (old new text : List ℕ) (p : Span) → PutsSpan old new text p
    → span_bytes new p ≡ text
put_there old new text p h = rw (h.0, h.1, h.2) (slice_at_last old text)

-- what stays when one more text is put
put_keeps : (old new text : List ℕ) (p q : Span) → PutsSpan old new text q
    → IsSpanWithin old p → IsSpanWithin new p × (span_bytes new p ≡ span_bytes old p)
put_keeps old new text p q h w =
    rw h.0 (within_more old text p w, span_more old text p w)

put_keeps_hops : (old new text : List ℕ) (ns : List HopNode) (q : Span)
    → PutsSpan old new text q → AreHopsWithin old ns
    → AreHopsWithin new ns × (map (hop_content_by new) ns ≡ map (hop_content_by old) ns)
put_keeps_hops old new text ns q h w =
    rw h.0 (hops_within_more old text ns w, hops_more old text ns w)

-- the four texts of a hop, put one after another
pub record PutsHop (b0 b1 b2 b3 b4 n w k d : List ℕ) (x : HopNode) : Type 0 where
  pub name : PutsSpan b0 b1 n x.name
  pub why : PutsSpan b1 b2 w x.why_token
  pub key : PutsSpan b2 b3 k x.key
  pub detail : PutsSpan b3 b4 d x.detail

-- the struct describes the hop whose texts they are
pub record TextsOf (h : Hop) (n w k d : List ℕ) : Type 0 where
  pub name : n ≡ bytes_of h.name
  pub why : w ≡ why_token (passed_by h.outcome)
  pub key : k ≡ unwrap_or h.key []
  pub detail : d ≡ detail_bytes h.detail

hops_size-append : (ts us : List HopContent) → hops_size (ts ++ us) ≡ hops_size ts + hops_size us
hops_size-append [] us = omega arith
hops_size-append (t ∷ ts) us = omega (arith, hops_size-append ts us)

-- the bytes with those of one more hop
hops_bytes-push : (ts : List HopContent) (t : HopContent)
    → hops_bytes (ts ++ t ∷ []) ≡ hops_bytes ts ++ hop_bytes t
hops_bytes-push [] t = append-nil (hop_bytes t)
hops_bytes-push (u ∷ ts) t =
    ap (λ z. hop_bytes u ++ z) (hops_bytes-push ts t)
    ∙ sym (append_assoc (hop_bytes u) (hops_bytes ts) (hop_bytes t))

hop_bytes_are : (n w k d : List ℕ) (h : Hop) → TextsOf h n w k d
    → n ++ (w ++ (k ++ d)) ≡ hop_bytes (hop_content h)
hop_bytes_are n w k d h t = rw (t.name, t.why, t.key, t.detail) refl

module _ {b0 b1 b2 b3 b4 n w k d : List ℕ} {x : HopNode}
    (p : PutsHop b0 b1 b2 b3 b4 n w k d x) where
  -- where they are in the end
  spans_there : IsHopWithin b4 x
      × (span_bytes b4 x.name ≡ n)
      × (span_bytes b4 x.why_token ≡ w)
      × (span_bytes b4 x.key ≡ k)
      × (span_bytes b4 x.detail ≡ d)
  spans_there =
      let n1 = put_within b0 b1 n x.name p.name in
      let n2 = put_keeps b1 b2 w x.name x.why_token p.why n1 in
      let n3 = put_keeps b2 b3 k x.name x.key p.key n2.0 in
      let n4 = put_keeps b3 b4 d x.name x.detail p.detail n3.0 in
      let w2 = put_within b1 b2 w x.why_token p.why in
      let w3 = put_keeps b2 b3 k x.why_token x.key p.key w2 in
      let w4 = put_keeps b3 b4 d x.why_token x.detail p.detail w3.0 in
      let k3 = put_within b2 b3 k x.key p.key in
      let k4 = put_keeps b3 b4 d x.key x.detail p.detail k3 in
      let d4 = put_within b3 b4 d x.detail p.detail in (
        (n4.0, w4.0, k4.0, d4),
        n4.1 ∙ n3.1 ∙ n2.1 ∙ put_there b0 b1 n x.name p.name,
        w4.1 ∙ w3.1 ∙ put_there b1 b2 w x.why_token p.why,
        k4.1 ∙ put_there b2 b3 k x.key p.key,
        put_there b3 b4 d x.detail p.detail,
      )

  -- the hops that were there, in the end
  hops_there : (ns : List HopNode) → AreHopsWithin b0 ns
      → AreHopsWithin b4 ns × (map (hop_content_by b4) ns ≡ map (hop_content_by b0) ns)
  hops_there ns h =
      let h1 = put_keeps_hops b0 b1 n ns x.name p.name h in
      let h2 = put_keeps_hops b1 b2 w ns x.why_token p.why h1.0 in
      let h3 = put_keeps_hops b2 b3 k ns x.key p.key h2.0 in
      let h4 = put_keeps_hops b3 b4 d ns x.detail p.detail h3.0 in
      (h4.0, h4.1 ∙ h3.1 ∙ h2.1 ∙ h1.1)

  -- where the spans of the last hop stand
  hops_order_more : (at : ℕ) (ns : List HopNode) → AreHopsInOrder at ns (length b0)
      → AreHopsInOrder at (ns ++ x ∷ []) (length b4)
  hops_order_more at [] h =
      let here : at ≡ length b0 = h in
      omega (
        arith,
        ap length p.name.0,
        ap length p.why.0,
        ap length p.key.0,
        ap length p.detail.0,
        length-append {A = ℕ},
      )
  hops_order_more at (m ∷ ns) h = (h.0, hops_order_more (end_of m.detail) ns h.1)

  put_after : b4 ≡ b0 ++ (n ++ (w ++ (k ++ d)))
  put_after =
      p.detail.0
      ∙ ap (λ z. z ++ d) (p.key.0 ∙ ap (λ z. z ++ k) (p.why.0 ∙ ap (λ z. z ++ w) p.name.0))
      ∙ append_assoc ((b0 ++ n) ++ w) k d
      ∙ append_assoc (b0 ++ n) w (k ++ d)
      ∙ append_assoc b0 n (w ++ (k ++ d))

  module _ {h : Hop} (t : TextsOf h n w k d) (s : says_by x ≡ says_of h) where
    hop_is : hop_content_by b4 x ≡ hop_content h
    hop_is =
        let there = spans_there in
        let name = there.1 ∙ t.name in
        let why = there.2 ∙ t.why in
        let key = there.3 ∙ t.key in
        let detail = there.4 ∙ t.detail in
        rw (name, why, key, detail, s) refl

    -- the hops with one more
    pub hop_content_is : (ns ms : List HopNode) → ms ≡ ns ++ x ∷ [] → AreHopsWithin b0 ns
        → map (hop_content_by b4) ms ≡ map (hop_content_by b0) ns ++ hop_content h ∷ []
    hop_content_is ns ms e a =
        let others = (hops_there ns a).1 in
        rw e (map-append (hop_content_by b4) ns (x ∷ []) ∙ rw (others, hop_is) refl)

    pub hop_held : (ns ms : List HopNode) → ms ≡ ns ++ x ∷ [] → HopsHoldUp b0 ns → HopsHoldUp b4 ms
    hop_held ns ms e a =
        let all = hop_content_is ns ms e a.0 in
        let size = a.1 in
        let whole : b4 ≡ hops_bytes (map (hop_content_by b4) ms) =
        put_after
        ∙ ap (λ z. z ++ (n ++ (w ++ (k ++ d)))) a.3
        ∙ ap (λ z. hops_bytes (map (hop_content_by b0) ns) ++ z) (hop_bytes_are n w k d h t)
        ∙ sym (hops_bytes-push (map (hop_content_by b0) ns) (hop_content h))
        ∙ sym (ap hops_bytes all) in (
          rw e (hops_within_push b4 ns x (hops_there ns a.0).0 spans_there.0),
          omega (
            arith,
            ap hops_size all,
            hops_size-append (map (hop_content_by b0) ns) (hop_content h ∷ []),
            ap length p.name.0,
            ap length p.why.0,
            ap length p.key.0,
            ap length p.detail.0,
            ap length t.name,
            ap length t.why,
            ap length t.key,
            ap length t.detail,
            length-append {A = ℕ},
          ),
          rw e (hops_order_more 0 ns a.2),
          whole,
        )

-- the hops and the bytes at the start of two buffers
pub prefix_of : (ts : List HopContent) (hops some_hops : List HopNode) (bytes some_bytes : List ℕ)
    → map (hop_content_by some_bytes) some_hops ≡ ts → HopsHoldUp some_bytes some_hops
    → take (length some_hops) hops ≡ some_hops → take (length some_bytes) bytes ≡ some_bytes
    → HopsAtStart ts hops bytes
prefix_of ts hops some_hops bytes some_bytes described h e f =
    let size : length some_bytes ≡ hops_size ts = h.1 ∙ ap hops_size described in
    let count : length some_hops ≡ length ts =
    sym (length-map some_hops (hop_content_by some_bytes)) ∙ ap length described in
    let there : some_hops ≡ take (length ts) hops = sym e ∙ ap (λ n. take n hops) count in
    let with_bytes : some_bytes ≡ take (hops_size ts) bytes =
    sym f ∙ ap (λ n. take n bytes) size in
    let enough = ap length e in
    let long = ap length f in
    record {
      hops_fit = omega (arith, length-take (length some_hops) hops);
      bytes_fit = omega (arith, length-take (length some_bytes) bytes);
      describes =
          subst (λ y. map (hop_content_by y) (take (length ts) hops) ≡ ts) with_bytes
          (subst (λ y. map (hop_content_by some_bytes) y ≡ ts) there described);
      held =
          subst (λ y. HopsHoldUp y (take (length ts) hops)) with_bytes
          (subst (HopsHoldUp some_bytes) there h);
    }

-- hops and bytes that are put into buffers
pub hops_at_start : (ts : List HopContent) (hops new_hops some_hops : List HopNode)
    (bytes new_bytes some_bytes : List ℕ) → map (hop_content_by some_bytes) some_hops ≡ ts
    → HopsHoldUp some_bytes some_hops
    → new_hops ≡ some_hops ++ drop (0 + length some_hops) hops
    → new_bytes ≡ some_bytes ++ drop (0 + length some_bytes) bytes
    → HopsAtStart ts new_hops new_bytes
hops_at_start ts hops new_hops some_hops bytes new_bytes some_bytes described h e f =
    prefix_of ts new_hops some_hops new_bytes some_bytes described h
    (ap (take (length some_hops)) e ∙ take-append_seam some_hops _)
    (ap (take (length some_bytes)) f ∙ take-append_seam some_bytes _)
