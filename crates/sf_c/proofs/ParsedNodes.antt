-- What is in the buffers after a text was parsed.
use Rattle.std.proofs.Common.{◌≡◌, ℕ, ◌+◌, ◌^◌, ◌<◌, ◌≤◌, List, [], ◌∷◌, ◌++◌, length, take}
use Rattle.std.proofs.Common.{refl, sym, ap, ◌∙◌, subst, arith, length-append, inr, Some}
use Rattle.std.proofs.lemmas.List.{length-take-le, append-nil}
use Rattle.std.proofs.Math.Seq.{take-append_seam}
use Rattle.sf_value.specs.declared.dialect.Dialect.{Dialect}
use Rattle.sf_value.specs.declared.value.Field.{Field}
use Rattle.sf_value.specs.declared.value.Kind.{Kind}
use Rattle.sf_value.specs.Grammar.Words.{Each}
use Rattle.sf_parse.specs.Parsers.{IsOnly}
use Rattle.sf_view.specs.declared.node.Node.{Node}
use Rattle.sf_view.specs.Accepts.{Accepts}
use Rattle.sf_view.specs.View.{DescribesField}
use Rattle.sf_c.specs.declared.parse.Sizes.{Sizes}
use Rattle.sf_c.specs.Decodings.{AreDecoded, IsUncoded}
use Rattle.sf_view.specs.declared.counting.Counts.{Counts}
use Rattle.sf_view.specs.Counting.{HasCounts}
use Rattle.sf_c.specs.declared.refusal.SyntaxRefusal.{SyntaxRefusal}
use Rattle.sf_c.specs.declared.status.Status.{Status}
use Rattle.sf_c.specs.declared.status.Status.TheVariants.{Short, TooLong, TooMany}
use Rattle.sf_c.specs.Exceeding.{Exceeds}
use Rattle.sf_c.specs.Flattening.{Flattens, HasSizes, IsSmall, IsHeld}
use Rattle.sf_nodes.specs.NodeBytes.{IsDecoded, IsInOne}
use Rattle.sf_nodes.specs.Laws.{NodesAreFew, BytesAreFew, NodesAreTheirs}
use Rattle.sf_nodes.specs.NodeCounts.{field_nodes, field_bytes}
use Rattle.sf_nodes.specs.Nodes.{field_content}
use Rattle.sf_nodes.specs.NodeContents.{NodeContent, content_size}
use Rattle.sf_c.proofs.Carrying.{field_carry}
use Rattle.sf_c.proofs.EachNode.{each_in_text}
use Rattle.sf_nodes.proofs.NodeCounting.{content_nodes, content_bytes}

each_decoded : (size : ℕ) (ns : List Node) → Each (IsUncoded size) ns → Each IsDecoded ns
each_decoded size [] h = tt
each_decoded size (n ∷ ns) h = (h.0.0, each_decoded size ns h.1)

each_in_one : (size : ℕ) (ns : List Node) → Each (IsUncoded size) ns → Each (IsInOne size) ns
each_in_one size [] h = tt
each_in_one size (n ∷ ns) h = (h.0.1, each_in_one size ns h.1)

-- the value of a text is small
pub is_small : NodesAreFew → BytesAreFew → (d : Dialect) (k : Kind) (t : List ℕ) (v : Field)
    → IsOnly d k t v → IsSmall t v
is_small nodes bytes d k t v only = (nodes d k t v only.spelled, bytes d k t v only.spelled)

-- so many nodes at the start, which were split off, are those and are there
prefix_of : (scanned prefix suffix new : List Node) (count : ℕ) → count ≤ length scanned
    → length prefix ≡ length (take count scanned) → new ≡ prefix ++ suffix
    → (take count new ≡ prefix) × (count ≤ length new)
prefix_of scanned prefix suffix new count within same e =
    let size : length prefix ≡ count = same ∙ length-take-le count scanned within in
    let whole = ap length e ∙ length-append prefix suffix in (
      ap (take count) e
          ∙ ap (λ n. take n (prefix ++ suffix)) (sym size)
          ∙ take-append_seam prefix suffix,
      omega arith,
    )

-- nodes that were scanned and decoded
pub scanned_held : (d : Dialect) (k : Kind) (t : List ℕ) (scanned prefix suffix new : List Node)
    (bytes : List ℕ) (sizes : Sizes) → NodesAreFew → BytesAreFew → NodesAreTheirs
    → Accepts d k t scanned sizes.nodes → length prefix ≡ length (take sizes.nodes scanned)
    → AreDecoded t (take sizes.nodes scanned) prefix bytes sizes.bytes → new ≡ prefix ++ suffix
    → IsHeld d k t new bytes sizes
scanned_held d k t scanned prefix suffix new bytes sizes nodes small theirs a same h e =
    let v = a.value in
    let f = prefix_of scanned prefix suffix new sizes.nodes a.within same e in
    let first = f.0 in (
      v,
      a.only,
      is_small nodes small d k t v a.only,
      record {
        nodes_fit = f.1;
        bytes_fit = h.within;
        describes =
            subst (λ y. DescribesField d (t ++ take sizes.bytes bytes) y v) (sym first)
            (field_carry d t (t ++ take sizes.bytes bytes) (take sizes.nodes scanned) prefix v
            a.describes h.means);
        decoded =
            subst (Each IsDecoded) (sym first) (each_decoded (length t) prefix h.uncoded);
        in_one =
            subst (Each (IsInOne (length t))) (sym first) (each_in_one (length t) prefix h.uncoded);
        count =
            sym (length-take-le sizes.nodes scanned a.within)
            ∙ theirs d t (take sizes.nodes scanned) v a.describes;
      },
    )

-- nodes that were scanned, none of them coded
pub uncoded_held : (d : Dialect) (k : Kind) (t : List ℕ) (scanned prefix suffix new : List Node)
    (bytes : List ℕ) (count : ℕ) → NodesAreFew → BytesAreFew → NodesAreTheirs
    → Accepts d k t scanned count → prefix ≡ take count scanned → Each IsDecoded prefix
    → new ≡ prefix ++ suffix → IsHeld d k t new bytes (record { nodes = count; bytes = 0 })
uncoded_held d k t scanned prefix suffix new bytes count few small theirs a same decoded e =
    let v = a.value in
    let f = prefix_of scanned prefix suffix new count a.within (ap length same) e in (
      v,
      a.only,
      is_small few small d k t v a.only,
      record {
        nodes_fit = f.1;
        bytes_fit = omega arith;
        describes =
            subst (λ y. DescribesField d (t ++ []) y v) (sym (f.0 ∙ same))
            (subst (λ y. DescribesField d y (take count scanned) v) (sym (append-nil t))
            a.describes);
        decoded = subst (Each IsDecoded) (sym f.0) decoded;
        in_one =
            subst (Each (IsInOne (length t))) (sym (f.0 ∙ same))
            (each_in_text d t (take count scanned) v a.describes);
        count =
            sym (length-take-le count scanned a.within)
            ∙ theirs d t (take count scanned) v a.describes;
      },
    )

-- the numbers of nodes and bytes of the parts of a value
pub flat_nodes : (v : Field) (ts : List NodeContent) (n : ℕ) → ts ≡ field_content v → n ≡ length ts
    → n ≡ field_nodes v
flat_nodes v ts n e h = h ∙ ap length e ∙ content_nodes v

pub flat_bytes : (v : Field) (ts : List NodeContent) (n : ℕ) → ts ≡ field_content v
    → n ≡ content_size ts → n ≡ field_bytes v
flat_bytes v ts n e h = h ∙ ap content_size e ∙ content_bytes v

-- the sizes of the parts of a value
pub has_sizes : (d : Dialect) (k : Kind) (t : List ℕ) (v : Field) (ts : List NodeContent)
    (sizes : Sizes) → NodesAreFew → BytesAreFew → IsOnly d k t v → ts ≡ field_content v
    → sizes.nodes ≡ length ts → sizes.bytes ≡ content_size ts → length t + sizes.bytes < 2 ^ 32
    → HasSizes d k t sizes
has_sizes d k t v ts sizes few small only e n b fits =
    (v, only, is_small few small d k t v only, flat_nodes v ts _ e n, flat_bytes v ts _ e b, fits)

-- nodes that were written from the tree
pub written_held : (d : Dialect) (k : Kind) (t : List ℕ) (v : Field) (ts : List NodeContent)
    (nodes : List Node) (bytes : List ℕ) (sizes : Sizes) → NodesAreFew → BytesAreFew
    → IsOnly d k t v → ts ≡ field_content v → sizes.nodes ≡ length ts
    → sizes.bytes ≡ content_size ts → sizes.nodes ≤ length nodes → sizes.bytes ≤ length bytes
    → DescribesField d (t ++ take (content_size ts) bytes) (take (length ts) nodes) v
    → Each IsDecoded (take (length ts) nodes)
    → Each (IsInOne (length t)) (take (length ts) nodes) → IsHeld d k t nodes bytes sizes
written_held d k t v ts nodes bytes sizes few small only e n b nodes_fit bytes_fit h p q = (
  v,
  only,
  is_small few small d k t v only,
  record {
    nodes_fit = nodes_fit;
    bytes_fit = bytes_fit;
    describes =
        subst (λ y. DescribesField d (t ++ take y bytes) (take sizes.nodes nodes) v) (sym b)
        (subst (λ y. DescribesField d (t ++ take (content_size ts) bytes) (take y nodes) v) (sym n)
        h);
    decoded = subst (λ y. Each IsDecoded (take y nodes)) (sym n) p;
    in_one = subst (λ y. Each (IsInOne (length t)) (take y nodes)) (sym n) q;
    count = flat_nodes v ts sizes.nodes e n;
  },
)

-- a value that exceeds the buffers
pub exceeding : (d : Dialect) (k : Kind) (t : List ℕ) (c : Counts) (nodes : List Node)
    (bytes : List ℕ) (old new : Sizes) (refusal : SyntaxRefusal) (status : Status) → NodesAreFew
    → BytesAreFew → HasCounts d k t c
    → Exceeds t c (length nodes) (length bytes) old new (Some status)
    → Flattens (record { nodes = nodes; bytes = bytes; sizes = old; refusal = refusal })
    (record { nodes = nodes; bytes = bytes; sizes = new; refusal = refusal }) t d k status
exceeding d k t c nodes bytes old new refusal TooLong few small h (same, long) = (
  inr (h.value, h.only, subst (λ y. 2 ^ 32 ≤ length t + y) h.bytes long),
  (refl, refl),
  same,
  refl,
)
exceeding d k t c nodes bytes old new refusal TooMany few small h ((e, f, fits), less) = (
  (
    h.value,
    h.only,
    is_small few small d k t h.value h.only,
    e ∙ h.nodes,
    f ∙ h.bytes,
    subst (λ y. length t + y < 2 ^ 32) (sym f) fits,
  ),
  subst (λ y. length nodes < y) (sym e) less,
  (refl, refl),
  refl,
)
exceeding d k t c nodes bytes old new refusal Short few small h ((e, f, fits), enough, less) = (
  (
    h.value,
    h.only,
    is_small few small d k t h.value h.only,
    e ∙ h.nodes,
    f ∙ h.bytes,
    subst (λ y. length t + y < 2 ^ 32) (sym f) fits,
  ),
  subst (λ y. y ≤ length nodes) (sym e) enough,
  subst (λ y. length bytes < y) (sym f) less,
  (refl, refl),
  refl,
)
exceeding d k t c nodes bytes old new refusal status few small h e = absurd e
