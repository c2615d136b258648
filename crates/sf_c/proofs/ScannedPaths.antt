-- Hops that were read from a text into buffers, one after another.
use Rattle.std.proofs.Common.{◌≡◌, ◌≢◌, ℕ, ◌+◌, ◌<◌, ◌≤◌, Bool, true, false, List as Seq, [], ◌∷◌}
use Rattle.std.proofs.Common.{◌++◌, length, take, set, map, Option, Some, None, Ok, refl, sym, ap}
use Rattle.std.proofs.Common.{◌∙◌, subst, arith, append_assoc}
use Rattle.std.proofs.Common.{option_copied, length-append, ◌⊎◌, ⊎_elim, inl, inr}
use Rattle.std.specs.Prelude.{position, is_none, is_some, unwrap_or, IfSome}
use Rattle.std.specs.List.{filter_map, position_or_len}
use Rattle.std.proofs.lemmas.Bool.Decides.{nat_tests}
use Rattle.std.proofs.lemmas.List.{append-nil, length-map, length-set, length-take-le, map-append}
use Rattle.std.proofs.lemmas.List.{take_more_set}
use Rattle.std.proofs.Math.Seq.{take-append-add}
use Rattle.sf_value.specs.declared.dialect.Dialect.{Dialect}
use Rattle.sf_value.specs.declared.value.Kind.TheVariants.{List}
use Rattle.sf_value.specs.declared.value.Member.{Member}
use Rattle.sf_value.specs.Grammar.Fields.{list_of, SpellsField}
use Rattle.sf_value.specs.Grammar.InnerLists.{SpellsMember}
use Rattle.sf_value.specs.Grammar.Series.{SpellsWhole}
use Rattle.sf_parse.proofs.GrammarLaws.{one_value}
use Rattle.sf_view.specs.declared.view.Slice.{Slice}
use Rattle.sf_view.specs.Decoding.{HasBytes}
use Rattle.sf_view.specs.Reads.{ShowsText}
use Rattle.sf_use.specs.declared.cache_status.hop.Hop.{Hop}
use Rattle.sf_use.specs.declared.cache_status.hop.Name.{Name}
use Rattle.sf_use.specs.declared.cache_status.hop.Outcome.{Outcome}
use Rattle.sf_use.specs.declared.cache_status.hop.Outcome.TheVariants.{Hit, Forwarded, Conflict}
use Rattle.sf_use.specs.declared.cache_status.hop.Outcome.TheVariants.{Unsaid}
use Rattle.sf_use.specs.declared.cache_status.view.HopCursor.{HopCursor}
use Rattle.sf_use.specs.declared.cache_status.view.HopView.{HopView}
use Rattle.sf_use.specs.CacheStatus.Hops.{member_hop, unless}
use Rattle.sf_use.specs.CacheStatus.Members.{is_hit, passed_by}
use Rattle.sf_use.specs.CacheStatus.Served.{served}
use Rattle.sf_use.specs.CacheStatus.Views.{BorrowsName, ReadsNextHop, RemainsInPath, ShowsHop}
use Rattle.sf_use.specs.CacheStatus.Views.{ShowsName}
use Rattle.sf_c.specs.declared.cache_status.Path.{Path}
use Rattle.sf_c.specs.declared.hop_scan.PathSizes.{PathSizes}
use Rattle.sf_c.specs.declared.hops.HopNode.{HopNode}
use Rattle.sf_c.specs.declared.span.Span.{Span}
use Rattle.sf_c.specs.Hops.{bytes_of, detail_bytes, end_of, hops_size, outcome_number, says_by}
use Rattle.sf_c.specs.Hops.{hop_content, hop_content_by, hop_size, why_token, PutsSpan}
use Rattle.sf_c.specs.Laws.{HopsAreFew, HopBytesAreFew}
use Rattle.sf_c.specs.Paths.{IsShort, ReportsPath}
use Rattle.sf_c.specs.declared.refusal.SyntaxRefusal.{SyntaxRefusal}
use Rattle.sf_c.specs.declared.status.Status.TheVariants.{Answered, Short}
use Rattle.sf_c.specs.Refusals.{flag_number}
use Rattle.sf_c.specs.declared.hop_scan.ScannedPath.{ScannedPath}
use Rattle.sf_c.specs.ScannedHops.{says_in, CountedSoFar, HasPathSizes, IsCountedTo, IsHopPut}
use Rattle.sf_c.specs.ScannedHops.{IsPathBy, IsPathOf, IsPutTo, IsReadBy, IsReadTo, IsScannedPath}
use Rattle.sf_c.specs.ScannedHops.{PathSoFar, PutsAfter}
use Rattle.sf_c.proofs.HopLemmas.{prefix_of, hop_held, hop_content_is, PutsHop, TextsOf}
use Rattle.sf_c.proofs.ShownHops.{says_shown, token_shown}

-- bytes that were put after those that were used
pub put_after : (old new free t : Seq ℕ) (used count : ℕ) (p : Span) → used ≤ length old
    → new ≡ take used old ++ free → count ≤ length free → take count free ≡ t → p.at ≡ used
    → p.length ≡ count → PutsAfter old new used t p
put_after old new free t used count p fits e small is at long =
    let prefix : length (take used old) ≡ used = length-take-le used old fits in
    let end : end_of p ≡ length (take used old) + count = omega arith in (
      ap (λ n. take n new) end
          ∙ ap (take (length (take used old) + count)) e
          ∙ take-append-add (take used old) free count
          ∙ ap (λ y. take used old ++ y) is,
      omega arith,
      long ∙ sym (length-take-le count free small) ∙ ap length is,
    )

pub none_read : (k : Dialect) (text : Seq ℕ) (c : HopCursor) (nodes : Seq HopNode) (bytes : Seq ℕ)
    → ((ms : Seq Member) → RemainsInPath c ms → SpellsWhole (SpellsMember k) text ms)
    → PathSoFar k text c nodes bytes 0 0 None
none_read k text c nodes bytes h = record {
  members = [];
  path = [];
  means = refl;
  fits = omega arith;
  within = omega arith;
  describes = refl;
  held = (tt, refl, refl, refl);
  place = refl;
  reads = h;
}

served_hit : (hs : Seq Hop) (h : Hop) → is_hit h.outcome ≡ true
    → served (hs ++ h ∷ []) ≡ Some (length hs)
served_hit [] h e = rw e
served_hit (g ∷ hs) h e = rw (served_hit hs h e)

served_other : (hs : Seq Hop) (h : Hop) → is_hit h.outcome ≡ false
    → served (hs ++ h ∷ []) ≡ served hs
served_other [] h e = rw e
served_other (g ∷ hs) h e = rw (served_other hs h e)

-- the last hit after one more hop, by the number of its outcome
served_more : (hs : Seq Hop) (h : Hop) (number place : ℕ) (last next : Option ℕ)
    → number ≡ outcome_number h.outcome → place ≡ length hs → last ≡ served hs
    → (number ≡ 1 → next ≡ Some place) → (number ≢ 1 → next ≡ last)
    → next ≡ served (hs ++ h ∷ [])
served_more hs h number place last next e at before hit other = by h.outcome refl
  where
    miss : (o : Outcome) → h.outcome ≡ o → is_hit o ≡ false → (outcome_number o ≡ 1 → ⊥)
        → next ≡ served (hs ++ h ∷ [])
    miss o f none never =
        other (λ one. never (sym (e ∙ ap outcome_number f) ∙ one)) ∙ before
        ∙ sym (served_other hs h (ap is_hit f ∙ none))

    by : (o : Outcome) → h.outcome ≡ o → next ≡ served (hs ++ h ∷ [])
    by Hit f =
        hit (e ∙ ap outcome_number f) ∙ ap Some at ∙ sym (served_hit hs h (ap is_hit f))
    by (Forwarded p) f = miss (Forwarded p) f refl (λ y. omega arith)
    by (Conflict p) f = miss (Conflict p) f refl (λ y. omega arith)
    by Unsaid f = miss Unsaid f refl (λ y. omega arith)

-- what a hop with its bytes makes of the structs and bytes so far
put_hop : (old new : Seq ℕ) (used : ℕ) (n : HopNode) (h : Hop) (p : IsHopPut old new used n h)
    → PutsHop (take used old) p.with_name p.with_why p.with_key (take (end_of n.detail) new)
    (bytes_of h.name) (why_token (passed_by h.outcome)) (unwrap_or h.key [])
    (detail_bytes h.detail) n
put_hop old new used n h p =
    record { name = p.name; why = p.why; key = p.key; detail = p.detail }

-- one more hop
pub hop_read : (k : Dialect) (text : Seq ℕ) (c e : HopCursor) (v : HopView) (nodes : Seq HopNode)
    (old new : Seq ℕ) (count used : ℕ) (n : HopNode) (last next : Option ℕ)
    → PathSoFar k text c nodes old count used last → ReadsNextHop c e (Some v)
    → count < length nodes
    → ((h : Hop) → ShowsHop v h → IsHopPut old new used n h) → end_of n.detail ≤ length new
    → (n.outcome ≡ 1 → next ≡ Some count) → (n.outcome ≢ 1 → next ≡ last)
    → PathSoFar k text e (set nodes count n) new (count + 1) (end_of n.detail) next
hop_read k text c e v nodes old new count used n last next s (m, h, means, shown, remains) small put
    within hit other =
    let p = put h shown in
    let texts : TextsOf h (bytes_of h.name) (why_token (passed_by h.outcome)) (unwrap_or h.key [])
    (detail_bytes h.detail) = record { name = refl; why = refl; key = refl; detail = refl } in
    let pushed = take_more_set nodes count n small in
    let long = length-set nodes count n in
    let many : count ≡ length s.path =
    sym (length-take-le count nodes s.fits)
    ∙ sym (length-map (take count nodes) (hop_content_by (take used old)))
    ∙ ap length s.describes ∙ length-map s.path hop_content in
    let hop = put_hop old new used n h p in
    let contents = hop_content_is hop texts p.says (take count nodes) _ pushed s.held.0 in
    record {
      members = s.members ++ m ∷ [];
      path = s.path ++ h ∷ [];
      means =
          map-append member_hop s.members (m ∷ [])
          ∙ ap (λ y. y ++ member_hop m ∷ []) s.means
          ∙ ap (λ y. map Some s.path ++ y ∷ []) means
          ∙ sym (map-append Some s.path (h ∷ []));
      fits = omega arith;
      within = within;
      describes =
          contents
          ∙ ap (λ y. y ++ hop_content h ∷ []) s.describes
          ∙ sym (map-append hop_content s.path (h ∷ []));
      held = hop_held hop texts p.says (take count nodes) _ pushed s.held;
      place =
          served_more s.path h n.outcome count last next (ap (λ y. y.outcome) p.says) many s.place
          hit other;
      reads = λ ms r.
          subst (SpellsWhole (SpellsMember k) text) (sym (append_assoc s.members (m ∷ []) ms))
          (s.reads (m ∷ ms) (remains ms r));
    }

-- members that each have a hop
none_nameless : (ms : Seq Member) (hs : Seq Hop) → map member_hop ms ≡ map Some hs
    → position_or_len (λ m. is_none (member_hop m)) ms ≡ length ms
none_nameless [] hs e = refl
none_nameless (m ∷ ms) [] e = absurd cc
none_nameless (m ∷ ms) (h ∷ hs) e =
    let first : member_hop m ≡ Some h = cc in
    let rest : map member_hop ms ≡ map Some hs = cc in
    rw (first, none_nameless ms hs rest) (omega arith)

all_named : (ms : Seq Member) (hs : Seq Hop) → map member_hop ms ≡ map Some hs
    → position (λ m. is_none (member_hop m)) ms ≡ None
all_named ms hs e = rw (none_nameless ms hs e) (grind (arith, nat_tests))

each_meant : (ms : Seq Member) (hs : Seq Hop) → map member_hop ms ≡ map Some hs
    → filter_map member_hop ms ≡ hs
each_meant [] [] e = refl
each_meant (m ∷ ms) (h ∷ hs) e =
    let first : member_hop m ≡ Some h = cc in
    let rest : map member_hop ms ≡ map Some hs = cc in
    rw (first, each_meant ms hs rest) refl
each_meant ms hs e = absurd cc

-- the path of a text that was read to its end
pub path_read : (k : Dialect) (text : Seq ℕ) (c e : HopCursor) (o : Option HopView)
    (nodes : Seq HopNode)
    (bytes : Seq ℕ) (s : PathSizes) → PathSoFar k text c nodes bytes s.hops s.bytes s.served
    → ReadsNextHop c e o → o ≡ None → IsPathOf k text nodes bytes s
path_read k text c e o nodes bytes z s r none =
    let left : RemainsInPath c [] = subst (ReadsNextHop c e) none r in
    let spelled : SpellsField k List text (list_of s.members) =
    subst (SpellsWhole (SpellsMember k) text) (append-nil s.members) (s.reads [] left) in
    let used : length (take z.bytes bytes) ≡ z.bytes = length-take-le z.bytes bytes s.within in
    let many : length (take z.hops nodes) ≡ z.hops = length-take-le z.hops nodes s.fits in
    record {
      value = list_of s.members;
      path = s.path;
      only = record {
        spelled = spelled;
        only = λ w i. one_value k List text w (list_of s.members) i spelled;
      };
      means =
          ap (λ o. unless o (filter_map member_hop s.members)) (all_named s.members s.path s.means)
          ∙ ap Ok (each_meant s.members s.path s.means);
      count =
          sym many ∙ sym (length-map (take z.hops nodes) (hop_content_by (take z.bytes bytes)))
          ∙ ap length s.describes ∙ length-map s.path hop_content;
      size = sym used ∙ s.held.1 ∙ ap hops_size s.describes;
      place = s.place;
      hops =
          prefix_of (map hop_content s.path) nodes (take z.hops nodes) bytes (take z.bytes bytes)
          s.describes s.held (ap (λ k. take k nodes) many) (ap (λ k. take k bytes) used);
    }

-- a hop whose bytes were put, each after those before it
pub hop_is_put : (v : HopView) (h : Hop) (b0 b1 b2 b3 b4 : Seq ℕ) (used e1 e2 e3 : ℕ)
    (name why key detail : Span) (n : HopNode) (s1 s2 s3 s4 : Slice) → ShowsHop v h
    → ((d : Dialect) (m : Name) → BorrowsName d v.name m → HasBytes d s1 (bytes_of m))
    → ((d : Dialect) → HasBytes d s2 (unwrap_or (option_copied v.params.fwd) []))
    → ((d : Dialect) (t : Option (Seq ℕ)) → ShowsText d v.params.key t
    → HasBytes d s3 (unwrap_or t []))
    → ((d : Dialect) (m : Option Name) → ShowsName d v.params.detail m
    → HasBytes d s4 (detail_bytes m))
    → ((d : Dialect) (t : Seq ℕ) → HasBytes d s1 t → PutsAfter b0 b1 used t name)
    → ((d : Dialect) (t : Seq ℕ) → HasBytes d s2 t → PutsAfter b1 b2 e1 t why)
    → ((d : Dialect) (t : Seq ℕ) → HasBytes d s3 t → PutsAfter b2 b3 e2 t key)
    → ((d : Dialect) (t : Seq ℕ) → HasBytes d s4 t → PutsAfter b3 b4 e3 t detail)
    → e1 ≡ end_of name → e2 ≡ end_of why → e3 ≡ end_of key → n.name ≡ name → n.why_token ≡ why
    → n.key ≡ key → n.detail ≡ detail → says_by n ≡ says_in v → IsHopPut b0 b4 used n h
hop_is_put v h b0 b1 b2 b3 b4 used e1 e2 e3 name why key detail n s1 s2 s3 s4 s f1 f2 f3 f4 p1 p2 p3
    p4 x1 x2 x3 y1 y2 y3 y4 says =
    let d = s.dialect in
    let q1 : PutsAfter b0 b1 used (bytes_of h.name) name =
    subst (λ x. PutsAfter b0 b1 used (bytes_of x.name) name) (sym s.made)
    (p1 d (bytes_of s.name) (f1 d s.name s.shows_name)) in
    let q2 : PutsAfter b1 b2 e1 (why_token (passed_by h.outcome)) why =
    subst (λ t. PutsAfter b1 b2 e1 t why) (token_shown v h s)
    (p2 d (unwrap_or (option_copied v.params.fwd) []) (f2 d)) in
    let q3 : PutsAfter b2 b3 e2 (unwrap_or h.key []) key =
    subst (λ x. PutsAfter b2 b3 e2 (unwrap_or x.key []) key) (sym s.made)
    (p3 d (unwrap_or s.parts.key []) (f3 d s.parts.key s.shows_parts.key)) in
    let q4 : PutsAfter b3 b4 e3 (detail_bytes h.detail) detail =
    subst (λ x. PutsAfter b3 b4 e3 (detail_bytes x.detail) detail) (sym s.made)
    (p4 d (detail_bytes s.parts.detail) (f4 d s.parts.detail s.shows_parts.detail)) in
    record {
      with_name = take (end_of name) b1;
      with_why = take (end_of why) b2;
      with_key = take (end_of key) b3;
      name = subst (PutsSpan (take used b0) (take (end_of name) b1) (bytes_of h.name)) (sym y1) q1;
      why =
          subst
          (PutsSpan (take (end_of name) b1) (take (end_of why) b2)
          (why_token (passed_by h.outcome)))
          (sym y2) (subst (λ e. PutsAfter b1 b2 e (why_token (passed_by h.outcome)) why) x1 q2);
      key =
          subst (PutsSpan (take (end_of why) b2) (take (end_of key) b3) (unwrap_or h.key []))
          (sym y3) (subst (λ e. PutsAfter b2 b3 e (unwrap_or h.key []) key) x2 q3);
      detail =
          subst
          (λ p. PutsSpan (take (end_of key) b3) (take (end_of p) b4) (detail_bytes h.detail) p)
          (sym y4) (subst (λ e. PutsAfter b3 b4 e (detail_bytes h.detail) detail) x3 q4);
      says = says ∙ says_shown v h s;
    }

-- the struct of a path after its sizes were set
abbrev pub path_by : ℕ → PathSizes → Path
path_by nameless s = record {
  hops = s.hops;
  bytes = s.bytes;
  served = unwrap_or s.served 0;
  nameless = nameless;
  is_served = flag_number (is_some s.served);
}

pub read_few : (k : Dialect) (t : Seq ℕ) (nodes : Seq HopNode) (bytes : Seq ℕ) (s : PathSizes)
    (p : Path)
    (nameless : ℕ) → HopsAreFew → HopBytesAreFew → IsPathOf k t nodes bytes s
    → p ≡ path_by nameless s → IsShort t p
read_few k t nodes bytes s p nameless few small r e =
    let count = ap (λ y. y.hops) e ∙ r.count in
    let size = ap (λ y. y.bytes) e ∙ r.size in
    let a = few k List t r.value r.path r.only.spelled r.means in
    let b = small k List t r.value r.path r.only.spelled r.means in
    (omega arith, omega arith)

-- the lengths of the texts of a hop together
pub hop_long : (v : HopView) (h : Hop) (n1 n2 n3 n4 : ℕ) (s1 s2 s3 s4 : Slice) → ShowsHop v h
    → ((d : Dialect) (m : Name) → BorrowsName d v.name m → HasBytes d s1 (bytes_of m))
    → ((d : Dialect) → HasBytes d s2 (unwrap_or (option_copied v.params.fwd) []))
    → ((d : Dialect) (t : Option (Seq ℕ)) → ShowsText d v.params.key t
    → HasBytes d s3 (unwrap_or t []))
    → ((d : Dialect) (m : Option Name) → ShowsName d v.params.detail m
    → HasBytes d s4 (detail_bytes m))
    → ((d : Dialect) (t : Seq ℕ) → HasBytes d s1 t → n1 ≡ length t)
    → ((d : Dialect) (t : Seq ℕ) → HasBytes d s2 t → n2 ≡ length t)
    → ((d : Dialect) (t : Seq ℕ) → HasBytes d s3 t → n3 ≡ length t)
    → ((d : Dialect) (t : Seq ℕ) → HasBytes d s4 t → n4 ≡ length t)
    → n1 + n2 + n3 + n4 ≡ hop_size (hop_content h)
hop_long v h n1 n2 n3 n4 s1 s2 s3 s4 s f1 f2 f3 f4 p1 p2 p3 p4 =
    let d = s.dialect in
    let q1 : n1 ≡ length (bytes_of h.name) =
    p1 d (bytes_of s.name) (f1 d s.name s.shows_name)
    ∙ ap (λ x. length (bytes_of x.name)) (sym s.made) in
    let q2 : n2 ≡ length (why_token (passed_by h.outcome)) =
    p2 d (unwrap_or (option_copied v.params.fwd) []) (f2 d) ∙ ap length (token_shown v h s) in
    let q3 : n3 ≡ length (unwrap_or h.key []) =
    p3 d (unwrap_or s.parts.key []) (f3 d s.parts.key s.shows_parts.key)
    ∙ ap (λ x. length (unwrap_or x.key [])) (sym s.made) in
    let q4 : n4 ≡ length (detail_bytes h.detail) =
    p4 d (detail_bytes s.parts.detail) (f4 d s.parts.detail s.shows_parts.detail)
    ∙ ap (λ x. length (detail_bytes x.detail)) (sym s.made) in
    omega arith

-- the number of what the cache did
pub outcome_shown : (v : HopView) (h : Hop) → ShowsHop v h
    → (says_in v).outcome ≡ outcome_number h.outcome
outcome_shown v h s = ap (λ y. y.outcome) (says_shown v h s)

hops_size_push : (hs : Seq Hop) (h : Hop)
    → hops_size (map hop_content (hs ++ h ∷ []))
    ≡ hops_size (map hop_content hs) + hop_size (hop_content h)
hops_size_push [] h = omega arith
hops_size_push (g ∷ hs) h = let i = hops_size_push hs h in omega arith

pub none_counted : (k : Dialect) (text : Seq ℕ) (c : HopCursor) (z : PathSizes)
    → ((ms : Seq Member) → RemainsInPath c ms → SpellsWhole (SpellsMember k) text ms)
    → z.hops ≡ 0 → z.bytes ≡ 0 → z.served ≡ None → CountedSoFar k text c z
none_counted k text c z h e f g = record {
  members = [];
  path = [];
  means = refl;
  count = e;
  size = f;
  place = g;
  reads = h;
}

pub hop_counted : (k : Dialect) (text : Seq ℕ) (c e : HopCursor) (v : HopView) (old new : PathSizes)
    → CountedSoFar k text c old → ReadsNextHop c e (Some v) → new.hops ≡ old.hops + 1
    → ((h : Hop) → ShowsHop v h → new.bytes ≡ old.bytes + hop_size (hop_content h))
    → ((h : Hop) → ShowsHop v h → outcome_number h.outcome ≡ 1 → new.served ≡ Some old.hops)
    → ((h : Hop) → ShowsHop v h → outcome_number h.outcome ≢ 1 → new.served ≡ old.served)
    → CountedSoFar k text e new
hop_counted k text c e v old new s (m, h, means, shown, remains) more bytes hit other =
    let i = s.count in
    let j = s.size in
    let long = length-append s.path (h ∷ []) in
    let own = bytes h shown in
    let sum = hops_size_push s.path h in
    record {
      members = s.members ++ m ∷ [];
      path = s.path ++ h ∷ [];
      means =
          map-append member_hop s.members (m ∷ [])
          ∙ ap (λ y. y ++ member_hop m ∷ []) s.means
          ∙ ap (λ y. map Some s.path ++ y ∷ []) means
          ∙ sym (map-append Some s.path (h ∷ []));
      count = omega arith;
      size = omega arith;
      place =
          served_more s.path h (outcome_number h.outcome) old.hops old.served new.served refl
          s.count s.place (hit h shown) (other h shown);
      reads = λ ms r.
          subst (SpellsWhole (SpellsMember k) text) (sym (append_assoc s.members (m ∷ []) ms))
          (s.reads (m ∷ ms) (remains ms r));
    }

-- what was put is counted
pub put_counted : (k : Dialect) (text : Seq ℕ) (c : HopCursor) (nodes : Seq HopNode)
    (bytes : Seq ℕ) (z : PathSizes) → IsPutTo k text c nodes bytes z → IsCountedTo k text c z
put_counted k text c nodes bytes z s = record {
  members = s.members;
  path = s.path;
  means = s.means;
  count =
      sym (length-take-le z.hops nodes s.fits)
      ∙ sym (length-map (take z.hops nodes) (hop_content_by (take z.bytes bytes)))
      ∙ ap length s.describes ∙ length-map s.path hop_content;
  size =
      sym (length-take-le z.bytes bytes s.within) ∙ s.held.1 ∙ ap hops_size s.describes;
  place = s.place;
  reads = s.reads;
}

-- whatever was put or counted is counted
pub read_counted : (k : Dialect) (text : Seq ℕ) (c : HopCursor) (nodes : Seq HopNode)
    (bytes : Seq ℕ) (s : ScannedPath) → IsReadTo k text c nodes bytes s
    → IsCountedTo k text c s.sizes
read_counted k text c nodes bytes s r = by s.is_put r
  where
    by : (b : Bool) → IsReadBy b k text c nodes bytes s.sizes → IsCountedTo k text c s.sizes
    by true r = put_counted k text c nodes bytes s.sizes r
    by false r = r

-- there is room for more bytes only where those before are put
pub room_left : (k : Dialect) (text : Seq ℕ) (c : HopCursor) (nodes : Seq HopNode)
    (bytes : Seq ℕ) (s : ScannedPath) → IsReadTo k text c nodes bytes s → s.is_put ≡ true
    → s.sizes.bytes ≤ length bytes
room_left k text c nodes bytes s r e =
    (subst (λ b. IsReadBy b k text c nodes bytes s.sizes) e r).within

pub path_counted : (k : Dialect) (text : Seq ℕ) (c e : HopCursor) (o : Option HopView)
    (z : PathSizes) → CountedSoFar k text c z → ReadsNextHop c e o → o ≡ None
    → HasPathSizes k text z
path_counted k text c e o z s r none =
    let left : RemainsInPath c [] = subst (ReadsNextHop c e) none r in
    let spelled : SpellsField k List text (list_of s.members) =
    subst (SpellsWhole (SpellsMember k) text) (append-nil s.members) (s.reads [] left) in
    record {
      value = list_of s.members;
      path = s.path;
      only = record {
        spelled = spelled;
        only = λ w i. one_value k List text w (list_of s.members) i spelled;
      };
      means =
          ap (λ o. unless o (filter_map member_hop s.members)) (all_named s.members s.path s.means)
          ∙ ap Ok (each_meant s.members s.path s.means);
      count = s.count;
      size = s.size;
      place = s.place;
    }

pub path_scanned : (k : Dialect) (text : Seq ℕ) (c e : HopCursor) (o : Option HopView)
    (nodes : Seq HopNode) (bytes : Seq ℕ) (s : ScannedPath) → IsReadTo k text c nodes bytes s
    → ReadsNextHop c e o → o ≡ None → IsScannedPath k text nodes bytes s
path_scanned k text c e o nodes bytes s r n none = by s.is_put r
  where
    by : (b : Bool) → IsReadBy b k text c nodes bytes s.sizes
        → IsPathBy b k text nodes bytes s.sizes
    by true r = path_read k text c e o nodes bytes s.sizes r n none
    by false r = path_counted k text c e o s.sizes r n none

-- one more hop was counted
pub counted_more : (o : Option ScannedPath) (v : HopView) (old : ScannedPath)
    (nodes nodes' : Seq HopNode) (bytes bytes' : Seq ℕ) → IfSome o (λ s. (d : Dialect) (t : Seq ℕ) (c e : HopCursor) (ns : Seq HopNode) (bs : Seq ℕ)
    → IsCountedTo d t c old.sizes → ReadsNextHop c e (Some v) → IsReadTo d t e ns bs s)
    → IfSome o (λ s. (d : Dialect) (t : Seq ℕ) (c e : HopCursor)
    → IsReadTo d t c nodes bytes old → ReadsNextHop c e (Some v) → IsReadTo d t e nodes' bytes' s)
counted_more None v old nodes nodes' bytes bytes' m = tt
counted_more (Some s) v old nodes nodes' bytes bytes' m = λ d t c e r n.
    m d t c e nodes' bytes' (read_counted d t c nodes bytes old r) n

pub counted_few : (k : Dialect) (t : Seq ℕ) (s : PathSizes) (p : Path) (nameless : ℕ)
    → HopsAreFew → HopBytesAreFew → HasPathSizes k t s → p ≡ path_by nameless s → IsShort t p
counted_few k t s p nameless few small r e =
    let count = ap (λ y. y.hops) e ∙ r.count in
    let size = ap (λ y. y.bytes) e ∙ r.size in
    let a = few k List t r.value r.path r.only.spelled r.means in
    let b = small k List t r.value r.path r.only.spelled r.means in
    (omega arith, omega arith)

-- a path that is too long for the buffers
pub counted_short : (k : Dialect) (t : Seq ℕ) (s : PathSizes) (nodes nodes' : Seq HopNode)
    (bytes bytes' : Seq ℕ) (old new : Path) (refusal : SyntaxRefusal)
    → length nodes' ≡ length nodes → length bytes' ≡ length bytes
    → HasPathSizes k t s → new ≡ path_by old.nameless s
    → (length nodes' < s.hops) ⊎ (length bytes' < s.bytes)
    → ReportsPath (record { hops = nodes; bytes = bytes; path = old; refusal = refusal })
    (record { hops = nodes'; bytes = bytes'; path = new; refusal = refusal }) t k Short
counted_short k t s nodes nodes' bytes bytes' old new refusal f g r e short = (
  r.value,
  r.path,
  r.only,
  r.means,
  (
    ap (λ y. y.hops) e ∙ r.count,
    ap (λ y. y.bytes) e ∙ r.size,
    ap (λ y. y.served) e ∙ ap (λ o. unwrap_or o 0) r.place,
    ap (λ y. y.is_served) e ∙ ap (λ o. flag_number (is_some o)) r.place,
  ),
  ap (λ y. y.nameless) e,
  ⊎_elim (λ h. inl (let many = ap (λ y. y.hops) e in omega (arith, h, f)))
      (λ h. inr (let long = ap (λ y. y.bytes) e in omega (arith, h, g))) short,
  (f, g),
  refl,
)

-- a path that the buffers hold
pub put_answered : (k : Dialect) (t : Seq ℕ) (s : PathSizes) (nodes nodes' : Seq HopNode)
    (bytes bytes' : Seq ℕ) (old new : Path) (refusal : SyntaxRefusal)
    → length nodes' ≡ length nodes → length bytes' ≡ length bytes
    → IsPathOf k t nodes' bytes' s → new ≡ path_by old.nameless s
    → ReportsPath (record { hops = nodes; bytes = bytes; path = old; refusal = refusal })
    (record { hops = nodes'; bytes = bytes'; path = new; refusal = refusal }) t k Answered
put_answered k t s nodes nodes' bytes bytes' old new refusal f g r e = (
  r.value,
  r.path,
  r.only,
  r.means,
  (
    ap (λ y. y.hops) e ∙ r.count,
    ap (λ y. y.bytes) e ∙ r.size,
    ap (λ y. y.served) e ∙ ap (λ o. unwrap_or o 0) r.place,
    ap (λ y. y.is_served) e ∙ ap (λ o. flag_number (is_some o)) r.place,
  ),
  ap (λ y. y.nameless) e,
  r.hops,
  (f, g),
  refl,
)
