-- Byte sequences are read by their machine.
use Rattle.std.proofs.Common.{◌≡◌, ℕ, zero, suc, ◌+◌, ◌-◌, ◌*◌, ◌/◌, ◌%◌, ◌<◌, ◌≤◌, Bool, true}
use Rattle.std.proofs.Common.{false, ◌==◌, nat_lt, ◌&&◌, if◌then◌else◌, List, [], ◌∷◌, ◌++◌}
use Rattle.std.proofs.Common.{replicate, Option, Some, None, is_some, ⊎_elim, refl, sym, ap, ap₂}
use Rattle.std.proofs.Common.{◌∙◌, subst, append-nil, append_assoc, eqb-true, arith}
use Rattle.sf_value.specs.Grammar.Words.{Every, allow}
use Rattle.sf_value.specs.Grammar.ByteSequences.{letter, unpadded, Pads, Sextets}
use Rattle.sf_parse.specs.Machine.Language.{Reads, Live}
use Rattle.sf_value.specs.Digits.{sextet}
use Rattle.sf_parse.specs.Machine.Blobs.{Held, H0, H1, H2, H3, letters, is_last, last_bytes}
use Rattle.sf_parse.specs.Machine.Blobs.{lacking, BlobState, Group, Padded, Ended, ResidualBlob}
use Rattle.sf_parse.specs.Machine.Blobs.{GoodBlob, grown, pad_step, grow_step, blob_step}
use Rattle.sf_parse.specs.Machine.Blobs.{blob_finish}
use Rattle.sf_value.proofs.Words.{allow_cases, option_or_cases}
use Rattle.sf_value.proofs.DigitValues.{letter_read, read_letter, letter_same, not_letter}
use Rattle.sf_parse.proofs.Prefixes.{every_split}
use Rattle.sf_parse.proofs.Quads.{byte_small}
use Rattle.sf_parse.proofs.Quads.{small_byte, pads_letter, first_small, second_small, third_small}
use Rattle.sf_parse.proofs.Quads.{fourth_small, alone_small, last_small, one_byte, two_bytes}
use Rattle.sf_parse.proofs.Quads.{quad, quad_from, quad_gives}

-- the end
pads_taken : (bytes : List ℕ) (n b : ℕ) (u v : List ℕ) → Pads n (b ∷ u) → v ≡ bytes
    → (s : BlobState) × (pad_step bytes n b ≡ Some s) × ResidualBlob s u v
pads_taken bytes n b u v (zero, h, e) i = (
  Ended bytes,
  grind arith,
  (
    (let e' : u ≡ [] = cc in
        e'),
    i,
  ),
)
pads_taken bytes n b u v (suc m, h, e) i =
    let e1 : b ≡ 61 = cc in
    let e2 : u ≡ replicate m 61 ++ 58 ∷ [] = cc in
    (Padded bytes (n - 1), pad_go bytes n b (omega arith) e1, ((m, omega arith, e2), i))
  where
    pad_go : (bytes : List ℕ) (n b : ℕ) → 0 < n → b ≡ 61
        → pad_step bytes n b ≡ Some (Padded bytes (n - 1))
    pad_go bytes n b h e = grind arith

pads_gives : (bytes : List ℕ) (n b : ℕ) (u v : List ℕ) (s : BlobState) → pad_step bytes n b ≡ Some s
    → ResidualBlob s u v → Pads n (b ∷ u) × (v ≡ bytes)
pads_gives bytes n b u v s e h = ⊎_elim
    (λ k. let c = allow_cases (b == 58) (Ended bytes) s k in
    let r = subst (λ y. ResidualBlob y u v) c.1 h in
    ((0, omega arith, ap₂ (λ x y. x ∷ y) (eqb-true b 58 c.0) r.0), r.1))
    (λ k. let c = allow_cases (b == 61 && nat_lt 0 n) (Padded bytes (n - 1)) s k.1 in
    let r = subst (λ y. ResidualBlob y u v) c.1 h in
    let t = both_tests b n c.0 in
    ((suc r.0.0, room r.0.0 n r.0.1 t.1, ap₂ (λ x y. x ∷ y) t.0 r.0.2), r.1))
    (option_or_cases (allow (b == 58) (Ended bytes))
    (allow (b == 61 && nat_lt 0 n) (Padded bytes (n - 1))) s e)
  where
    both_tests : (b n : ℕ) → (b == 61 && nat_lt 0 n) ≡ true → (b ≡ 61) × (0 < n)
    both_tests b n e = grind arith

    room : (m n : ℕ) → m ≤ n - 1 → 0 < n → suc m ≤ n
    room m n h k = omega arith

-- What is in a group when no further letter comes
IsLast : Held → List ℕ → List ℕ → Type 0
IsLast h s t = (is_last h ≡ true) × (s ≡ last_bytes h) × Pads (lacking h) t

-- no letter, though there should be one
no_letter : {C : Type 0} (x b : ℕ) → x < 64 → sextet b ≡ None → letter x ≡ b → C
no_letter x b h n e = absurd (not_letter x b h e n)

-- no letter: the group is the last one
last : (h : Held) (b : ℕ) (u s : List ℕ) → GoodBlob (Group [] h) → sextet b ≡ None
    → Sextets (letters h ++ b ∷ u) s → IsLast h s (b ∷ u)
unfolding IsLast
last H0 b u [] g n (low, suffix, lt, e, f, p) = (refl, refl, subst (Pads 0) (sym e) p)
last H0 b u (a ∷ []) g n (low, suffix, lt, e, f, p) =
    no_letter (a / 4) b (first_small a (byte_small a f.0)) n (cc)
last H0 b u (a ∷ c ∷ []) g n (low, suffix, lt, e, f, p) =
    no_letter (a / 4) b (first_small a (byte_small a f.0)) n (cc)
last H0 b u (a ∷ c ∷ d ∷ s) g n (low, suffix, lt, e, f, p) =
    no_letter (a / 4) b (first_small a (byte_small a f.0)) n (cc)
last (H1 x) b u [] g n (low, suffix, lt, e, f, p) =
    absurd (pads_letter 0 x (b ∷ u) g (subst (Pads 0) (sym e) p))
last (H1 x) b u (a ∷ []) g n (low, suffix, lt, e, f, p) =
    no_letter (a % 4 * 16 + low) b (alone_small a low lt) n (cc)
last (H1 x) b u (a ∷ c ∷ []) g n (low, suffix, lt, e, f, p) =
    no_letter (a % 4 * 16 + c / 16) b (second_small a c (byte_small c f.1.0)) n (cc)
last (H1 x) b u (a ∷ c ∷ d ∷ s) g n (low, suffix, lt, e, f, p) =
    no_letter (a % 4 * 16 + c / 16) b (second_small a c (byte_small c f.1.0)) n (cc)
last (H2 x y) b u [] g n (low, suffix, lt, e, f, p) =
    absurd (pads_letter 0 x (letter y ∷ b ∷ u) g.0 (subst (Pads 0) (sym e) p))
last (H2 x y) b u (a ∷ []) g n (low, suffix, lt, e, f, p) =
    let e1 : letter (a / 4) ≡ letter x = cc in
    let e2 : letter (a % 4 * 16 + low) ≡ letter y = cc in
    let e3 : suffix ≡ b ∷ u = cc in
    let k = one_byte a low x y lt (letter_same (a / 4) x (first_small a (byte_small a f.0)) g.0 e1)
    (letter_same (a % 4 * 16 + low) y (alone_small a low lt) g.1 e2) in
    (refl, ap (λ y. y ∷ []) k, subst (Pads 2) e3 p)
last (H2 x y) b u (a ∷ c ∷ []) g n (low, suffix, lt, e, f, p) =
    no_letter (c % 16 * 4 + low) b (last_small c low lt) n (cc)
last (H2 x y) b u (a ∷ c ∷ d ∷ s) g n (low, suffix, lt, e, f, p) =
    no_letter (c % 16 * 4 + d / 64) b (third_small c d (byte_small d f.1.1.0)) n (cc)
last (H3 x y z) b u [] g n (low, suffix, lt, e, f, p) =
    absurd (pads_letter 0 x (letter y ∷ letter z ∷ b ∷ u) g.0 (subst (Pads 0) (sym e) p))
last (H3 x y z) b u (a ∷ []) g n (low, suffix, lt, e, f, p) =
    absurd (pads_letter 2 z (b ∷ u) g.2 (subst (Pads 2) (let e' : suffix
    ≡ letter z ∷ b ∷ u = cc in
    e') p))
last (H3 x y z) b u (a ∷ c ∷ []) g n (low, suffix, lt, e, f, p) =
    let e1 : letter (a / 4) ≡ letter x = cc in
    let e2 : letter (a % 4 * 16 + c / 16) ≡ letter y = cc in
    let e3 : letter (c % 16 * 4 + low) ≡ letter z = cc in
    let e4 : suffix ≡ b ∷ u = cc in
    let small = byte_small c f.1.0 in
    let k = two_bytes a c low x y z lt small
    (letter_same (a / 4) x (first_small a (byte_small a f.0)) g.0 e1)
    (letter_same (a % 4 * 16 + c / 16) y (second_small a c small) g.1 e2)
    (letter_same (c % 16 * 4 + low) z (last_small c low lt) g.2 e3) in
    (refl, ap₂ (λ p q. p ∷ q ∷ []) k.0 k.1, subst (Pads 1) e4 p)
last (H3 x y z) b u (a ∷ c ∷ d ∷ s) g n (low, suffix, lt, e, f, p) =
    no_letter (d % 64) b (fourth_small d) n (cc)

group_taken : (bytes : List ℕ) (h : Held) (b : ℕ) (u v : List ℕ) → GoodBlob (Group [] h)
    → ResidualBlob (Group bytes h) (b ∷ u) v
    → (t : BlobState) × (blob_step (Group bytes h) b ≡ Some t) × ResidualBlob t u v
unfolding IsLast quad
group_taken bytes h b u v g (s, sx, i) = go (sextet b) refl
  where
    more : (h : Held) (w : ℕ) → GoodBlob (Group [] h) → w < 64
        → Sextets (letters h ++ letter w ∷ u) s → ResidualBlob (grown bytes h w) u v
    more (H3 x y z) w g k sx = let q = quad_from x y z w u s g.0 g.1 g.2 k sx in (
      q.0,
      q.1,
      i
          ∙ ap (λ y. bytes ++ y) q.2 ∙ sym (append_assoc bytes (quad x y z w) q.0),
    )
    more h w g k sx = (s, sx, i)

    go : (o : Option ℕ) → sextet b ≡ o
        → (t : BlobState) × (blob_step (Group bytes h) b ≡ Some t) × ResidualBlob t u v
    go (Some w) e = let r = read_letter b w e in (
      grown bytes h w,
      ap (λ o. grow_step bytes h o b) e,
      more h w g r.1 (subst (λ y. Sextets (letters h ++ y ∷ u) s) (sym r.0) sx),
    )
    go None e =
        let l = last h b u s g e sx in
        let p = pads_taken (bytes ++ last_bytes h) (lacking h) b u v l.2 (i
        ∙ ap (λ y. bytes ++ y) l.1) in (
          p.0,
          ap (λ o. grow_step bytes h o b) e
              ∙ ap (λ y. if y then pad_step (bytes ++ last_bytes h) (lacking h) b else None) l.0
              ∙ p.1,
          p.2,
        )

alone_gives : (x y : ℕ) → x < 64 → y < 64
    → ((x * 4 + y / 16) / 4 ≡ x) × ((x * 4 + y / 16) % 4 * 16 + y % 16 ≡ y) × (x * 4 + y / 16 < 256)
    × (y % 16 < 16)
alone_gives x y g k = (omega arith, omega arith, omega arith, omega arith)

pair_gives : (x y z : ℕ) → x < 64 → y < 64 → z < 64
    → ((x * 4 + y / 16) / 4 ≡ x) × ((x * 4 + y / 16) % 4 * 16 + (y % 16 * 16 + z / 4) / 16 ≡ y)
    × ((y % 16 * 16 + z / 4) % 16 * 4 + z % 4 ≡ z) × (x * 4 + y / 16 < 256)
    × (y % 16 * 16 + z / 4 < 256) × (z % 4 < 4)
pair_gives x y z g k f = (
  omega arith,
  omega arith,
  omega arith,
  omega arith,
  omega arith,
  omega arith,
)

last_gives : (h : Held) (t : List ℕ) → GoodBlob (Group [] h) → is_last h ≡ true → Pads (lacking h) t
    → Sextets (letters h ++ t) (last_bytes h)
last_gives H0 t g e p = (0, t, omega arith, refl, tt, p)
last_gives (H1 x) t g e p = absurd cc
last_gives (H2 x y) t g e p = let k = alone_gives x y g.0 g.1 in (
  y % 16,
  t,
  k.3,
  ap₂ (λ p q. letter p ∷ letter q ∷ t) (sym k.0) (sym k.1),
  (small_byte _ k.2, tt),
  p,
)
last_gives (H3 x y z) t g e p =
    let k = pair_gives x y z g.0 g.1 g.2 in (
      z % 4,
      t,
      k.5,
      ap₂ (λ p q. letter p ∷ q) (sym k.0)
          (ap₂ (λ p q. letter p ∷ letter q ∷ t) (sym k.1) (sym k.2)),
      (small_byte _ k.3, (small_byte _ k.4, tt)),
      p,
    )

group_gives : (bytes : List ℕ) (h : Held) (b : ℕ) (u v : List ℕ) (t : BlobState)
    → GoodBlob (Group [] h) → blob_step (Group bytes h) b ≡ Some t → ResidualBlob t u v
    → ResidualBlob (Group bytes h) (b ∷ u) v
unfolding quad
group_gives bytes h b u v t g n r = go (sextet b) refl
  where
    more : (h : Held) (w : ℕ) → GoodBlob (Group [] h) → w < 64 → ResidualBlob (grown bytes h w) u v
        → ResidualBlob (Group bytes h) (letter w ∷ u) v
    more (H3 x y z) w g k (q, sx, i) = (
      quad x y z w ++ q,
      quad_gives x y z w u q g.0 g.1 g.2 k sx,
      i
          ∙ append_assoc bytes (quad x y z w) q,
    )
    more h w g k r = r

    ended : (l : Bool) → is_last h ≡ l
        → (if l then pad_step (bytes ++ last_bytes h) (lacking h) b else None) ≡ Some t
        → ResidualBlob (Group bytes h) (b ∷ u) v
    ended true e m = let p = pads_gives (bytes ++ last_bytes h) (lacking h) b u v t m r in
        (last_bytes h, last_gives h (b ∷ u) g e p.0, p.1)
    ended false e m = absurd cc

    go : (o : Option ℕ) → sextet b ≡ o → ResidualBlob (Group bytes h) (b ∷ u) v
    go (Some w) e =
        let k = read_letter b w e in
        let n' : grow_step bytes h (Some w) b ≡ Some t = ap (λ o. grow_step bytes h o b) (sym e)
        ∙ n in
        let c : t ≡ grown bytes h w = cc (n') in
        subst (λ y. ResidualBlob (Group bytes h) (y ∷ u) v) k.0
        (more h w g k.1 (subst (λ y. ResidualBlob y u v) c r))
    go None e = ended (is_last h) refl (ap (λ o. grow_step bytes h o b) (sym e) ∙ n)

grown_good : (bytes : List ℕ) (h : Held) (w : ℕ) → GoodBlob (Group [] h) → w < 64
    → GoodBlob (grown bytes h w)
grown_good bytes H0 w g k = k
grown_good bytes (H1 x) w g k = (g, k)
grown_good bytes (H2 x y) w g k = (g.0, g.1, k)
grown_good bytes (H3 x y z) w g k = tt

pad_good : (bytes : List ℕ) (n b : ℕ) (t : BlobState) → pad_step bytes n b ≡ Some t → GoodBlob t
pad_good bytes n b t e = ⊎_elim
    (λ k. subst GoodBlob (sym (allow_cases (b == 58) (Ended bytes) t k).1) tt)
    (λ k. subst GoodBlob
    (sym (allow_cases (b == 61 && nat_lt 0 n) (Padded bytes (n - 1)) t k.1).1) tt)
    (option_or_cases (allow (b == 58) (Ended bytes))
    (allow (b == 61 && nat_lt 0 n) (Padded bytes (n - 1))) t e)

group_good : (bytes : List ℕ) (h : Held) (b : ℕ) (t : BlobState) → GoodBlob (Group [] h)
    → blob_step (Group bytes h) b ≡ Some t → GoodBlob t
group_good bytes h b t g n = go (sextet b) refl
  where
    ended : (l : Bool)
        → (if l then pad_step (bytes ++ last_bytes h) (lacking h) b else None) ≡ Some t → GoodBlob t
    ended true m = pad_good (bytes ++ last_bytes h) (lacking h) b t m
    ended false m = absurd cc

    go : (o : Option ℕ) → sextet b ≡ o → GoodBlob t
    go (Some w) e =
        let n' : grow_step bytes h (Some w) b ≡ Some t = ap (λ o. grow_step bytes h o b) (sym e)
        ∙ n in
        let c : t ≡ grown bytes h w = cc (n') in
        subst GoodBlob (sym c) (grown_good bytes h w g (read_letter b w e).1)
    go None e = ended (is_last h) (ap (λ o. grow_step bytes h o b) (sym e) ∙ n)

-- letters alone are no whole text
is_letter : ℕ → Bool
is_letter b = is_some (sextet b)

letters_pass : (h : Held) → GoodBlob (Group [] h) → Every is_letter (letters h)
unfolding is_letter
letters_pass H0 g = tt
letters_pass (H1 x) g = (ap is_some (letter_read x g), tt)
letters_pass (H2 x y) g = (ap is_some (letter_read x g.0), (ap is_some (letter_read y g.1), tt))
letters_pass (H3 x y z) g = (
  ap is_some (letter_read x g.0),
  (ap is_some (letter_read y g.1), (ap is_some (letter_read z g.2), tt)),
)

not_whole : (h : Held) (s : List ℕ) → GoodBlob (Group [] h) → Sextets (letters h ++ []) s → ⊥
unfolding is_letter
not_whole h s g (low, suffix, lt, e, f, (m, k, p)) =
    let a = every_split is_letter (unpadded low s) suffix
    (subst (Every is_letter) (sym (append-nil (letters h)) ∙ e) (letters_pass h g)) in
    let b = every_split is_letter (replicate m 61) (58 ∷ []) (subst (Every is_letter) p a.1) in
    cc (b.1.0)

good_group : (bytes : List ℕ) (h : Held) → GoodBlob (Group bytes h) → GoodBlob (Group [] h)
good_group bytes H0 g = g
good_group bytes h g = g

pub blob_reads : (s : BlobState) → GoodBlob s
    → Reads BlobState (List ℕ) GoodBlob ResidualBlob (ResidualBlob s) (blob_step s) (blob_finish s)
blob_reads (Group bytes h) g = let g' = good_group bytes h g in record {
  taken = λ b u v r. group_taken bytes h b u v g' r;
  gives = λ b u v t n r. group_gives bytes h b u v t g' n r;
  good = λ b t n. group_good bytes h b t g' n;
  ends = λ v r. absurd (not_whole h r.0 g' r.1);
  ended = λ v e. absurd cc;
}
blob_reads (Padded bytes n) g = record {
  taken = λ b u v r. pads_taken bytes n b u v r.0 r.1;
  gives = λ b u v t e r. pads_gives bytes n b u v t e r;
  good = λ b t e. pad_good bytes n b t e;
  ends = λ v r. absurd (no_pads n r.0);
  ended = λ v e. absurd cc;
}
  where
    no_pads : (n : ℕ) → Pads n [] → ⊥
    no_pads n (zero, h, e) = cc
    no_pads n (suc m, h, e) = cc
blob_reads (Ended bytes) g = record {
  taken = λ b u v h. absurd (cc (h.0));
  gives = λ b u v s n h. absurd cc;
  good = λ b s n. absurd cc;
  ends = λ v h. ap Some (sym h.1);
  ended = λ v e. (refl, cc);
}

colon : (s : List ℕ) → Sextets (58 ∷ []) []
colon s = (0, 58 ∷ [], omega arith, refl, tt, (0, omega arith, refl))

pub blob_lives : (s : BlobState) → GoodBlob s → Live (List ℕ) (ResidualBlob s)
unfolding quad letter
blob_lives (Group bytes H0) g = record {
  text = 58 ∷ [];
  value = bytes ++ [];
  whole = (
    [],
    colon [],
    refl,
  );
}
blob_lives (Group bytes (H1 x)) g = record {
  text = 65 ∷ 65 ∷ 65 ∷ 58 ∷ [];
  value = bytes ++ quad x 0 0 0;
  whole = (
    quad x 0 0 0,
    quad_gives x 0 0 0 (58 ∷ []) [] g (omega arith) (omega arith) (omega arith) (colon []),
    refl,
  );
}
blob_lives (Group bytes (H2 x y)) g = record {
  text = 65 ∷ 65 ∷ 58 ∷ [];
  value = bytes ++ quad x y 0 0;
  whole = (
    quad x y 0 0,
    quad_gives x y 0 0 (58 ∷ []) [] g.0 g.1 (omega arith) (omega arith) (colon []),
    refl,
  );
}
blob_lives (Group bytes (H3 x y z)) g = record {
  text = 65 ∷ 58 ∷ [];
  value = bytes ++ quad x y z 0;
  whole = (
    quad x y z 0,
    quad_gives x y z 0 (58 ∷ []) [] g.0 g.1 g.2 (omega arith) (colon []),
    refl,
  );
}
blob_lives (Padded bytes n) g = record {
  text = 58 ∷ [];
  value = bytes;
  whole = (
    (
      0,
      omega arith,
      refl,
    ),
    refl,
  );
}
blob_lives (Ended bytes) g = record { text = []; value = bytes; whole = (refl, refl) }
