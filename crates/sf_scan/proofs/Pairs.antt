-- One parameter after its semicolon: what follows its spaces, its key and its equals sign.
use Rattle.std.proofs.Common.{◌≡◌, ◌≢◌, ℕ, Bool, true, false, List, [], ◌∷◌, ◌++◌, refl, sym, ap, ◌∙◌}
use Rattle.std.proofs.Common.{inl, inr, ◌==◌, ◌||◌, subst, append_assoc, append-nil, arith, eqb-true}
use Rattle.sf_value.specs.Ascii.{semicolon, equals}
use Rattle.sf_value.specs.declared.value.Bare.{Bare}
use Rattle.sf_value.specs.declared.value.Bare.TheVariants.{Boolean}
use Rattle.sf_value.specs.Grammar.Words.{Every}
use Rattle.sf_value.specs.Grammar.Classes.{is_sp, is_key_start, is_in_key}
use Rattle.sf_value.specs.Grammar.Tokens.{IsKey}
use Rattle.sf_value.specs.Grammar.Lines.{Continues}
use Rattle.sf_value.proofs.Runs.{every_append}
use Rattle.sf_scan.specs.Parameters.{SpellsPair}
use Rattle.sf_value.specs.Grammar.Parameters.{SpellsValue, SpellsParam}
use Rattle.sf_value.specs.Grammar.BareItems.{SpellsBare}
use Rattle.sf_value.specs.declared.dialect.Dialect.{Dialect}
use Rattle.sf_scan.specs.Stops.{Past, IsFollowed, Reads, Refuses}
use Rattle.sf_value.specs.Runs.{Lacks, FirstIs}
use Rattle.sf_scan.proofs.Languages.{same_reads, same_refuses, past_reads, past_refuses}
use Rattle.sf_scan.proofs.Languages.{SameTexts}
use Rattle.sf_scan.specs.Languages.{Apart}
use Rattle.sf_scan.specs.Places.{is_follow}
use Rattle.sf_scan.proofs.Lists.{heads, tails, cons_nil, no_follow}

-- what is before the value of a parameter
pub before_value : (text gap named key after value : List ℕ) → text ≡ gap ++ named
    → named ≡ key ++ after → after ≡ equals ∷ value → text ≡ (gap ++ key) ++ equals ∷ value
before_value text gap named key after value e k s =
    e
    ∙ ap (λ t. gap ++ t) (k ∙ ap (λ t. key ++ t) s)
    ∙ sym (append_assoc gap key (equals ∷ value))

key_no_space : (b : ℕ) → is_key_start b ≡ true → is_sp b ≡ false
key_no_space b h = grind arith

module _ (dialect : Dialect) where
  -- a key may have spaces before it, and more before these
  pub gap_texts : (gap : List ℕ) → Every is_sp gap
      → SameTexts (SpellsPair dialect) (Past gap (SpellsPair dialect)) (λ p. p)
  gap_texts gap h = record {
    up = λ t p k. (
      gap ++ k.0,
      k.1,
      ap (λ x. semicolon ∷ x)
          (ap (λ x. gap ++ x) (tails semicolon semicolon t _ k.2)
          ∙ sym (append_assoc gap k.0 (p.0 ++ k.1))),
      every_append is_sp gap k.0 h k.3,
      k.4,
      k.5,
    );
    down = λ t p k. (p, shorter t p.0 p.1 k.0 k.1 (tails semicolon semicolon (gap ++ t) _ k.2) k.3 k.4 k.5);
  }
    where
      strip : (gap t gap2 k v : List ℕ) → gap ++ t ≡ gap2 ++ (k ++ v) → Every is_sp gap
          → Every is_sp gap2 → IsKey k → (rest : List ℕ) × (t ≡ rest ++ (k ++ v)) × Every is_sp rest
      strip [] t gap2 k v e h i w = (gap2, e, i)
      strip (b ∷ gap) t [] [] v e h i w = absurd w
      strip (b ∷ gap) t [] (c ∷ k) v e h i w =
          let same : b ≡ c = heads b c _ _ e in
          let n = key_no_space c w.0 in
          let y = h.0 in
          absurd (let f : is_sp c ≡ true = rw same at y in cc)
      strip (b ∷ gap) t (c ∷ gap2) k v e h i w =
          strip gap t gap2 k v (tails b c _ _ e) h.1 i.1 w

      shorter : (t k : List ℕ) (x : Bare) (gap2 v : List ℕ) → gap ++ t ≡ gap2 ++ (k ++ v)
          → Every is_sp gap2 → IsKey k → SpellsValue dialect v x → SpellsParam dialect (semicolon ∷ t) k x
      shorter t k x gap2 v e i w s =
          let r = strip gap t gap2 k v e h i w in
          (r.0, v, ap (λ y. semicolon ∷ y) r.1, r.2, w, s)

  -- after a byte of the key: more bytes of it, and the value
  abbrev pub Keyed : List ℕ → List ℕ × Bare → Type 0
  Keyed t p = (value : List ℕ) × (t ≡ p.0 ++ value) × Every is_in_key p.0 × SpellsValue dialect value p.1

  longer_key : (key more : List ℕ) → IsKey key → Every is_in_key more → IsKey (key ++ more)
  longer_key [] more w h = absurd w
  longer_key (b ∷ key) more w h = (w.0, every_append is_in_key key more w.1 h)

  -- where a value begins, no byte of a key comes
  no_key_byte : (v : List ℕ) (x : Bare) → SpellsValue dialect v x → Lacks is_in_key v
  no_key_byte v x (inl h) = rw h.1 tt
  no_key_byte v x (inr h) = rw h.1 refl

  pub key_texts : (key : List ℕ) → IsKey key
      → SameTexts Keyed (Past key (SpellsPair dialect)) (λ p. (key ++ p.0, p.1))
  key_texts key w = record {
    up = λ t p k. (
      [],
      k.0,
      ap (λ x. semicolon ∷ x)
          (ap (λ x. key ++ x) k.1 ∙ sym (append_assoc key p.0 k.0)),
      tt,
      longer_key key p.0 w k.2,
      k.3,
    );
    down = λ t p k. by t p.0 p.1 k.0 k.1 (tails semicolon semicolon (key ++ t) _ k.2) k.3 k.4 k.5;
  }
    where
      rest_of : (key t k v : List ℕ) (x : Bare) → key ++ t ≡ k ++ v → Every is_in_key key
          → Every is_in_key k → SpellsValue dialect v x → (p : List ℕ × Bare) × Keyed t p
      rest_of [] t k v x e h i s = ((k, x), (v, e, i, s))
      rest_of (b ∷ key) t [] [] x e h i s = absurd (cons_nil b _ e)
      rest_of (b ∷ key) t [] (c ∷ v) x e h i s =
          let same : b ≡ c = heads b c _ _ e in
          let n = no_key_byte (c ∷ v) x s in
          let y = h.0 in
          absurd (let f : is_in_key c ≡ true = rw same at y in cc)
      rest_of (b ∷ key) t (c ∷ k) v x e h i s =
          rest_of key t k v x (tails b c _ _ e) h.1 i.1 s

      by : (t k : List ℕ) (x : Bare) (gap v : List ℕ) → key ++ t ≡ gap ++ (k ++ v)
          → Every is_sp gap → IsKey k → SpellsValue dialect v x → (p : List ℕ × Bare) × Keyed t p
      by t [] x gap v e i u s = absurd u
      by t (c ∷ k) x gap v e i u s = on key w gap e i
        where
          on : (key : List ℕ) → IsKey key → (gap : List ℕ) → key ++ t ≡ gap ++ (c ∷ k ++ v)
              → Every is_sp gap → (p : List ℕ × Bare) × Keyed t p
          on [] w gap e i = absurd w
          on (b ∷ key) w [] e i = rest_of key t k v x (tails b c _ _ e) w.1 u.1 s
          on (b ∷ key) w (g ∷ gap) e i =
              let same : b ≡ g = heads b g _ _ e in
              let n = key_no_space b w.0 in
              let y = i.0 in
              absurd (let f : is_sp b ≡ true = rw (← same) at y in cc)

  -- after the equals sign
  pub value_texts : SameTexts (SpellsBare dialect) (Past (equals ∷ []) Keyed) (λ x. ([], x))
  value_texts = record {
    up = λ t x k. (equals ∷ t, refl, tt, inr (t, refl, k));
    down = λ t p k. by t p.0 p.1 k.0 k.1 k.2 k.3;
  }
    where
      by : (t k : List ℕ) (x : Bare) (v : List ℕ) → equals ∷ t ≡ k ++ v → Every is_in_key k
          → SpellsValue dialect v x → (y : Bare) × (SpellsBare dialect) t y
      by t (c ∷ k) x v e h s =
          let same : equals ≡ c = heads equals c _ _ e in
          let y = h.0 in
          absurd (let f : is_in_key equals ≡ true = rw (← same) at y in cc)
      by t [] x v e h (inl s) = absurd (cons_nil equals t (e ∙ s.1))
      by t [] x v e h (inr s) =
          let same = tails equals equals t s.0 (e ∙ s.1) in
          (x, subst (λ y. (SpellsBare dialect) y x) (sym same) s.2)

  -- where a key may begin
  gap_may : (b : ℕ) → (is_sp b || is_key_start b) ≡ true → Continues (SpellsPair dialect) (b ∷ [])
  gap_may b h = by (is_sp b) refl
    where
      by : (x : Bool) → is_sp b ≡ x → Continues (SpellsPair dialect) (b ∷ [])
      by true e = (
        97 ∷ [],
        (97 ∷ [], Boolean true),
        (b ∷ [], [], refl, (e, tt), (refl, tt), inl (refl, refl)),
      )
      by false e = let k : is_key_start b ≡ true = rw e at h in
          ([], (b ∷ [], Boolean true), ([], [], refl, tt, (k, tt), inl (refl, refl)))

  gap_only : (b : ℕ) (u gap k v : List ℕ) → b ∷ u ≡ gap ++ (k ++ v) → Every is_sp gap → IsKey k
      → (is_sp b || is_key_start b) ≡ true
  gap_only b u [] [] v e i w = absurd w
  gap_only b u [] (c ∷ k) v e i w =
      let same : b ≡ c = heads b c _ _ e in
      let y = w.0 in rw (same, y) (either (is_sp c))
    where
      either : (x : Bool) → (x || true) ≡ true
      either true = refl
      either false = refl
  gap_only b u (g ∷ gap) k v e i w =
      let same : b ≡ g = heads b g _ _ e in
      let y = i.0 in rw (same, y) refl

  gap_followed : IsFollowed (SpellsPair dialect) (λ b. is_sp b || is_key_start b) []
  gap_followed = record {
    viable = (97 ∷ [], (97 ∷ [], Boolean true), ([], [], refl, tt, (refl, tt), inl (refl, refl)));
    may = gap_may;
    only = λ b c. gap_only b c.0 c.2.0 c.1.0 c.2.1 (tails semicolon semicolon _ _ c.2.2) c.2.3 c.2.4;
  }

  no_pair : (p : List ℕ × Bare) → SpellsPair dialect [] p → ⊥
  no_pair p h = by h.0 p.0 h.1 (tails semicolon semicolon _ _ h.2) h.4
    where
      by : (gap k v : List ℕ) → [] ≡ gap ++ (k ++ v) → IsKey k → ⊥
      by [] [] v e w = w
      by [] (c ∷ k) v e w = cons_nil c _ (sym e)
      by (g ∷ gap) k v e w = cons_nil g _ (sym e)

  lacks_start : (t : List ℕ) → Lacks is_sp t → Lacks is_key_start t
      → Lacks (λ b. is_sp b || is_key_start b) t
  lacks_start [] h k = tt
  lacks_start (b ∷ t) h k = rw (h, k) refl

  -- no key is there
  pub unnamed : (text gap named : List ℕ) → text ≡ gap ++ named → Every is_sp gap → Lacks is_sp named
      → Lacks is_key_start named
      → Refuses (SpellsPair dialect) (λ b. is_sp b || is_key_start b) text named
  unnamed text gap named e h n k =
      past_refuses (SpellsPair dialect) _ gap named text named e
      (same_refuses _ _ _ (gap_texts gap h) _ named named (record {
        stops = record {
          prefix = [];
          split = refl;
          followed = gap_followed;
          blocked = lacks_start named n k;
        };
        unspelled = no_pair;
      }))

  -- in a key, if some text begins a bare item
  key_may : Continues (SpellsBare dialect) [] → (b : ℕ) → (is_in_key b || b == equals) ≡ true → Continues Keyed (b ∷ [])
  key_may some b h = by (is_in_key b) refl
    where
      by : (x : Bool) → is_in_key b ≡ x → Continues Keyed (b ∷ [])
      by true e = ([], (b ∷ [], Boolean true), ([], refl, (e, tt), inl (refl, refl)))
      by false e =
          let k : (b == equals) ≡ true = rw e at h in
          let same = eqb-true b equals k in (
            some.0,
            ([], some.1),
            (equals ∷ some.0, ap (λ x. x ∷ some.0) same, tt, inr (some.0, refl, some.2)),
          )

  key_only : (b : ℕ) (u k v : List ℕ) (x : Bare) → b ∷ u ≡ k ++ v → Every is_in_key k
      → SpellsValue dialect v x → (is_in_key b || b == equals) ≡ true
  key_only b u (c ∷ k) v x e h s =
      let same : b ≡ c = heads b c _ _ e in
      let y = h.0 in rw (same, y) refl
  key_only b u [] v x e h (inl s) = absurd (cons_nil b u (e ∙ s.1))
  key_only b u [] v x e h (inr s) =
      let same : b ≡ equals = heads b equals _ _ (e ∙ s.1) in rw same refl

  key_followed : Continues (SpellsBare dialect) [] → IsFollowed Keyed (λ b. is_in_key b || b == equals) []
  key_followed some = record {
    viable = ([], ([], Boolean true), ([], refl, tt, inl (refl, refl)));
    may = key_may some;
    only = λ b c. key_only b c.0 c.1.0 c.2.0 c.1.1 c.2.1 c.2.2 c.2.3;
  }

  -- after spaces and a key
  lift_reads : (next : ℕ → Bool) (text gap key t : List ℕ) (x : Bare) (left : List ℕ)
      → text ≡ gap ++ (key ++ t) → Every is_sp gap → IsKey key → Reads Keyed next t ([], x) left
      → Reads (SpellsPair dialect) next text (key, x) left
  lift_reads next text gap key t x left e h w r =
      subst (λ k. Reads (SpellsPair dialect) next text (k, x) left) (append-nil key)
      (past_reads (SpellsPair dialect) next gap (key ++ t) text _ left e
      (same_reads _ _ _ (gap_texts gap h) next (key ++ t) _ left
      (past_reads (SpellsPair dialect) next key t (key ++ t) _ left refl
      (same_reads _ _ _ (key_texts key w) next t _ left r))))

  lift_refuses : (next : ℕ → Bool) (text gap key t left : List ℕ)
      → text ≡ gap ++ (key ++ t) → Every is_sp gap → IsKey key → Refuses Keyed next t left
      → Refuses (SpellsPair dialect) next text left
  lift_refuses next text gap key t left e h w r =
      past_refuses (SpellsPair dialect) next gap (key ++ t) text left e
      (same_refuses _ _ _ (gap_texts gap h) next (key ++ t) left
      (past_refuses (SpellsPair dialect) next key t (key ++ t) left refl
      (same_refuses _ _ _ (key_texts key w) next t left r)))

  lacks_more : (t : List ℕ) → Lacks is_in_key t → FirstIs (λ b. b ≢ equals) t
      → Lacks (λ b. is_in_key b || b == equals) t
  lacks_more [] h k = tt
  lacks_more (b ∷ t) h k = rw h (differs b k)
    where
      differs : (b : ℕ) → b ≢ equals → (b == equals) ≡ false
      differs b k = grind arith

  whole : (text gap named key after : List ℕ) → text ≡ gap ++ named → named ≡ key ++ after
      → text ≡ gap ++ (key ++ after)
  whole text gap named key after e f = e ∙ ap (λ x. gap ++ x) f

  -- a key without a value
  pub reads_key : Continues (SpellsBare dialect) [] → (text gap named key after : List ℕ) → text ≡ gap ++ named
      → Every is_sp gap → named ≡ key ++ after → IsKey key → Lacks is_in_key after
      → FirstIs (λ b. b ≢ equals) after
      → Reads (SpellsPair dialect) (λ b. is_in_key b || b == equals) text (key, Boolean true) after
  reads_key some text gap named key after e h f w n k =
      lift_reads _ text gap key after (Boolean true) after (whole text gap named key after e f) h w
      (record {
        stops = record {
          prefix = [];
          split = refl;
          followed = key_followed some;
          blocked = lacks_more after n k;
        };
        spelled = ([], refl, tt, inl (refl, refl));
      })

  -- a key with a value
  pub reads_value : (next : ℕ → Bool) (text gap named key after value : List ℕ) (x : Bare)
      (left : List ℕ) → text ≡ gap ++ named → Every is_sp gap → named ≡ key ++ after → IsKey key
      → after ≡ equals ∷ value → Reads (SpellsBare dialect) next value x left
      → Reads (SpellsPair dialect) next text (key, x) left
  reads_value next text gap named key after value x left e h f w v r =
      lift_reads next text gap key after x left (whole text gap named key after e f) h w
      (past_reads Keyed next (equals ∷ []) value after ([], x) left v
      (same_reads _ _ _ value_texts next value x left r))

  pub refuses_value : (next : ℕ → Bool) (text gap named key after value left : List ℕ)
      → text ≡ gap ++ named → Every is_sp gap → named ≡ key ++ after → IsKey key
      → after ≡ equals ∷ value → Refuses (SpellsBare dialect) next value left
      → Refuses (SpellsPair dialect) next text left
  refuses_value next text gap named key after value left e h f w v r =
      lift_refuses next text gap key after left (whole text gap named key after e f) h w
      (past_refuses Keyed next (equals ∷ []) value after left v
      (same_refuses _ _ _ value_texts next value left r))

  -- what ends a bare item ends a parameter
  pub pair_apart : Apart (SpellsBare dialect) is_follow → Apart (SpellsPair dialect) is_follow
  pair_apart apart a p b h f c =
      by a p b h.0 h.1 (tails semicolon semicolon a _ h.2) h.3 h.4 h.5 f c
    where
      no_key_follow : (b : ℕ) → is_follow b ≡ true → (is_in_key b || b == equals) ≡ false
      no_key_follow = no_follow (λ b. is_in_key b || b == equals)
          (refl, (refl, (refl, (refl, (refl, tt)))))

      ends : (value : List ℕ) (x : Bare) (b : ℕ) → SpellsValue dialect value x → is_follow b ≡ true
          → Continues Keyed (value ++ b ∷ []) → ⊥
      ends value x b (inl s) f c =
          let d : Continues Keyed (b ∷ []) = subst (λ t. Continues Keyed (t ++ b ∷ [])) s.1 c in
          let k = key_only b d.0 d.1.0 d.2.0 d.1.1 d.2.1 d.2.2 d.2.3 in
          let n = no_key_follow b f in
          (let z : true ≡ false = sym k ∙ n in cc)
      ends value x b (inr s) f c =
          let d : Continues Keyed (equals ∷ (s.0 ++ b ∷ [])) =
          subst (λ t. Continues Keyed (t ++ b ∷ [])) s.1 c in
          let y = value_texts.down ((s.0 ++ b ∷ []) ++ d.0) d.1 d.2 in
          apart s.0 x b s.2 f (d.0, y.0, y.1)

      by : (a : List ℕ) (p : List ℕ × Bare) (b : ℕ) (gap value : List ℕ)
          → a ≡ gap ++ (p.0 ++ value) → Every is_sp gap → IsKey p.0 → SpellsValue dialect value p.1
          → is_follow b ≡ true → Continues (SpellsPair dialect) (a ++ b ∷ []) → ⊥
      by a p b gap value e i w s f c =
          let key = p.0 in
          let t : List ℕ = (value ++ b ∷ []) ++ c.0 in
          let moved : (a ++ b ∷ []) ++ c.0 ≡ gap ++ (key ++ t) = shift gap key value b c.0 a e in
          let y = (gap_texts gap i).down (key ++ t) c.1 (subst (λ z. SpellsPair dialect z c.1) moved c.2) in
          let z = (key_texts key w).down t y.0 y.1 in
          ends value p.1 b s f (c.0, z.0, z.1)
        where
          shift : (gap key value : List ℕ) (b : ℕ) (u a : List ℕ) → a ≡ gap ++ (key ++ value)
              → (a ++ b ∷ []) ++ u ≡ gap ++ (key ++ ((value ++ b ∷ []) ++ u))
          shift gap key value b u a e =
              ap (λ z. (z ++ b ∷ []) ++ u) e ∙ simp append_assoc
