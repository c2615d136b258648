-- Members of Dictionaries: a key, and what comes after it.
use Rattle.std.proofs.Common.{◌≡◌, ◌≢◌, ℕ, Bool, true, false, List, [], ◌∷◌, ◌++◌, refl, sym, ◌∙◌}
use Rattle.std.proofs.Common.{◌⊎◌, inl, inr, ◌==◌, ◌||◌, subst, append-nil, arith, eqb-true}
use Rattle.sf_value.specs.Ascii.{equals, semicolon}
use Rattle.sf_value.specs.declared.dialect.Dialect.{Dialect}
use Rattle.sf_value.specs.declared.value.Bare.{Bare}
use Rattle.sf_value.specs.Grammar.Classes.{is_key_start, is_in_key}
use Rattle.sf_value.specs.Grammar.Lines.{Continues}
use Rattle.sf_value.specs.Grammar.Pairs.{Pairs}
use Rattle.sf_value.specs.Grammar.Tokens.{IsKey}
use Rattle.sf_value.specs.Grammar.Words.{Every, IsWord}
use Rattle.sf_value.proofs.Runs.{every_append}
use Rattle.sf_scan.specs.Entries.{SpellsKey, SpellsKeyed, SpellsRawEntry, raw_flag, in_entry}
use Rattle.sf_value.specs.Grammar.BareItems.{SpellsBare}
use Rattle.sf_scan.specs.Lifts.{Lifts}
use Rattle.sf_scan.specs.Members.{RawMember, SpellsRawMember, in_member}
use Rattle.sf_value.specs.Grammar.Parameters.{SpellsRaw}
use Rattle.sf_scan.specs.Places.{is_follow, is_after}
use Rattle.sf_scan.specs.Series.{IsElement}
use Rattle.sf_scan.specs.Stops.{Past, IsFollowed, Reads, Refuses}
use Rattle.sf_value.specs.Runs.{Lacks, FirstIs}
use Rattle.sf_scan.specs.declared.entry.EntryPlace.TheVariants as place
use Rattle.sf_scan.specs.declared.member.MemberPlace.TheVariants as member_place
use Rattle.sf_scan.proofs.Following.{bare_apart}
use Rattle.sf_scan.specs.Languages.{Begun}
use Rattle.sf_scan.proofs.Enclosed.{begun_first}
use Rattle.sf_scan.proofs.Items.{raw_starts, one_raw, no_semicolon}
use Rattle.sf_scan.specs.Languages.{Apart}
use Rattle.sf_scan.proofs.Languages.{SameTexts}
use Rattle.sf_scan.proofs.Lifts.{lifts_past, lifts_then, lifts_first}
use Rattle.sf_scan.proofs.Lists.{heads, tails, cons_nil, no_follow, true_false}
use Rattle.sf_scan.proofs.Members.{member_element}
use Rattle.sf_scan.proofs.Sequences.{or_left, or_right, or_cases, lacks_both, refused_followed}
use Rattle.sf_scan.proofs.Sequences.{then_reads, then_refuses_after, then_ends, then_apart}
use Rattle.sf_scan.proofs.Starts.{raw_apart}

-- what may follow a key: what follows a bare item, or an equals sign
abbrev pub ends_key : ℕ → Bool
ends_key b = is_follow b || b == equals

follow_not_in_key : (b : ℕ) → is_follow b ≡ true → is_in_key b ≡ false
follow_not_in_key = no_follow is_in_key (refl, (refl, (refl, (refl, (refl, tt)))))

not_in_key : (b : ℕ) → ends_key b ≡ true → is_in_key b ≡ true → ⊥
not_in_key b f h = elim (or_cases (is_follow b) (b == equals) f) [
  | inl k ↦ let n = follow_not_in_key b k in (let z : true ≡ false = sym h ∙ n in absurd (true_false z))
  | inr k ↦
      let n : is_in_key b ≡ false = rw (eqb-true b equals k) refl in
      (let z : true ≡ false = sym h ∙ n in absurd (true_false z))
]

key_start_after : (b : ℕ) → is_key_start b ≡ true → is_after b ≡ false
key_start_after b h = grind arith

after_ends : (b : ℕ) → is_after b ≡ true → ends_key b ≡ true
after_ends b h = grind arith

after_no_equals : (b : ℕ) → is_after b ≡ true → b ≡ equals → ⊥
after_no_equals b h e = grind arith

after_no_semicolon : (b : ℕ) → is_after b ≡ true → b ≡ semicolon → ⊥
after_no_semicolon b h e = grind arith

is_equals : (b : ℕ) → b ≡ equals → (b == equals) ≡ true
is_equals b e = grind arith

is_semicolon : (b : ℕ) → b ≡ semicolon → (b == semicolon) ≡ true
is_semicolon b e = grind arith

equals_ends : (b : ℕ) → b ≡ equals → ends_key b ≡ true
equals_ends b e = rw e refl

semicolon_ends : (b : ℕ) → b ≡ semicolon → ends_key b ≡ true
semicolon_ends b e = rw e refl

equals_no_semicolon : equals ≡ semicolon → ⊥
equals_no_semicolon e = omega arith

every_at : (q : ℕ → Bool) (run : List ℕ) (c : ℕ) (u : List ℕ) → Every q ((run ++ c ∷ []) ++ u)
    → q c ≡ true
every_at q [] c u h = h.0
every_at q (b ∷ run) c u h = every_at q run c u h.1

-- keys
key_next : (k : List ℕ) (b : ℕ) → IsKey k → Continues SpellsKey (k ++ b ∷ []) → is_in_key b ≡ true
key_next [] b w c = absurd w
key_next (d ∷ k) b w c =
    every_at is_in_key k b c.0 (subst (IsWord is_key_start is_in_key) (sym c.2.0) c.2.1).1

longer_key : (k : List ℕ) (b : ℕ) → IsKey k → is_in_key b ≡ true → IsKey (k ++ b ∷ [])
longer_key [] b w h = absurd w
longer_key (d ∷ k) b w h = (w.0, every_append is_in_key k (b ∷ []) w.1 (h, tt))

pub key_apart : Apart SpellsKey ends_key
key_apart a k b h f c = not_in_key b f (key_next a b (subst IsKey (sym h.0) h.1) c)

pub key_reads : (text key rest : List ℕ) → text ≡ key ++ rest → IsKey key → Lacks is_in_key rest
    → Reads SpellsKey is_in_key text key rest
key_reads text key rest e w n = record {
  stops = record {
    prefix = key;
    split = e;
    followed = record {
      viable = ([], key, (append-nil key, w));
      may = λ b h. ([], key ++ b ∷ [], (append-nil (key ++ b ∷ []), longer_key key b w h));
      only = λ b c. key_next key b w c;
    };
    blocked = n;
  };
  spelled = (refl, w);
}

no_key : (k : List ℕ) → SpellsKey [] k → ⊥
no_key k h = subst IsKey (sym h.0) h.1

key_first : (b : ℕ) (u k : List ℕ) → SpellsKey (b ∷ u) k → is_key_start b ≡ true
key_first b u k h = (subst (IsWord is_key_start is_in_key) (sym h.0) h.1).0

key_followed : IsFollowed SpellsKey is_key_start []
key_followed = record {
  viable = (97 ∷ [], 97 ∷ [], (refl, (refl, tt)));
  may = λ b h. ([], b ∷ [], (refl, (h, tt)));
  only = λ b c. key_first b c.0 c.1 c.2;
}

module _ (d : Dialect) (apart : Apart (SpellsBare d) is_follow)
    (member : IsElement (SpellsRawMember d) (in_member d member_place.Start)) where
  abbrev Q : List ℕ → RawMember → Type 0
  Q = SpellsKeyed d

  abbrev R : List ℕ → Pairs Bare → Type 0
  R = SpellsRaw d

  keyed_head : (b : ℕ) (u : List ℕ) (v : RawMember) → Q (b ∷ u) v
      → (b ≡ equals) ⊎ (b ≡ semicolon)
  keyed_head b u v (inl h) = inl (heads b equals u _ h.1)
  keyed_head b u v (inr h) = inr (raw_starts d (b ∷ u) h.0 h.2)

  keyed_first : (t : List ℕ) (v : RawMember) → Q t v → FirstIs (λ b. ends_key b ≡ true) t
  keyed_first [] v h = tt
  keyed_first (b ∷ t) v h = elim (keyed_head b t v h) [
    | inl e ↦ equals_ends b e
    | inr e ↦ semicolon_ends b e
  ]

  equals_texts : SameTexts (SpellsRawMember d) (Past (equals ∷ []) Q) (λ v. v)
  equals_texts = record { up = λ t v h. inl (t, refl, h); down = λ t v h. (v, by t v h) }
    where
      by : (t : List ℕ) (v : RawMember) → Q (equals ∷ t) v → SpellsRawMember d t v
      by t v (inl h) =
          subst (λ z. SpellsRawMember d z v) (sym (tails equals equals t _ h.1)) h.2
      by t v (inr h) = absurd (equals_no_semicolon (raw_starts d (equals ∷ t) h.0 h.2))

  semicolon_texts : SameTexts (Past (semicolon ∷ []) R) (Past (semicolon ∷ []) Q) raw_flag
  semicolon_texts = record { up = λ t ps h. inr (ps, refl, h); down = λ t v h. by t v h }
    where
      by : (t : List ℕ) (v : RawMember) → Q (semicolon ∷ t) v
          → (ps : Pairs Bare) × R (semicolon ∷ t) ps
      by t v (inl h) = absurd (equals_no_semicolon (sym (heads semicolon equals t _ h.1)))
      by t v (inr h) = (h.0, h.2)

  pub keyed_followed : IsFollowed Q (λ b. b == equals || b == semicolon) []
  keyed_followed = record {
    viable = ([], raw_flag [], inr ([], refl, refl));
    may = λ b h. elim (or_cases (b == equals) (b == semicolon) h) [
      | inl k ↦ (
        member.start.viable.0,
        member.start.viable.1,
        subst (λ z. Q (z ∷ member.start.viable.0) member.start.viable.1) (sym (eqb-true b equals k))
            (equals_texts.up member.start.viable.0 member.start.viable.1 member.start.viable.2),
      )
      | inr k ↦
          let c = one_raw d in (
            c.0,
            raw_flag c.1,
            subst (λ z. Q (z ∷ c.0) (raw_flag c.1)) (sym (eqb-true b semicolon k))
                (semicolon_texts.up c.0 c.1 c.2),
          )
    ];
    only = λ b c. elim (keyed_head b c.0 c.1 c.2) [
      | inl e ↦ or_left (b == equals) (b == semicolon) (is_equals b e)
      | inr e ↦ or_right (b == equals) (b == semicolon) (is_semicolon b e)
    ];
  }

  keyed_apart : Apart Q is_after
  keyed_apart [] v b h f c = elim (keyed_head b c.0 c.1 c.2) [
    | inl e ↦ after_no_equals b f e
    | inr e ↦ after_no_semicolon b f e
  ]
  keyed_apart (x ∷ a) v b (inl h) f c =
      let s : List ℕ = h.0 in
      let k : Q (equals ∷ ((s ++ b ∷ []) ++ c.0)) c.1 =
      subst (λ z. Q ((z ++ b ∷ []) ++ c.0) c.1) h.1 c.2 in
      let m = equals_texts.down ((s ++ b ∷ []) ++ c.0) c.1 k in
      member.apart s v b h.2 f (c.0, m.0, m.1)
  keyed_apart (x ∷ a) v b (inr h) f c =
      let e : x ≡ semicolon = raw_starts d (x ∷ a) h.0 h.2 in
      let k : Q (semicolon ∷ ((a ++ b ∷ []) ++ c.0)) c.1 =
      subst (λ z. Q (z ∷ ((a ++ b ∷ []) ++ c.0)) c.1) e c.2 in
      let m = semicolon_texts.down ((a ++ b ∷ []) ++ c.0) c.1 k in
      raw_apart d apart (semicolon ∷ a) h.0 b (subst (λ z. R (z ∷ a) h.0) e h.2) f (c.0, m.0, m.1)

  pub entry_apart : Apart (SpellsRawEntry d) is_after
  entry_apart =
      then_apart SpellsKey Q ends_key key_apart keyed_first is_after after_ends keyed_apart

  pub entry_begun : (t : List ℕ) (p : List ℕ × RawMember) → SpellsRawEntry d t p → Begun t
  entry_begun t p h = by t h.0 h.2 h.3
    where
      by : (t k : List ℕ) → t ≡ k ++ h.1 → SpellsKey k p.0 → Begun t
      by t [] e w = absurd (no_key p.0 w)
      by [] (c ∷ k) e w = cons_nil c _ (sym e)
      by (b ∷ t) (c ∷ k) e w =
          begun_first (c ∷ k) h.1 b t (key_start_after c (key_first c k p.0 w)) e

  pub entry_start : IsFollowed (SpellsRawEntry d) is_key_start []
  entry_start =
      refused_followed SpellsKey Q ends_key key_apart keyed_first is_key_start []
      keyed_followed.viable key_followed no_key

  -- no key
  pub entry_refused : (text : List ℕ) → Lacks is_key_start text
      → Refuses (SpellsRawEntry d) is_key_start text text
  entry_refused text n = record {
    stops = record { prefix = []; split = refl; followed = entry_start; blocked = n };
    unspelled = λ p h. entry_begun [] p h;
  }

  module _ (text key rest : List ℕ) (split : text ≡ key ++ rest) (word : IsKey key)
      (longest : Lacks is_in_key rest) where
    keyed_lifts : (c : ℕ) (more : List ℕ) → rest ≡ c ∷ more
        → (c == equals || c == semicolon) ≡ true → ends_key c ≡ true
        → Lifts Q rest (SpellsRawEntry d) text (λ v. (key, v))
    keyed_lifts c more e k f = record {
      reads = λ next v left r.
          then_reads SpellsKey Q ends_key key_apart keyed_first is_in_key next text key rest c more v
          left (key_reads text key rest split word longest) e f (keyed_followed.may c k) r;
      refuses = λ next left r.
          then_refuses_after SpellsKey Q ends_key key_apart keyed_first is_in_key next text key rest c
          more left (key_reads text key rest split word longest) e f (keyed_followed.may c k) r;
    }

    -- a member
    pub value_lifts : (value : List ℕ) → rest ≡ equals ∷ value
        → Lifts (SpellsRawMember d) value (SpellsRawEntry d) text (λ v. (key, v))
    value_lifts value e =
        lifts_then (SpellsRawMember d) Q (SpellsRawEntry d) (λ v. v) (λ v. (key, v)) value rest text
        (lifts_past (SpellsRawMember d) Q (λ v. v) (equals ∷ []) value rest equals_texts e)
        (keyed_lifts equals value e refl refl)

    -- parameters
    pub params_lifts : (more : List ℕ) → rest ≡ semicolon ∷ more
        → Lifts R rest (SpellsRawEntry d) text (λ ps. (key, raw_flag ps))
    params_lifts more e =
        lifts_then R Q (SpellsRawEntry d) raw_flag (λ v. (key, v)) rest rest text
        (lifts_first R Q raw_flag semicolon more rest (one_raw d) semicolon_texts e)
        (keyed_lifts semicolon more e refl refl)

    -- the key alone
    pub key_alone : FirstIs (λ b. b ≢ equals) rest → FirstIs (λ b. b ≢ semicolon) rest
        → Reads (SpellsRawEntry d) (λ b. is_in_key b || (b == equals || b == semicolon)) text
        (key, raw_flag []) rest
    key_alone n m =
        then_ends SpellsKey Q ends_key key_apart keyed_first is_in_key
        (λ b. b == equals || b == semicolon) text key (raw_flag []) rest
        (key_reads text key rest split word longest) keyed_followed
        (lacks_both (λ b. b == equals) (λ b. b == semicolon) rest (no_equals rest n)
        (no_semicolon rest m)) (inr ([], refl, refl))
      where
        no_equals : (t : List ℕ) → FirstIs (λ b. b ≢ equals) t → Lacks (λ b. b == equals) t
        no_equals [] h = tt
        no_equals (b ∷ t) h = differs b h
          where
            differs : (b : ℕ) → b ≢ equals → (b == equals) ≡ false
            differs b h = grind arith

-- with the bare items of a dialect
pub entry_element : (d : Dialect) → IsElement (SpellsRawEntry d) (in_entry d place.Start)
entry_element d =
    let m = member_element d in record {
      apart = entry_apart d (bare_apart d) m;
      begun = entry_begun d (bare_apart d) m;
      start = entry_start d (bare_apart d) m;
    }
