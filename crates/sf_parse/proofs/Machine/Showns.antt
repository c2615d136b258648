-- Display strings are read by their machine.
use Rattle.std.specs.Option.{option_and_then, option_map}
use Rattle.std.proofs.Common.{◌≡◌, ℕ, zero, suc, ◌+◌, ◌*◌, ◌/◌, ◌%◌, ◌<◌, ◌≤◌, Bool, true, false}
use Rattle.std.proofs.Common.{◌==◌, List, [], ◌∷◌, ◌++◌, Option, Some, None, ⊎_elim}
use Rattle.std.proofs.Common.{refl, sym, ap, ap₂, ◌∙◌, subst, ◌⊎◌, inl, inr, append-nil}
use Rattle.std.proofs.Common.{append_assoc, eqb-true, arith}
use Rattle.sf_value.specs.Grammar.Words.{allow}
use Rattle.sf_value.specs.Grammar.Classes.{is_visible, is_byte}
use Rattle.sf_value.specs.Grammar.Utf8.{Utf8, Start, Within, followed_by, within, utf8_step}
use Rattle.sf_value.specs.Grammar.Utf8.{WellFormed}
use Rattle.sf_value.specs.Grammar.DisplayStrings.{hex, is_unencoded, EncodedBytes}
use Rattle.sf_parse.specs.Machine.Language.{Reads, Live}
use Rattle.sf_value.specs.Digits.{unhex}
use Rattle.sf_parse.specs.Machine.Showns.{ShownState, Quote, Unencoded, Percent, Hex, Done}
use Rattle.sf_parse.specs.Machine.Showns.{ResidualUnencoded, ResidualShown, can_begin, GoodUtf8}
use Rattle.sf_parse.specs.Machine.Showns.{GoodShown}
use Rattle.sf_parse.specs.Machine.Showns.{quote_step, shown_step, shown_finish}
use Rattle.sf_parse.proofs.Machine.Language.{reads_after, map_cases, and_then_cases}
use Rattle.sf_value.proofs.Words.{allow_cases}
use Rattle.sf_parse.proofs.Quads.{byte_small, small_byte}
use Rattle.sf_value.proofs.DigitValues.{hex_read, read_hex}
use Rattle.sf_parse.proofs.HighDigits.{high_small, low_small, joined, found}
use Rattle.sf_value.proofs.Utf8Table.{in_range}
use Rattle.sf_parse.proofs.HighDigits.{followed_good, utf8_good, utf8_begins}

-- steps in unencoded text
abbrev UnencodedStep : List ℕ → Utf8 → ℕ → ShownState → Type 0
UnencodedStep bytes x b t = ((b ≡ 34)
    × (quote_step bytes x ≡ Some t))
    ⊎ (((b ≡ 37) × (t ≡ Percent bytes x)) ⊎ ((is_unencoded b ≡ true)
    × (option_map (Unencoded (bytes ++ b ∷ [])) (utf8_step x b) ≡ Some t)))

unencoded_cases : (bytes : List ℕ) (x : Utf8) (b : ℕ) (t : ShownState)
    → shown_step (Unencoded bytes x) b ≡ Some t → UnencodedStep bytes x b t
unencoded_cases bytes x b t n = go (b == 34) (b == 37) (is_visible b) refl refl refl
  where
    unencoded_is : (b : ℕ) → (b == 34) ≡ false → (b == 37) ≡ false → is_visible b ≡ true
        → is_unencoded b ≡ true
    unencoded_is b e f g = rw (g, e, f) refl

    go : (p q r : Bool) → (b == 34) ≡ p → (b == 37) ≡ q → is_visible b ≡ r
        → UnencodedStep bytes x b t
    go true q r e f g = inl (eqb-true b 34 e, rw e at n)
    go false true r e f g = inr (inl (
      eqb-true b 37 f,
      (let n' : Some (Percent bytes x) ≡ Some t = rw (e, f) at n in
          cc (n')),
    ))
    go false false true e f g = inr (inr (unencoded_is b e f g, rw (e, f, g) at n))
    go false false false e f g = absurd (let n' : None ≡ Some t = rw (e, f, g) at n in cc (n'))

unencoded_tests : (b : ℕ) → is_unencoded b ≡ true
    → ((b == 34) ≡ false) × ((b == 37) ≡ false) × (is_visible b ≡ true)
unencoded_tests b e = (grind arith, grind arith, grind arith)

unencoded_goes : (bytes : List ℕ) (x : Utf8) (b : ℕ) → is_unencoded b ≡ true
    → shown_step (Unencoded bytes x) b ≡ option_map (Unencoded (bytes ++ b ∷ [])) (utf8_step x b)
unencoded_goes bytes x b e = let k = unencoded_tests b e in rw (k.0, k.1, k.2) refl

well_formed_end : (x : Utf8) → WellFormed x [] → x ≡ Start
well_formed_end Start w = refl
well_formed_end (Within n low high) w = absurd w

well_formed_next : (x : Utf8) (b : ℕ) (s : List ℕ) → WellFormed x (b ∷ s)
    → (y : Utf8) × (utf8_step x b ≡ Some y) × WellFormed y s
well_formed_next Start b s w = w
well_formed_next (Within n low high) b s w = w

well_formed_more : (x y : Utf8) (b : ℕ) (s : List ℕ) → utf8_step x b ≡ Some y → WellFormed y s
    → WellFormed x (b ∷ s)
well_formed_more Start y b s e w = (y, e, w)
well_formed_more (Within n low high) y b s e w = (y, e, w)

unencoded_taken : (bytes : List ℕ) (x : Utf8) (b : ℕ) (u v : List ℕ)
    → ResidualUnencoded bytes x (b ∷ u) v
    → (t : ShownState) × (shown_step (Unencoded bytes x) b ≡ Some t) × ResidualShown t u v
unencoded_taken bytes x b u v ([], p, w, i) =
    let e : b ≡ 34 = cc in
    let e' : u ≡ [] = cc in
    let k = well_formed_end x w in (
      Done bytes,
      ap (shown_step (Unencoded bytes x)) e
          ∙ ap (quote_step bytes) k,
      (e', i ∙ append-nil bytes),
    )
unencoded_taken bytes x b u v (c ∷ s, (suffix, inl (k, e), p), w, i) =
    let e1 : c ≡ b = cc in
    let e2 : suffix ≡ u = cc in
    let n = well_formed_next x c s w in (
      Unencoded (bytes ++ b ∷ []) n.0,
      unencoded_goes bytes x b (ap is_unencoded (sym e1) ∙ k)
          ∙ ap (λ y. option_map (Unencoded (bytes ++ b ∷ [])) (utf8_step x y)) (sym e1)
          ∙ ap (option_map (Unencoded (bytes ++ b ∷ []))) n.1,
      (
        s,
        subst (λ y. EncodedBytes y s) e2 p,
        n.2,
        i ∙ ap (λ y. bytes ++ y ∷ s) e1
            ∙ sym (append_assoc bytes (b ∷ []) s),
      ),
    )
unencoded_taken bytes x b u v (c ∷ s, (suffix, inr (k, e), p), w, i) =
    let e1 : b ≡ 37 = cc in
    let e2 : u ≡ hex (c / 16) ∷ hex (c % 16) ∷ suffix = cc in
    (Percent bytes x, ap (shown_step (Unencoded bytes x)) e1, (c, suffix, e2, (s, k, p, w, i)))

unencoded_gives : (bytes : List ℕ) (x : Utf8) (b : ℕ) (u v : List ℕ) (t : ShownState)
    → shown_step (Unencoded bytes x) b ≡ Some t → ResidualShown t u v
    → ResidualUnencoded bytes x (b ∷ u) v
unencoded_gives bytes x b u v t n r = ⊎_elim
    (λ k. quoted x k.0 k.1)
    (⊎_elim
    (λ k. escaped k.0 (subst (λ y. ResidualShown y u v) k.1 r))
    (λ k. let c = map_cases (Unencoded (bytes ++ b ∷ [])) (utf8_step x b) t k.1 in
    allocation_free c.0 k.0 c.1 (subst (λ y. ResidualShown y u v) c.2 r)))
    (unencoded_cases bytes x b t n)
  where
    quoted : (x : Utf8) → b ≡ 34 → quote_step bytes x ≡ Some t → ResidualUnencoded bytes x (b ∷ u) v
    quoted Start e m = let c : t ≡ Done bytes = cc (m) in
        let r' = subst (λ y. ResidualShown y u v) c r in (
          [],
          ap₂ (λ x y. x ∷ y) e r'.0,
          tt,
          r'.1
              ∙ sym (append-nil bytes),
        )
    quoted (Within k low high) e m = absurd cc

    escaped : b ≡ 37 → ResidualShown (Percent bytes x) u v → ResidualUnencoded bytes x (b ∷ u) v
    escaped e (c, suffix, e1, (s, k, p, w, i)) = (
      c ∷ s,
      (suffix, inr (k, ap₂ (λ x y. x ∷ y) e e1), p),
      w,
      i,
    )

    allocation_free : (y : Utf8) → is_unencoded b ≡ true → utf8_step x b ≡ Some y
        → ResidualShown (Unencoded (bytes ++ b ∷ []) y) u v → ResidualUnencoded bytes x (b ∷ u) v
    allocation_free y k e (s, p, w, i) = (
      b ∷ s,
      (u, inl (k, refl), p),
      well_formed_more x y b s e w,
      i
          ∙ append_assoc bytes (b ∷ []) s,
    )

percent_taken : (bytes : List ℕ) (x : Utf8) (b : ℕ) (u v : List ℕ)
    → ResidualShown (Percent bytes x) (b ∷ u) v
    → (t : ShownState) × (shown_step (Percent bytes x) b ≡ Some t) × ResidualShown t u v
percent_taken bytes x b u v (c, suffix, e, (s, k, p, w, i)) =
    let e1 : b ≡ hex (c / 16) = cc in
    let e2 : u ≡ hex (c % 16) ∷ suffix = cc in
    let n = well_formed_next x c s w in
    let a = ap unhex e1 ∙ hex_read (c / 16) (high_small c (byte_small c k)) in (
      Hex bytes x (c / 16),
      ap (λ o. option_and_then (λ h. allow (can_begin x h) (Hex bytes x h)) o) a
          ∙ ap (λ y. allow y (Hex bytes x (c / 16))) (utf8_begins x n.0 c n.1),
      (c, suffix, refl, e2, (s, k, p, w, i)),
    )

percent_cases : (bytes : List ℕ) (x : Utf8) (b : ℕ) (t : ShownState)
    → shown_step (Percent bytes x) b ≡ Some t
    → (h : ℕ) × (hex h ≡ b) × (h < 16) × (can_begin x h ≡ true) × (t ≡ Hex bytes x h)
percent_cases bytes x b t n =
    let c = and_then_cases (unhex b) (λ h. allow (can_begin x h) (Hex bytes x h)) t n in
    let d = allow_cases (can_begin x c.0) (Hex bytes x c.0) t c.2 in
    let r = read_hex b c.0 c.1 in
    (c.0, r.0, r.1, d.0, d.1)

percent_gives : (bytes : List ℕ) (x : Utf8) (b : ℕ) (u v : List ℕ) (t : ShownState)
    → shown_step (Percent bytes x) b ≡ Some t → ResidualShown t u v
    → ResidualShown (Percent bytes x) (b ∷ u) v
percent_gives bytes x b u v t n r = let k = percent_cases bytes x b t n in
    go k.0 k.1 (subst (λ y. ResidualShown y u v) k.4 r)
  where
    go : (h : ℕ) → hex h ≡ b → ResidualShown (Hex bytes x h) u v
        → ResidualShown (Percent bytes x) (b ∷ u) v
    go h e (c, suffix, e1, e2, q) = (c, suffix, ap₂ (λ x y. x ∷ y) (sym e ∙ ap hex e1) e2, q)

hex_taken : (bytes : List ℕ) (x : Utf8) (h b : ℕ) (u v : List ℕ)
    → ResidualShown (Hex bytes x h) (b ∷ u) v
    → (t : ShownState) × (shown_step (Hex bytes x h) b ≡ Some t) × ResidualShown t u v
hex_taken bytes x h b u v (c, suffix, e, e0, (s, k, p, w, i)) =
    let e1 : b ≡ hex (c % 16) = cc in
    let e2 : suffix ≡ u = cc in
    let n = well_formed_next x c s w in
    let a = ap unhex e1 ∙ hex_read (c % 16) (low_small c) in
    let d = ap (λ y. y * 16 + c % 16) e ∙ joined c in
    let go : ℕ
    → Option ShownState = λ y. option_map (Unencoded (bytes ++ y ∷ [])) (utf8_step x y) in (
      Unencoded (bytes ++ c ∷ []) n.0,
      ap (λ o. option_and_then (λ l. option_map (Unencoded (bytes
          ++ (h * 16 + l) ∷ [])) (utf8_step x (h * 16 + l))) o) a
          ∙ ap (λ y. option_map (Unencoded (bytes ++ y ∷ [])) (utf8_step x y)) d
          ∙ ap (option_map (Unencoded (bytes ++ c ∷ []))) n.1,
      (s, subst (λ y. EncodedBytes y s) e2 p, n.2, i ∙ sym (append_assoc bytes (c ∷ []) s)),
    )

hex_cases : (bytes : List ℕ) (x : Utf8) (h b : ℕ) (t : ShownState)
    → shown_step (Hex bytes x h) b ≡ Some t
    → (l : ℕ) × (y : Utf8) × (hex l ≡ b) × (l < 16) × (utf8_step x (h * 16 + l) ≡ Some y)
    × (t ≡ Unencoded (bytes ++ (h * 16 + l) ∷ []) y)
hex_cases bytes x h b t n =
    let c = and_then_cases (unhex b) (λ l. option_map (Unencoded (bytes
    ++ (h * 16 + l) ∷ [])) (utf8_step x (h * 16 + l))) t n in
    let d = map_cases (Unencoded (bytes ++ (h * 16 + c.0) ∷ [])) (utf8_step x (h * 16 + c.0)) t
    c.2 in
    let r = read_hex b c.0 c.1 in
    (c.0, d.0, r.0, r.1, d.1, d.2)

split_high : (h l : ℕ) → l < 16 → (h * 16 + l) / 16 ≡ h
split_high h l k = omega arith

split_low : (h l : ℕ) → l < 16 → (h * 16 + l) % 16 ≡ l
split_low h l k = omega arith

split_small : (h l : ℕ) → h < 16 → l < 16 → h * 16 + l < 256
split_small h l k j = omega arith

hex_gives : (bytes : List ℕ) (x : Utf8) (h b : ℕ) (u v : List ℕ) (t : ShownState) → h < 16
    → shown_step (Hex bytes x h) b ≡ Some t → ResidualShown t u v
    → ResidualShown (Hex bytes x h) (b ∷ u) v
hex_gives bytes x h b u v t g n r = let k = hex_cases bytes x h b t n in
    go k.0 k.1 k.2 k.3 k.4 (subst (λ y. ResidualShown y u v) k.5 r)
  where
    go : (l : ℕ) (y : Utf8) → hex l ≡ b → l < 16 → utf8_step x (h * 16 + l) ≡ Some y
        → ResidualShown (Unencoded (bytes ++ (h * 16 + l) ∷ []) y) u v
        → ResidualShown (Hex bytes x h) (b ∷ u) v
    go l y e f m (s, p, w, i) =
        let c = h * 16 + l in (
          c,
          u,
          sym (split_high h l f),
          ap (λ y. y ∷ u) (sym e
              ∙ ap hex (sym (split_low h l f))),
          (
            s,
            small_byte c (split_small h l g f),
            p,
            well_formed_more x y c s m w,
            i
                ∙ append_assoc bytes (c ∷ []) s,
          ),
        )

no_pieces : (s : List ℕ) → EncodedBytes [] s → ⊥
no_pieces [] p = cc
no_pieces (c ∷ s) (suffix, inl (k, e), p) = cc (e)
no_pieces (c ∷ s) (suffix, inr (k, e), p) = cc (e)

pub shown_reads : (s : ShownState) → GoodShown s
    → Reads ShownState (List ℕ) GoodShown ResidualShown (ResidualShown s) (shown_step s)
    (shown_finish s)
shown_reads Quote g = reads_after 34 (Unencoded [] Start) tt
shown_reads (Unencoded bytes x) g = record {
  taken = unencoded_taken bytes x;
  gives = unencoded_gives bytes x;
  good = unencoded_good;
  ends = λ v r. absurd (no_pieces r.0 r.1);
  ended = λ v e. absurd cc;
}
  where
    quoted : (x : Utf8) (t : ShownState) → quote_step bytes x ≡ Some t → GoodShown t
    quoted Start t m = let c : t ≡ Done bytes = cc in subst GoodShown (sym c) tt
    quoted (Within k low high) t m = absurd cc

    unencoded_good : (b : ℕ) (t : ShownState) → shown_step (Unencoded bytes x) b ≡ Some t
        → GoodShown t
    unencoded_good b t n = ⊎_elim
        (λ k. quoted x t k.1)
        (⊎_elim
        (λ k. subst GoodShown (sym k.1) g)
        (λ k. let c = map_cases (Unencoded (bytes ++ b ∷ [])) (utf8_step x b) t k.1 in
        subst GoodShown (sym c.2) (utf8_good x c.0 b c.1)))
        (unencoded_cases bytes x b t n)
shown_reads (Percent bytes x) g = record {
  taken = percent_taken bytes x;
  gives = percent_gives bytes x;
  good = λ b t n. let k = percent_cases bytes x b t n in subst GoodShown (sym k.4) (g, k.2, k.3);
  ends = λ v r. absurd (cc (r.2));
  ended = λ v e. absurd cc;
}
shown_reads (Hex bytes x h) g = record {
  taken = hex_taken bytes x h;
  gives = λ b u v t n r. hex_gives bytes x h b u v t g.1 n r;
  good = λ b t n. let k = hex_cases bytes x h b t n in
      subst GoodShown (sym k.5) (utf8_good x k.1 (h * 16 + k.0) k.4);
  ends = λ v r. absurd (cc (r.3));
  ended = λ v e. absurd cc;
}
shown_reads (Done bytes) g = record {
  taken = λ b u v h. absurd (cc (h.0));
  gives = λ b u v s n h. absurd cc;
  good = λ b s n. absurd cc;
  ends = λ v h. ap Some (sym h.1);
  ended = λ v e. (refl, cc);
}

-- a completion of a character
record Ending (x : Utf8) : Type 0 where
  bytes : List ℕ
  text : List ℕ
  chunks : EncodedBytes text bytes
  whole : WellFormed x bytes

low_byte : (low high : ℕ) → 128 ≤ low → low ≤ high → high ≤ 191
    → (within low high low ≡ true) × (is_byte low ≡ true)
low_byte low high g k l = (
  in_range low high low (omega arith) (omega arith),
  small_byte low (omega arith),
)

char_ends : (n low high : ℕ) → GoodUtf8 (Within n low high) → Ending (Within n low high)
char_ends zero low high g = let k = low_byte low high g.0 g.1 g.2 in record {
  bytes = low ∷ [];
  text = 37 ∷ hex (low / 16) ∷ hex (low % 16) ∷ 34 ∷ [];
  chunks = (34 ∷ [], inr (k.1, refl), refl);
  whole = (Start, rw k.0 refl, tt);
}
char_ends (suc n) low high g = let k = low_byte low high g.0 g.1 g.2 in
    let e = char_ends n 128 191 (omega arith) in record {
      bytes = low ∷ e.bytes;
      text = 37 ∷ hex (low / 16) ∷ hex (low % 16) ∷ e.text;
      chunks = (e.text, inr (k.1, refl), e.chunks);
      whole = (Within n 128 191, rw k.0 refl, e.whole);
    }

ending : (x : Utf8) → GoodUtf8 x → Ending x
ending Start g = record { bytes = []; text = 34 ∷ []; chunks = refl; whole = tt }
ending (Within n low high) g = char_ends n low high g

pub shown_lives : (s : ShownState) → GoodShown s → Live (List ℕ) (ResidualShown s)
shown_lives Quote g = record {
  text = 34 ∷ 34 ∷ [];
  value = [];
  whole = (
    34 ∷ [],
    refl,
    ([], refl, tt, refl),
  );
}
shown_lives (Unencoded bytes x) g = let e = ending x g in
    record { text = e.text; value = bytes ++ e.bytes; whole = (e.bytes, e.chunks, e.whole, refl) }
shown_lives (Percent bytes Start) g = record {
  text = 54 ∷ 49 ∷ 34 ∷ [];
  value = bytes ++ 97 ∷ [];
  whole = (
    97,
    34 ∷ [],
    refl,
    ([], refl, refl, (Start, refl, tt), refl),
  );
}
shown_lives (Percent bytes (Within n low high)) g =
    let k = low_byte low high g.0 g.1 g.2 in
    let e = ending (followed_by n) (followed_good n) in
    record {
      text = hex (low / 16) ∷ hex (low % 16) ∷ e.text;
      value = bytes ++ low ∷ e.bytes;
      whole = (
        low,
        e.text,
        refl,
        (e.bytes, k.1, e.chunks, (followed_by n, rw k.0 refl, e.whole), refl),
      );
    }
shown_lives (Hex bytes x h) g =
    let f = found x h g.0 g.1 g.2 in
    let e = ending f.1 (utf8_good x f.1 f.0 f.4) in
    record {
      text = hex (f.0 % 16) ∷ e.text;
      value = bytes ++ f.0 ∷ e.bytes;
      whole = (
        f.0,
        e.text,
        sym f.2,
        refl,
        (
          e.bytes,
          small_byte f.0 f.3,
          e.chunks,
          well_formed_more x f.1 f.0 e.bytes f.4 e.whole,
          refl,
        ),
      );
    }
shown_lives (Done bytes) g = record { text = []; value = bytes; whole = (refl, refl) }
