-- Bytes are decoded.
use Rattle.std.proofs.Common.{◌≡◌, ◌≢◌, ℕ, ◌+◌, ◌*◌, ◌/◌, ◌%◌, ◌<◌, Bool, true, false, List, []}
use Rattle.std.proofs.Common.{append_assoc, length, length-append}
use Rattle.std.proofs.Common.{◌∷◌, ◌++◌, refl, sym, ap, ◌∙◌, subst, arith, inl, inr, ◌⊎◌}
use Rattle.sf_value.specs.Ascii.{quote, backslash, percent}
use Rattle.sf_value.specs.Grammar.Words.{Every}
use Rattle.sf_value.specs.Grammar.Classes.{is_byte}
use Rattle.sf_value.specs.Grammar.Strings.{is_escaped, is_unescaped, escaped}
use Rattle.sf_value.specs.Grammar.DisplayStrings.{hex, is_unencoded, EncodedBytes}
use Rattle.sf_value.specs.Grammar.ByteSequences.{letter, unpadded, spare, needed, Pads}
use Rattle.sf_value.proofs.DigitValues.{letter_same}
use Rattle.sf_parse.proofs.Quads.{byte_small, pads_letter, first_small}
use Rattle.sf_view.specs.declared.bytes.Coding.{Coding}
use Rattle.sf_view.specs.declared.bytes.Coding.TheVariants as coding
use Rattle.sf_view.specs.Decoding.{Remains, TakesByte, TakesRun, NoLetter}

heads_same : (x : ℕ) (t : List ℕ) (y : ℕ) (u : List ℕ) → x ∷ t ≡ y ∷ u → (x ≡ y) × (t ≡ u)
heads_same x t y u e = (cc, cc)

backslash_quote : backslash ≡ quote → ⊥
backslash_quote e = cc

quote_percent : quote ≡ percent → ⊥
quote_percent e = cc

percent_quote : percent ≡ quote → ⊥
percent_quote e = cc

true_false : true ≡ false → ⊥
true_false e = cc

no_head : (x : ℕ) (t : List ℕ) → [] ≡ x ∷ t → ⊥
no_head x t e = cc

-- a byte of a String, with or without a backslash
EscapedAs : ℕ → List ℕ → Type 0
EscapedAs b s =
    ((is_escaped b ≡ true) × (escaped (b ∷ s) ≡ 92 ∷ b ∷ escaped s))
    ⊎ ((is_escaped b ≡ false) × (escaped (b ∷ s) ≡ b ∷ escaped s))

escaped_as : (b : ℕ) (s : List ℕ) → EscapedAs b s
unfolding EscapedAs
escaped_as b s = by (is_escaped b) refl
  where
    by : (v : Bool) → is_escaped b ≡ v → EscapedAs b s
    by true e = inl (e, rw e refl)
    by false e = inr (e, rw e refl)

pub quote_ends : (text rest s : List ℕ) → text ≡ 34 ∷ rest → Remains coding.Escaped text s → s ≡ []
unfolding EscapedAs
quote_ends text rest [] e h = refl
quote_ends text rest (b ∷ s) e h = by (escaped_as b s)
  where
    by : EscapedAs b s → b ∷ s ≡ []
    by (inl (g, k)) =
        let f : 34 ∷ rest ≡ 92 ∷ b ∷ escaped s ++ 34 ∷ [] =
        sym e ∙ h ∙ ap (λ y. y ++ 34 ∷ []) k in
        absurd (backslash_quote (sym (heads_same _ _ _ _ f).0))
    by (inr (g, k)) =
        let f : 34 ∷ rest ≡ b ∷ escaped s ++ 34 ∷ [] = sym e ∙ h ∙ ap (λ y. y ++ 34 ∷ []) k in
        absurd (true_false (ap is_escaped (heads_same _ _ _ _ f).0 ∙ g))

pub backslash_takes : (text rest s : List ℕ) (c : ℕ) (later : List ℕ) → text ≡ 92 ∷ rest
    → rest ≡ c ∷ later → Remains coding.Escaped text s
    → TakesByte c (Remains coding.Escaped later) s
unfolding EscapedAs
backslash_takes text rest [] c later e f h = absurd (backslash_quote (heads_same _ _ _ _ (sym e ∙ h)).0)
backslash_takes text rest (b ∷ s) c later e f h = by (escaped_as b s)
  where
    by : EscapedAs b s → TakesByte c (Remains coding.Escaped later) (b ∷ s)
    by (inl (g, k)) =
        let w : 92 ∷ c ∷ later ≡ 92 ∷ b ∷ (escaped s ++ 34 ∷ []) =
        ap (λ y. 92 ∷ y) (sym f) ∙ sym e ∙ h ∙ ap (λ y. y ++ 34 ∷ []) k in
        let one = heads_same _ _ _ _ w in
        let two = heads_same _ _ _ _ one.1 in
        record { left = s; split = ap (λ y. y ∷ s) (sym two.0); remains = two.1 }
    by (inr (g, k)) =
        let w : 92 ∷ rest ≡ b ∷ escaped s ++ 34 ∷ [] = sym e ∙ h ∙ ap (λ y. y ++ 34 ∷ []) k in
        absurd (true_false (ap is_escaped (heads_same _ _ _ _ w).0 ∙ g))

pub backslash_some : (text rest s : List ℕ) → text ≡ 92 ∷ rest → rest ≡ []
    → Remains coding.Escaped text s → ⊥
unfolding EscapedAs
backslash_some text rest [] e f h = backslash_quote (heads_same _ _ _ _ (sym e ∙ h)).0
backslash_some text rest (b ∷ s) e f h = by (escaped_as b s)
  where
    by : EscapedAs b s → ⊥
    by (inl (g, k)) =
        let w : 92 ∷ rest ≡ 92 ∷ b ∷ (escaped s ++ 34 ∷ []) =
        sym e ∙ h ∙ ap (λ y. y ++ 34 ∷ []) k in
        no_head b (escaped s ++ 34 ∷ []) (sym f ∙ (heads_same _ _ _ _ w).1)
    by (inr (g, k)) =
        let w : 92 ∷ rest ≡ b ∷ escaped s ++ 34 ∷ [] = sym e ∙ h ∙ ap (λ y. y ++ 34 ∷ []) k in
        true_false (ap is_escaped (heads_same _ _ _ _ w).0 ∙ g)

pub plain_takes : (text rest s : List ℕ) (c : ℕ) → text ≡ c ∷ rest → c ≢ 34 → c ≢ 92
    → Remains coding.Escaped text s → TakesByte c (Remains coding.Escaped rest) s
unfolding EscapedAs
plain_takes text rest [] c e n m h = absurd (n (heads_same _ _ _ _ (sym e ∙ h)).0)
plain_takes text rest (b ∷ s) c e n m h = by (escaped_as b s)
  where
    by : EscapedAs b s → TakesByte c (Remains coding.Escaped rest) (b ∷ s)
    by (inl (g, k)) =
        let w : c ∷ rest ≡ 92 ∷ b ∷ (escaped s ++ 34 ∷ []) =
        sym e ∙ h ∙ ap (λ y. y ++ 34 ∷ []) k in
        absurd (m (heads_same _ _ _ _ w).0)
    by (inr (g, k)) =
        let w : c ∷ rest ≡ b ∷ (escaped s ++ 34 ∷ []) = sym e ∙ h ∙ ap (λ y. y ++ 34 ∷ []) k in
        let one = heads_same _ _ _ _ w in
        record { left = s; split = ap (λ y. y ∷ s) (sym one.0); remains = one.1 }

-- bytes of a String without an escape
pub plain_run : (text run rest s : List ℕ) → text ≡ run ++ rest → Every is_unescaped run
    → Remains coding.Escaped text s → TakesRun run (Remains coding.Escaped rest) s
plain_run text [] rest s e u h =
    record { left = s; split = refl; remains = subst (λ y. Remains coding.Escaped y s) e h }
plain_run text (b ∷ run) rest s e u h =
    let one = plain_takes text (run ++ rest) s b e
    (λ is. true_false (sym u.0 ∙ ap is_unescaped is))
    (λ is. true_false (sym u.0 ∙ ap is_unescaped is)) h in
    let more = plain_run (run ++ rest) run rest one.left refl u.1 one.remains in
    record {
      left = more.left;
      split = one.split ∙ ap (λ y. b ∷ y) more.split;
      remains = more.remains;
    }

-- Display Strings
pub shown_none : (text s : List ℕ) → text ≡ [] → Remains coding.Percent text s → s ≡ []
shown_none text [] e h = refl
shown_none text (b ∷ s) e (suffix, inl (u, k), p) =
    absurd (no_head _ _ (sym e ∙ k))
shown_none text (b ∷ s) e (suffix, inr (u, k), p) =
    absurd (no_head _ _ (sym e ∙ k))

pub shown_ends : (text rest s : List ℕ) → text ≡ 34 ∷ rest → Remains coding.Percent text s → s ≡ []
shown_ends text rest [] e h = refl
shown_ends text rest (b ∷ s) e (suffix, inl (u, k), p) =
    absurd (true_false (sym (ap is_unencoded (heads_same _ _ _ _ (sym e ∙ k)).0 ∙ u)))
shown_ends text rest (b ∷ s) e (suffix, inr (u, k), p) =
    absurd (quote_percent (heads_same _ _ _ _ (sym e ∙ k)).0)

-- an escape of the first byte comes next
pub record AtEscape (rest s : List ℕ) : Type 0 where
  pub byte : ℕ
  pub later : List ℕ
  pub left : List ℕ
  pub split : s ≡ byte ∷ left
  pub small : byte < 256
  pub text : rest ≡ hex (byte / 16) ∷ hex (byte % 16) ∷ later
  pub remains : EncodedBytes later left

pub at_escape : (text rest s : List ℕ) → text ≡ 37 ∷ rest → Remains coding.Percent text s
    → AtEscape rest s
at_escape text rest [] e h = absurd (percent_quote (heads_same _ _ _ _ (sym e ∙ h)).0)
at_escape text rest (b ∷ s) e (suffix, inl (u, k), p) =
    absurd (true_false (sym (ap is_unencoded (heads_same _ _ _ _ (sym e ∙ k)).0 ∙ u)))
at_escape text rest (b ∷ s) e (suffix, inr (u, k), p) = record {
  byte = b;
  later = suffix;
  left = s;
  split = refl;
  small = byte_small b u;
  text = (heads_same _ _ _ _ (sym e ∙ k)).1;
  remains = p;
}

pub escape_takes : (rest s : List ℕ) (c : ℕ) (later : List ℕ) (h : AtEscape rest s) → c ≡ h.byte
    → later ≡ h.later → TakesByte c (Remains coding.Percent later) s
escape_takes rest s c later h e f = record {
  left = h.left;
  split = h.split ∙ ap (λ y. y ∷ h.left) (sym e);
  remains = subst (λ y. EncodedBytes y h.left) (sym f) h.remains;
}

pub unencoded_takes : (text rest s : List ℕ) (c : ℕ) → text ≡ c ∷ rest → c ≢ 34 → c ≢ 37
    → Remains coding.Percent text s → TakesByte c (Remains coding.Percent rest) s
unencoded_takes text rest [] c e n m h = absurd (n (heads_same _ _ _ _ (sym e ∙ h)).0)
unencoded_takes text rest (b ∷ s) c e n m (suffix, inl (u, k), p) =
    let one = heads_same _ _ _ _ (sym e ∙ k) in
    record {
      left = s;
      split = ap (λ y. y ∷ s) (sym one.0);
      remains = subst (λ y. EncodedBytes y s) (sym one.1) p;
    }
unencoded_takes text rest (b ∷ s) c e n m (suffix, inr (u, k), p) =
    absurd (m (heads_same _ _ _ _ (sym e ∙ k)).0)

-- bytes of a Display String without an escape
pub unencoded_run : (text run rest s : List ℕ) → text ≡ run ++ rest → Every is_unencoded run
    → Remains coding.Percent text s → TakesRun run (Remains coding.Percent rest) s
unencoded_run text [] rest s e u h =
    record { left = s; split = refl; remains = subst (λ y. Remains coding.Percent y s) e h }
unencoded_run text (b ∷ run) rest s e u h =
    let one = unencoded_takes text (run ++ rest) s b e
    (λ is. true_false (sym u.0 ∙ ap is_unencoded is))
    (λ is. true_false (sym u.0 ∙ ap is_unencoded is)) h in
    let more = unencoded_run (run ++ rest) run rest one.left refl u.1 one.remains in
    record {
      left = more.left;
      split = one.split ∙ ap (λ y. b ∷ y) more.split;
      remains = more.remains;
    }

-- base64: what the second character of a group holds of the second byte, and what follows it
second_high : ℕ → List ℕ → ℕ
second_high low [] = low
second_high low (b ∷ s) = b / 16

after_second : ℕ → List ℕ → List ℕ
after_second low [] = []
after_second low (b ∷ []) = letter (b % 16 * 4 + low) ∷ []
after_second low (b ∷ c ∷ s) =
    letter (b % 16 * 4 + c / 64) ∷ letter (c % 64) ∷ unpadded low s

by_first : (low a : ℕ) (s : List ℕ) → unpadded low (a ∷ s)
    ≡ letter (a / 4) ∷ letter (a % 4 * 16 + second_high low s) ∷ after_second low s
unfolding second_high after_second
by_first low a (b ∷ c ∷ s) = refl
by_first low a s = refl

same_spare : (a b : ℕ) (s : List ℕ) → spare (a ∷ s) ≡ spare (b ∷ s)
same_spare a b (c ∷ d ∷ s) = refl
same_spare a b s = refl

same_needed : (a b : ℕ) (s : List ℕ) → needed (a ∷ s) ≡ needed (b ∷ s)
same_needed a b (c ∷ d ∷ s) = refl
same_needed a b s = refl

high_small : (low a : ℕ) (s : List ℕ) → low < spare (a ∷ s) → Every is_byte s
    → second_high low s < 16
unfolding second_high
high_small low a [] h f = h
high_small low a (b ∷ s) h f = let g = byte_small b f.0 in omega arith

-- what the third character holds of the third byte, and what follows it
third_high : ℕ → List ℕ → ℕ
third_high low [] = low
third_high low (c ∷ s) = c / 64

after_third : ℕ → List ℕ → List ℕ
after_third low [] = []
after_third low (c ∷ s) = letter (c % 64) ∷ unpadded low s

by_second : (low a b : ℕ) (s : List ℕ) → unpadded low (a ∷ b ∷ s)
    ≡ letter (a / 4) ∷ letter (a % 4 * 16 + b / 16) ∷ letter (b % 16 * 4 + third_high low s)
    ∷ after_third low s
unfolding third_high after_third
by_second low a b [] = refl
by_second low a b (c ∷ s) = refl

third_small : (low a b : ℕ) (s : List ℕ) → low < spare (a ∷ b ∷ s) → Every is_byte s
    → third_high low s < 4
unfolding third_high
third_small low a b [] h f = h
third_small low a b (c ∷ s) h f = let g = byte_small c f.0 in omega arith

spare_second : (a b a' b' : ℕ) (s : List ℕ) → spare (a ∷ b ∷ s) ≡ spare (a' ∷ b' ∷ s)
spare_second a b a' b' [] = refl
spare_second a b a' b' (c ∷ s) = refl

needed_second : (a b a' b' : ℕ) (s : List ℕ) → needed (a ∷ b ∷ s) ≡ needed (a' ∷ b' ∷ s)
needed_second a b a' b' [] = refl
needed_second a b a' b' (c ∷ s) = refl

-- the first byte of a group
pub first_takes : (text rest s : List ℕ) (x y : ℕ) → x < 64 → y < 64
    → text ≡ letter x ∷ letter y ∷ rest → Remains coding.First text s
    → TakesByte (x * 4 + y / 16) (Remains (coding.Second (y % 16)) rest) s
first_takes text rest [] x y gx gy e (low, suffix, lt, h, f, p) =
    absurd (pads_letter 0 x (letter y ∷ rest) gx (subst (Pads 0) (sym h ∙ e) p))
first_takes text rest (a ∷ s) x y gx gy e (low, suffix, lt, h, f, p) =
    let high = second_high low s in
    let small = high_small low a s lt f.1 in
    let whole : letter x ∷ letter y ∷ rest
    ≡ letter (a / 4) ∷ letter (a % 4 * 16 + high) ∷ (after_second low s ++ suffix) =
    sym e ∙ h ∙ ap (λ z. z ++ suffix) (by_first low a s) in
    let one = heads_same _ _ _ _ whole in
    let two = heads_same _ _ _ _ one.1 in
    let ga = byte_small a f.0 in
    let ex : x ≡ a / 4 = letter_same x (a / 4) gx (first_small a ga) one.0 in
    let ey : y ≡ a % 4 * 16 + high =
    letter_same y (a % 4 * 16 + high) gy (omega arith) two.0 in
    let value : a ≡ x * 4 + y / 16 = omega arith in
    let low_is : y % 16 ≡ 0 + high = omega arith in
    record {
      left = s;
      split = ap (λ z. z ∷ s) value;
      remains = (
        omega arith,
        (
          low,
          suffix,
          subst (λ z. low < z) (same_spare a 0 s) lt,
          ap (λ z. letter 0 ∷ letter z ∷ rest) low_is
              ∙ ap (λ z. letter 0 ∷ letter (0 + high) ∷ z) two.1
              ∙ sym (ap (λ z. z ++ suffix) (by_first low 0 s)),
          (refl, f.1),
          subst (λ z. Pads z suffix) (same_needed a 0 s) p,
        ),
      );
    }

-- the second
pub second_takes : (text rest s : List ℕ) (high z : ℕ) → z < 64 → text ≡ letter z ∷ rest
    → Remains (coding.Second high) text s
    → TakesByte (high % 16 * 16 + z / 4) (Remains (coding.Third (z % 4)) rest) s
second_takes text rest [] high z gz e (small, (low, suffix, lt, h, f, p)) =
    let one = heads_same _ _ _ _ h in
    let two = heads_same _ _ _ _ one.1 in
    absurd (pads_letter 2 z rest gz (subst (Pads 2) (sym two.1 ∙ e) p))
second_takes text rest (b ∷ s) high z gz e (small, (low, suffix, lt, h, f, p)) =
    let more = third_high low s in
    let less = third_small low 0 b s lt f.1.1 in
    let whole : letter 0 ∷ letter high ∷ letter z ∷ rest
    ≡ letter 0 ∷ letter (0 + b / 16) ∷ letter (b % 16 * 4 + more) ∷ (after_third low s ++ suffix) =
    ap (λ t. letter 0 ∷ letter high ∷ t) (sym e) ∙ h ∙ ap (λ t. t ++ suffix) (by_second low 0 b s) in
    let one = heads_same _ _ _ _ whole in
    let two = heads_same _ _ _ _ one.1 in
    let three = heads_same _ _ _ _ two.1 in
    let gb = byte_small b f.1.0 in
    let eh : high ≡ 0 + b / 16 =
    letter_same high (0 + b / 16) (omega arith) (omega arith) two.0 in
    let ez : z ≡ b % 16 * 4 + more =
    letter_same z (b % 16 * 4 + more) gz (omega arith) three.0 in
    let value : b ≡ high % 16 * 16 + z / 4 = omega arith in
    let low_is : z % 4 ≡ 0 + more = omega arith in
    record {
      left = s;
      split = ap (λ t. t ∷ s) value;
      remains = (
        omega arith,
        (
          low,
          suffix,
          subst (λ t. low < t) (spare_second 0 b 0 0 s) lt,
          ap (λ t. letter 0 ∷ letter 0 ∷ letter t ∷ rest) low_is
              ∙ ap (λ t. letter 0 ∷ letter 0 ∷ letter (0 + more) ∷ t) three.1
              ∙ sym (ap (λ t. t ++ suffix) (by_second low 0 0 s)),
          (refl, (refl, f.1.1)),
          subst (λ t. Pads t suffix) (needed_second 0 b 0 0 s) p,
        ),
      );
    }

-- the third
pub third_takes : (text rest s : List ℕ) (high w : ℕ) → w < 64 → text ≡ letter w ∷ rest
    → Remains (coding.Third high) text s
    → TakesByte (high % 4 * 64 + w) (Remains coding.First rest) s
third_takes text rest [] high w gw e (small, (low, suffix, lt, h, f, p)) =
    let one = heads_same _ _ _ _ h in
    let two = heads_same _ _ _ _ one.1 in
    let three = heads_same _ _ _ _ two.1 in
    absurd (pads_letter 1 w rest gw (subst (Pads 1) (sym three.1 ∙ e) p))
third_takes text rest (c ∷ s) high w gw e (small, (low, suffix, lt, h, f, p)) =
    let whole : letter 0 ∷ letter 0 ∷ letter high ∷ letter w ∷ rest
    ≡ letter 0 ∷ letter 0 ∷ letter (0 + c / 64) ∷ letter (c % 64) ∷ (unpadded low s ++ suffix) =
    ap (λ t. letter 0 ∷ letter 0 ∷ letter high ∷ t) (sym e) ∙ h in
    let one = heads_same _ _ _ _ whole in
    let two = heads_same _ _ _ _ one.1 in
    let three = heads_same _ _ _ _ two.1 in
    let four = heads_same _ _ _ _ three.1 in
    let gc = byte_small c f.1.1.0 in
    let eh : high ≡ 0 + c / 64 =
    letter_same high (0 + c / 64) (omega arith) (omega arith) three.0 in
    let ew : w ≡ c % 64 = letter_same w (c % 64) gw (omega arith) four.0 in
    let value : c ≡ high % 4 * 64 + w = omega arith in
    record {
      left = s;
      split = ap (λ t. t ∷ s) value;
      remains = (low, suffix, lt, four.1, f.1.1.1, p);
    }

-- where no character comes no byte is left
pub first_none : (text s : List ℕ) → NoLetter text → Remains coding.First text s → s ≡ []
first_none text [] n h = refl
first_none text (a ∷ s) n (low, suffix, lt, h, f, p) =
    let n' = subst NoLetter (h ∙ ap (λ z. z ++ suffix) (by_first low a s)) n in
    absurd (n' (a / 4) (first_small a (byte_small a f.0)) refl)

-- so many bytes were decoded, and the rest spells those after them
pub record Decoded (code : Coding) (rest done t : List ℕ) : Type 0 where
  pub left : List ℕ
  pub split : t ≡ done ++ left
  pub remains : Remains code rest left

pub decoded_more : (code next : Coding) (rest later done done' t : List ℕ) (b : ℕ)
    → ((s : List ℕ) → Remains code rest s → TakesByte b (Remains next later) s)
    → done' ≡ done ++ b ∷ [] → Decoded code rest done t → Decoded next later done' t
decoded_more code next rest later done done' t b takes e d =
    let h = takes d.left d.remains in
    record {
      left = h.left;
      split =
          d.split
          ∙ ap (λ y. done ++ y) h.split
          ∙ sym (append_assoc done (b ∷ []) h.left)
          ∙ ap (λ y. y ++ h.left) (sym e);
      remains = h.remains;
    }

pub decoded_part : (code next : Coding) (rest later done done' run t : List ℕ)
    → ((s : List ℕ) → Remains code rest s → TakesRun run (Remains next later) s)
    → done' ≡ done ++ run → Decoded code rest done t → Decoded next later done' t
decoded_part code next rest later done done' run t takes e d =
    let h = takes d.left d.remains in
    record {
      left = h.left;
      split =
          d.split
          ∙ ap (λ y. done ++ y) h.split
          ∙ sym (append_assoc done run h.left)
          ∙ ap (λ y. y ++ h.left) (sym e);
      remains = h.remains;
    }

-- all of them
pub decoded_all : (code : Coding) (rest done done' run t : List ℕ)
    → ((s : List ℕ) → Remains code rest s → s ≡ run) → done' ≡ done ++ run
    → Decoded code rest done t → done' ≡ t
decoded_all code rest done done' run t takes e d =
    e ∙ ap (λ y. done ++ y) (sym (takes d.left d.remains)) ∙ sym d.split

-- bytes that were decoded from the start
pub decoded_taken : (code : Coding) (rest done t : List ℕ) → Decoded code rest done t
    → TakesRun done (Remains code rest) t
decoded_taken code rest done t d = record { left = d.left; split = d.split; remains = d.remains }

-- so many bytes were read, and the rest spells those after them
pub record CountedSoFar (code : Coding) (rest : List ℕ) (count : ℕ) (t : List ℕ) : Type 0 where
  pub left : List ℕ
  pub size : length t ≡ count + length left
  pub remains : Remains code rest left

pub counted_none : (code : Coding) (rest t : List ℕ) → Remains code rest t
    → CountedSoFar code rest 0 t
counted_none code rest t r = record { left = t; size = omega arith; remains = r }

pub counted_run : (code : Coding) (rest behind run t : List ℕ) (count more : ℕ)
    → ((s : List ℕ) → Remains code rest s → TakesRun run (Remains code behind) s)
    → more ≡ count + length run → CountedSoFar code rest count t
    → CountedSoFar code behind more t
counted_run code rest behind run t count more takes e d =
    let h = takes d.left d.remains in
    let size = d.size in
    let split = ap length h.split ∙ length-append run h.left in
    record { left = h.left; size = omega arith; remains = h.remains }

pub counted_byte : (code next : Coding) (rest later t : List ℕ) (b count more : ℕ)
    → ((s : List ℕ) → Remains code rest s → TakesByte b (Remains next later) s)
    → more ≡ count + 1 → CountedSoFar code rest count t → CountedSoFar next later more t
counted_byte code next rest later t b count more takes e d =
    let h = takes d.left d.remains in
    let size = d.size in
    let split = ap length h.split in
    record { left = h.left; size = omega arith; remains = h.remains }

pub counted_all : (code : Coding) (rest t : List ℕ) (count : ℕ)
    → ((s : List ℕ) → Remains code rest s → s ≡ []) → CountedSoFar code rest count t
    → count ≡ length t
counted_all code rest t count none d =
    let size = d.size in
    let empty = ap length (none d.left d.remains) in
    omega arith
