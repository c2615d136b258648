-- Byte Sequences are read by an automaton, whose states are the places in them.
use Rattle.std.proofs.Common.{◌≡◌, ℕ, zero, suc, ◌+◌, ◌*◌, ◌/◌, ◌%◌, ◌<◌, ◌≤◌, Bool, true, false}
use Rattle.std.proofs.Common.{◌==◌, ◌||◌, if◌then◌else◌, List, [], ◌∷◌, ◌++◌, replicate}
use Rattle.std.proofs.Common.{Option, Some, None, refl, sym, ap, ap₂, subst}
use Rattle.std.proofs.Common.{eqb-true, arith}
use Rattle.sf_value.specs.Ascii.{colon, equals}
use Rattle.sf_value.specs.Digits.{sextet}
use Rattle.sf_value.specs.Grammar.Words.{Every}
use Rattle.sf_value.specs.Grammar.Classes.{is_byte}
use Rattle.sf_value.specs.Grammar.ByteSequences.{is_base64, letter, unpadded, spare, needed, Pads}
use Rattle.sf_value.specs.Grammar.ByteSequences.{Sextets}
use Rattle.sf_value.proofs.DigitValues.{read_letter}
use Rattle.sf_scan.specs.Blobs.{in_blob, values, more_values, octets, blob_bytes}
use Rattle.sf_scan.specs.declared.blob_place.BlobPlace.{BlobPlace}
use Rattle.sf_scan.specs.declared.blob_place.BlobPlace.TheVariants as blob
use Rattle.sf_scan.proofs.Automata.{Leads, Accepts}
use Rattle.sf_scan.proofs.Base64.{letter_base64, value_base64, none_base64, byte_small, first_small}
use Rattle.sf_scan.proofs.Base64.{second_small, third_small, fourth_small, alone_small, last_small}
use Rattle.sf_scan.proofs.Base64.{Held, H0, H1, H2, H3, letters, held, Small, none_gives, two_gives}
use Rattle.sf_scan.proofs.Base64.{three_gives, four_gives}

pub data State : Type 0 where
  At : (place : BlobPlace) → State
  Closed : State

abbrev pub next : State → ℕ → Bool
next (At p) b = in_blob p b
next Closed b = false

abbrev pub after : State → ℕ → State
after (At blob.Whole) b = if is_base64 b then At blob.One else Closed
after (At blob.One) b = At blob.Two
after (At blob.Two) b =
    if is_base64 b then At blob.Three else (if b == equals then At blob.Pad else Closed)
after (At blob.Three) b =
    if is_base64 b then At blob.Whole else (if b == equals then At blob.Padded else Closed)
after (At blob.Pad) b = if b == equals then At blob.Padded else Closed
after (At blob.Padded) b = Closed
after Closed b = Closed

abbrev pub final : State → Bool
final (At p) = false
final Closed = true

abbrev pub Text : State → List ℕ → Type 0
Text = Accepts next after final

abbrev pub Path : State → List ℕ → State → Type 0
Path = Leads next after

-- a character of base64 comes in a group
abbrev pub in_group : BlobPlace → Bool
in_group blob.Pad = false
in_group blob.Padded = false
in_group p = true

abbrev pub grown : BlobPlace → BlobPlace
grown blob.Whole = blob.One
grown blob.One = blob.Two
grown blob.Two = blob.Three
grown p = blob.Whole

pub character : (p : BlobPlace) (b : ℕ) → in_group p ≡ true → is_base64 b ≡ true
    → (next (At p) b ≡ true) × (after (At p) b ≡ At (grown p))
character blob.Whole b g e = (
  ap (λ c. c || b == colon) e,
  ap (λ c. if c then At blob.One else Closed) e,
)
character blob.One b g e = (e, refl)
character blob.Two b g e = (
  ap (λ c. c || (b == colon || b == equals)) e,
  ap (λ c. if c then At blob.Three else (if b == equals then At blob.Pad else Closed)) e,
)
character blob.Three b g e = (
  ap (λ c. c || (b == colon || b == equals)) e,
  ap (λ c. if c then At blob.Whole else (if b == equals then At blob.Padded else Closed)) e,
)
character blob.Pad b g e = absurd cc
character blob.Padded b g e = absurd cc

character_text : (p : BlobPlace) (x : ℕ) (t : List ℕ) → in_group p ≡ true → x < 64
    → Text (At (grown p)) t → Text (At p) (letter x ∷ t)
character_text p x t g l h =
    let k = character p (letter x) g (letter_base64 x l) in
    (k.0, subst (λ s. Text s t) (sym k.1) h)

-- the end of a Byte Sequence: at most this many =, and the colon
pads_text : (p : BlobPlace) (n : ℕ) (t : List ℕ) → Pads n t
    → ((m : ℕ) → m ≤ n → Text (At p) (replicate m equals ++ colon ∷ [])) → Text (At p) t
pads_text p n t (m, l, e) f = subst (Text (At p)) (sym e) (f m l)

whole_text : (m : ℕ) → m ≤ 0 → Text (At blob.Whole) (replicate m equals ++ colon ∷ [])
whole_text zero l = (refl, refl)
whole_text (suc m) l = absurd (omega arith)

three_text : (m : ℕ) → m ≤ 1 → Text (At blob.Three) (replicate m equals ++ colon ∷ [])
three_text zero l = (refl, refl)
three_text (suc zero) l = (refl, (refl, refl))
three_text (suc (suc m)) l = absurd (omega arith)

two_text : (m : ℕ) → m ≤ 2 → Text (At blob.Two) (replicate m equals ++ colon ∷ [])
two_text zero l = (refl, refl)
two_text (suc zero) l = (refl, (refl, refl))
two_text (suc (suc zero)) l = (refl, (refl, (refl, refl)))
two_text (suc (suc (suc m))) l = absurd (omega arith)

-- every text of the grammar is accepted
pub groups_text : (low : ℕ) (s suffix : List ℕ) → low < spare s → Every is_byte s
    → Pads (needed s) suffix → Text (At blob.Whole) (unpadded low s ++ suffix)
groups_text low [] suffix l f p = pads_text blob.Whole 0 suffix p whole_text
groups_text low (a ∷ []) suffix l f p =
    character_text blob.Whole (a / 4) (letter (a % 4 * 16 + low) ∷ suffix) refl
    (first_small a (byte_small a f.0))
    (character_text blob.One (a % 4 * 16 + low) suffix refl (alone_small a low l)
    (pads_text blob.Two 2 suffix p two_text))
groups_text low (a ∷ b ∷ []) suffix l f p =
    let c = letter (b % 16 * 4 + low) ∷ suffix in
    character_text blob.Whole (a / 4) (letter (a % 4 * 16 + b / 16) ∷ c) refl
    (first_small a (byte_small a f.0))
    (character_text blob.One (a % 4 * 16 + b / 16) c refl (second_small a b (byte_small b f.1.0))
    (character_text blob.Two (b % 16 * 4 + low) suffix refl (last_small b low l)
    (pads_text blob.Three 1 suffix p three_text)))
groups_text low (a ∷ b ∷ c ∷ s) suffix l f p =
    let e = unpadded low s ++ suffix in
    let g = letter (c % 64) ∷ e in
    let k = letter (b % 16 * 4 + c / 64) ∷ g in
    character_text blob.Whole (a / 4) (letter (a % 4 * 16 + b / 16) ∷ k) refl
    (first_small a (byte_small a f.0))
    (character_text blob.One (a % 4 * 16 + b / 16) k refl (second_small a b (byte_small b f.1.0))
    (character_text blob.Two (b % 16 * 4 + c / 64) g refl
    (third_small b c (byte_small c f.1.1.0))
    (character_text blob.Three (c % 64) e refl (fourth_small c)
    (groups_text low s suffix l f.1.1.1 p))))

-- every accepted text is one of the grammar: first what ends it
closed_reads : (b : ℕ) (t : List ℕ) (n : ℕ) → b ≡ colon → Text Closed t → Pads n (b ∷ t)
closed_reads b [] n e h = (0, omega arith, ap (λ c. c ∷ []) e)
closed_reads b (c ∷ t) n e h = absurd (let k = h.0 in cc)

pads_more : (n b : ℕ) (t : List ℕ) → b ≡ equals → Pads n t → Pads (suc n) (b ∷ t)
pads_more n b t e (m, l, f) = (suc m, omega arith, ap₂ (λ x y. x ∷ y) e f)

colon_left : (b : ℕ) → is_base64 b ≡ false → (is_base64 b || b == colon) ≡ true → b ≡ colon
colon_left b n h = eqb-true b colon (subst (λ c. (c || b == colon) ≡ true) n h)

colon_or : (b : ℕ) → (b == equals) ≡ false → (b == colon || b == equals) ≡ true → b ≡ colon
colon_or b n h = grind arith

padded_reads : (t : List ℕ) → Text (At blob.Padded) t → Pads 0 t
padded_reads [] h = absurd cc
padded_reads (b ∷ t) h = closed_reads b t 0 (eqb-true b colon h.0) h.1

pad_reads : (t : List ℕ) → Text (At blob.Pad) t → Pads 1 t
pad_reads [] h = absurd cc
pad_reads (b ∷ t) h = by (b == equals) refl
  where
    by : (x : Bool) → (b == equals) ≡ x → Pads 1 (b ∷ t)
    by true e = pads_more 0 b t (eqb-true b equals e)
        (padded_reads t (subst (λ c. Text (if c then At blob.Padded else Closed) t) e h.1))
    by false e = closed_reads b t 1 (colon_or b e h.0)
        (subst (λ c. Text (if c then At blob.Padded else Closed) t) e h.1)

whole_ends : (b : ℕ) (t : List ℕ) → is_base64 b ≡ false → Text (At blob.Whole) (b ∷ t)
    → Pads 0 (b ∷ t)
whole_ends b t n h = closed_reads b t 0 (colon_left b n h.0)
    (subst (λ c. Text (if c then At blob.One else Closed) t) n h.1)

three_ends : (b : ℕ) (t : List ℕ) → is_base64 b ≡ false → Text (At blob.Three) (b ∷ t)
    → Pads 1 (b ∷ t)
three_ends b t n h = by (b == equals) refl
    (subst (λ c. (c || (b == colon || b == equals)) ≡ true) n h.0)
    (subst (λ s. Text s t)
    (ap (λ c. if c then At blob.Whole else (if b == equals then At blob.Padded else Closed)) n) h.1)
  where
    by : (x : Bool) → (b == equals) ≡ x → (b == colon || b == equals) ≡ true
        → Text (if b == equals then At blob.Padded else Closed) t → Pads 1 (b ∷ t)
    by true e i k = pads_more 0 b t (eqb-true b equals e)
        (padded_reads t (subst (λ c. Text (if c then At blob.Padded else Closed) t) e k))
    by false e i k = closed_reads b t 1 (colon_or b e i)
        (subst (λ c. Text (if c then At blob.Padded else Closed) t) e k)

two_ends : (b : ℕ) (t : List ℕ) → is_base64 b ≡ false → Text (At blob.Two) (b ∷ t)
    → Pads 2 (b ∷ t)
two_ends b t n h = by (b == equals) refl
    (subst (λ c. (c || (b == colon || b == equals)) ≡ true) n h.0)
    (subst (λ s. Text s t)
    (ap (λ c. if c then At blob.Three else (if b == equals then At blob.Pad else Closed)) n) h.1)
  where
    by : (x : Bool) → (b == equals) ≡ x → (b == colon || b == equals) ≡ true
        → Text (if b == equals then At blob.Pad else Closed) t → Pads 2 (b ∷ t)
    by true e i k = pads_more 1 b t (eqb-true b equals e)
        (pad_reads t (subst (λ c. Text (if c then At blob.Pad else Closed) t) e k))
    by false e i k = closed_reads b t 2 (colon_or b e i)
        (subst (λ c. Text (if c then At blob.Pad else Closed) t) e k)

-- then all of it
abbrev place_of : Held → BlobPlace
place_of H0 = blob.Whole
place_of (H1 x) = blob.One
place_of (H2 x y) = blob.Two
place_of (H3 x y z) = blob.Three

-- the rest of a group is read on
Rest : Held → List ℕ → Type 0
Rest h t = Text (At (place_of h)) t → Sextets (letters h t) (octets (held h (values t)))

more : (h : Held) (b x : ℕ) (t : List ℕ) → Small h → sextet b ≡ Some x
    → ((g : Held) → Small g → Rest g t) → Text (At (place_of h)) (b ∷ t)
    → Sextets (letters h (b ∷ t)) (octets (held h (x ∷ values t)))
unfolding Rest
more h b x t s e rest a =
    subst (λ c. Sextets (letters h (c ∷ t)) (octets (held h (x ∷ values t)))) (read_letter b x e).0
    (by h s (read_letter b x e).1 a)
  where
    go : (h : Held) → in_group (place_of h) ≡ true → Text (At (place_of h)) (b ∷ t)
        → Text (At (grown (place_of h))) t
    go h g a = subst (λ s. Text s t) (character (place_of h) b g (value_base64 b x e)).1 a.1

    by : (h : Held) → Small h → x < 64 → Text (At (place_of h)) (b ∷ t)
        → Sextets (letters h (letter x ∷ t)) (octets (held h (x ∷ values t)))
    by H0 s l a = rest (H1 x) l (go H0 refl a)
    by (H1 y) s l a = rest (H2 y x) (s, l) (go (H1 y) refl a)
    by (H2 y z) s l a = rest (H3 y z x) (s.0, s.1, l) (go (H2 y z) refl a)
    by (H3 y z w) s l a =
        four_gives y z w x t (values t) s.0 s.1 s.2 l (rest H0 tt (go (H3 y z w) refl a))

last : (h : Held) (b : ℕ) (t : List ℕ) → Small h → is_base64 b ≡ false
    → Text (At (place_of h)) (b ∷ t) → Sextets (letters h (b ∷ t)) (octets (held h []))
last H0 b t s n a = none_gives (b ∷ t) (whole_ends b t n a)
last (H1 x) b t s n a = absurd (let k = a.0 in cc)
last (H2 x y) b t s n a = two_gives x y (b ∷ t) s.0 s.1 (two_ends b t n a)
last (H3 x y z) b t s n a = three_gives x y z (b ∷ t) s.0 s.1 s.2 (three_ends b t n a)

groups_read : (t : List ℕ) (h : Held) → Small h → Rest h t
unfolding Rest
groups_read [] h s a = absurd cc
groups_read (b ∷ t) h s a = by (sextet b) refl (λ g. groups_read t g)
  where
    by : (o : Option ℕ) → sextet b ≡ o → ((g : Held) → Small g → Rest g t)
        → Sextets (letters h (b ∷ t)) (octets (held h (more_values (sextet b) (values t))))
    by (Some x) e rest = rw e (more h b x t s e rest a)
    by None e rest = rw e (last h b t s (none_base64 b e) a)

pub sextets_read : (t : List ℕ) → Text (At blob.Whole) t → Sextets t (blob_bytes t)
unfolding Rest
sextets_read t a = groups_read t H0 tt a
