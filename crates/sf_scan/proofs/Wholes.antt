-- What a stop says of the whole text: whether it is a text of the language, and how long its longest
-- prefix is that begins one.
use Rattle.std.proofs.Common.{◌≡◌, ℕ, Bool, true, false, List, [], ◌∷◌, ◌++◌, refl, sym, ap, ◌∙◌}
use Rattle.std.proofs.Common.{◌≤◌, ◌+◌, ◌-◌, suc, inl, inr, length, take, subst, append_assoc, append-nil, arith, length-append}
use Rattle.std.proofs.Math.Seq.{take-append-add}
use Rattle.std.proofs.lemmas.Bool.{cases_lt}
use Rattle.sf_value.specs.Grammar.Lines.{Continues, IsLongest}
use Rattle.sf_scan.specs.Stops.{Stops, Reads, Refuses}
use Rattle.sf_value.specs.Runs.{Lacks}
use Rattle.sf_scan.proofs.Languages.{SameTexts}
use Rattle.sf_scan.proofs.Languages.{same_stops}
use Rattle.sf_scan.proofs.Languages.{continues_before}
use Rattle.sf_scan.proofs.Lists.{front_of}
use Rattle.sf_scan.proofs.Sequences.{continues_itself}

-- all is read: the text is one of L
pub reads_all : {V : Type 0} (L : List ℕ → V → Type 0) (next : ℕ → Bool) (text : List ℕ) (v : V)
    → Reads L next text v [] → L text v
reads_all L next text v r =
    subst (λ t. L t v) (sym (r.stops.split ∙ append-nil r.stops.prefix)) r.spelled

-- something is left: no text of L begins so
pub none_longer : {V : Type 0} (L : List ℕ → V → Type 0) (next : ℕ → Bool) (text : List ℕ) (b : ℕ)
    (left : List ℕ) → Stops L next text (b ∷ left) → Continues L text → ⊥
none_longer L next text b left s c =
    let k : Continues L (s.prefix ++ b ∷ left) = subst (Continues L) s.split c in
    let f = s.followed.only b (continues_before L (s.prefix ++ b ∷ []) left
    (subst (Continues L) (sym (append_assoc s.prefix (b ∷ []) left)) k)) in
    two_ways (next b) f s.blocked
  where
    two_ways : (x : Bool) → x ≡ true → x ≡ false → ⊥
    two_ways x h k = cc

-- so a text that is refused, or not read to its end, is none of L
pub refuses_all : {V : Type 0} (L : List ℕ → V → Type 0) (next : ℕ → Bool) (text left : List ℕ)
    → Refuses L next text left → (v : V) → L text v → ⊥
refuses_all L next text [] r v h =
    r.unspelled v (subst (λ t. L t v) (r.stops.split ∙ append-nil r.stops.prefix) h)
refuses_all L next text (b ∷ left) r v h =
    none_longer L next text b left r.stops (continues_itself L text v h)

pub reads_part : {V : Type 0} (L : List ℕ → V → Type 0) (next : ℕ → Bool) (text : List ℕ) (v w : V)
    (b : ℕ) (left : List ℕ) → Reads L next text v (b ∷ left) → L text w → ⊥
reads_part L next text v w b left r h =
    none_longer L next text b left r.stops (continues_itself L text w h)

no_more : {V : Type 0} (L : List ℕ → V → Type 0) (next : ℕ → Bool) (text left : List ℕ)
    (s : Stops L next text left) (n : ℕ) → length s.prefix + suc n ≤ length text
    → Continues L (take (length s.prefix + suc n) text) → ⊥
no_more L next text left s n w c = by left s.split s.blocked
  where
    two_ways : (x : Bool) → x ≡ true → x ≡ false → ⊥
    two_ways x h k = cc

    by : (left : List ℕ) → text ≡ s.prefix ++ left → Lacks next left → ⊥
    by [] e b =
        let k = ap length e in let j = length-append {A = ℕ} s.prefix [] in absurd (omega arith)
    by (d ∷ left) e b =
        let k : Continues L (s.prefix ++ d ∷ take n left) =
        subst (Continues L) (ap (take (length s.prefix + suc n)) e
        ∙ take-append-add s.prefix (d ∷ left) (suc n)) c in
        two_ways (next d)
        (s.followed.only d (continues_before L (s.prefix ++ d ∷ []) (take n left)
        (subst (Continues L) (sym (append_assoc s.prefix (d ∷ []) (take n left))) k))) b

-- the prefix is the longest one that begins a text of L
pub stops_longest : {V : Type 0} (L : List ℕ → V → Type 0) (next : ℕ → Bool) (text left : List ℕ)
    (s : Stops L next text left) → IsLongest V L text (length s.prefix)
stops_longest L next text left s = record {
  within = let e = ap length s.split in let k = length-append s.prefix left in omega arith;
  viable = subst (Continues L) (sym (front_of text s.prefix left (length s.prefix) s.split refl))
      s.followed.viable;
  longest = λ m w c. elim (cases_lt (length s.prefix) m) [
    | inl l ↦
        let e : m ≡ length s.prefix + suc (m - length s.prefix - 1) = omega arith in
        absurd (no_more L next text left s (m - length s.prefix - 1)
        (subst (λ k. k ≤ length text) e w)
        (subst (λ k. Continues L (take k text)) e c))
    | inr l ↦ l
  ];
}

pub stops_place : {V : Type 0} (L : List ℕ → V → Type 0) (next : ℕ → Bool) (text left : List ℕ)
    → Stops L next text left → IsLongest V L text (length text - length left)
stops_place {V} L next text left s =
    let e = ap length s.split in
    let k = length-append s.prefix left in
    let before : length s.prefix ≡ length text - length left = omega arith in
    subst (IsLongest V L text) before (stops_longest L next text left s)

-- seen from a language with the same texts, as that of sf_value's grammar
pub place_in : {V W : Type 0} (L : List ℕ → V → Type 0) (M : List ℕ → W → Type 0) (of : V → W)
    → SameTexts L M of → (next : ℕ → Bool) (text left : List ℕ) → Stops L next text left
    → IsLongest W M text (length text - length left)
place_in L M of same next text left s =
    stops_place M next text left (same_stops L M of same next text left s)
