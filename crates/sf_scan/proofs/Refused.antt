-- What a stop says of a refusal of the whole text, by sf_value's grammar.
use Rattle.std.proofs.Common.{◌≡◌, ◌≢◌, ◌↔◌, ℕ, ◌<◌, ◌≤◌, ◌-◌, Bool, true, false, nat_lt, ◌&&◌}
use Rattle.std.proofs.Common.{List, [], ◌∷◌, ◌++◌, length, length-append, slice_get}
use Rattle.std.proofs.Common.{Result, Ok, Err, cond, refl, sym, ap, ◌∙◌, subst, arith}
use Rattle.std.specs.Int.{bit_at}
use Rattle.sf_value.specs.declared.dialect.Dialect.{Dialect}
use Rattle.sf_value.specs.declared.value.Field.{Field}
use Rattle.sf_value.specs.declared.value.Kind.{Kind}
use Rattle.sf_value.specs.Grammar.Fields.{SpellsField}
use Rattle.sf_value.specs.Grammar.Lines.{Viable}
use Rattle.sf_value.specs.Grammar.Refusals.{IsSyntax}
use Rattle.sf_scan.specs.Outcomes.{Scans}
use Rattle.sf_scan.specs.Refusals.{IsRefused, ReadsAll, StopsShort}
use Rattle.sf_scan.specs.Settled.{Settles}
use Rattle.sf_scan.specs.Sets.{Marks}
use Rattle.sf_scan.specs.Stops.{Stops, Reads}
use Rattle.sf_scan.specs.declared.place.Halt.{Halt}
use Rattle.sf_scan.specs.declared.place.Halt.TheVariants as halt
use Rattle.sf_scan.specs.declared.place.Stop.{Stop}
use Rattle.sf_scan.proofs.Due.{Due, due_bits}
use Rattle.sf_scan.proofs.Grammar.{settles_texts}
use Rattle.sf_scan.proofs.Languages.{same_followed}
use Rattle.sf_scan.proofs.Lists.{front_before}
use Rattle.sf_scan.proofs.Wholes.{reads_all, reads_part, refuses_all, place_in}

-- reading the text in L stops there, and it is no text of L; `ends` says whether the bytes before
-- the stop are one
record Short {V : Type 0} (L : List ℕ → V → Type 0) (next : ℕ → Bool) (ends : Bool)
    (text left : List ℕ) : Type 0 where
  pub stops : Stops L next text left
  pub unspelled : (v : V) → L text v → ⊥
  pub may_end : (ends ≡ true) ↔ ((v : V) × L (stops.prefix) v)

opposite : (x : Bool) → x ≡ true → x ≡ false → ⊥
opposite x h k = cc

reads_some : {V : Type 0} (L : List ℕ → V → Type 0) (next : ℕ → Bool) (text : List ℕ) (v : V)
    (left : List ℕ) → Reads L next text v left → left ≢ [] → (w : V) → L text w → ⊥
reads_some L next text v [] r n w h = n refl
reads_some L next text v (b ∷ left) r n w h = reads_part L next text v w b left r h

module _ {V M P F : Type 0} (L : List ℕ → V → Type 0) (next : P → ℕ → Bool) (ends : P → Bool)
    (build : M → V → M) (text : List ℕ) (old new : M) where
  -- all is read
  reads_whole : (r : Result (Stop P) (Halt P F)) → Scans L next ends build text old new r
      → ReadsAll r → (v : V) × L text v
  reads_whole (Ok stop) h e = (
    h.value,
    reads_all L (next stop.place) text h.value
        (subst (λ left. Reads L (next stop.place) text h.value left) e h.reads),
  )
  reads_whole (Err halt) h e = absurd e

  -- it is not
  stops_short : (r : Result (Stop P) (Halt P F)) → Scans L next ends build text old new r
      → (at : Stop P) → StopsShort r at → Short L (next at.place) (ends at.place) text at.left.now
  stops_short (Ok stop) h at k =
      subst (λ s. Short L (next s.place) (ends s.place) text s.left.now) (sym k.0) (record {
        stops = h.reads.stops;
        unspelled = reads_some L (next stop.place) text h.value stop.left.now h.reads k.1;
        may_end = (λ e. (h.value, h.reads.spelled), λ v. h.ended);
      })
  stops_short (Err (halt.Refused stop)) h at k =
      subst (λ s. Short L (next s.place) (ends s.place) text s.left.now) (sym k) (record {
        stops = h.refuses.stops;
        unspelled = refuses_all L (next stop.place) text stop.left.now h.refuses;
        may_end = (
          λ e. absurd (opposite (ends stop.place) e h.open_still),
          λ v. absurd (h.refuses.unspelled v.0 v.1),
        );
      })
  stops_short (Err (halt.Fault fault)) h at k = absurd k

-- the first byte that is left is the one at the place
seam : (p left : List ℕ) → slice_get left 0 ≡ slice_get (p ++ left) (length p)
seam [] left = refl
seam (b ∷ p) left = seam p left

first_left : (text p left : List ℕ) → text ≡ p ++ left
    → slice_get left 0 ≡ slice_get text (length text - length left)
first_left text p left e =
    let f = ap length e in
    let k = length-append p left in
    let n : length p ≡ length text - length left = omega arith in
    seam p left ∙ ap (λ t. slice_get t (length p)) (sym e) ∙ ap (slice_get text) n

-- a bit of a set of bytes
set_bit : (n b : ℕ) (c : Bool) → b < 128 → n ≡ cond (nat_lt b 128 && c) 1 0 → n ≡ 1 → c ≡ true
set_bit n b c h e k = grind arith

bit_set : (n b : ℕ) (c : Bool) → b < 128 → n ≡ cond (nat_lt b 128 && c) 1 0 → c ≡ true → n ≡ 1
bit_set n b c h e k = grind arith

-- so the text is refused, by the grammar of sf_value
short_syntax : {V : Type 0} (d : Dialect) (kind : Kind) (L : List ℕ → V → Type 0) (of : V → Field)
    → Settles L (SpellsField d kind) of → (next : ℕ → Bool) (ends may_end : Bool)
    (text left : List ℕ) (bits : ℕ) → Due next → Short L next ends text left → Marks bits next
    → may_end ≡ ends
    → IsSyntax d kind text (length text - length left) (slice_get left 0) bits may_end
short_syntax d kind L of same next ends may_end text left bits due s m e =
    let st = s.stops in
    let texts = settles_texts L (SpellsField d kind) of same in
    let f = same_followed L (SpellsField d kind) of texts next st.prefix st.followed in
    let front = front_before text st.prefix left st.split in record {
      unspelled = λ v h. let k = same.down text v h in s.unspelled k.0 k.2;
      is_place = place_in L (SpellsField d kind) of texts next text left st;
      byte = first_left text st.prefix left st.split;
      next = λ b small. (
        λ h. subst (λ p. Viable d kind (p ++ b ∷ [])) (sym front)
            (f.may b (set_bit (bit_at bits b) b (next b) small (m b) h)),
        λ h. bit_set (bit_at bits b) b (next b) small (m b)
            (f.only b (subst (λ p. Viable d kind (p ++ b ∷ [])) front h)),
      );
      some = due_bits bits next m due;
      ends = (
        λ h.
            let v = s.may_end.0 (sym e ∙ h) in
            let g = same.up st.prefix v.0 v.1 in
            (of v.0, subst (λ p. SpellsField d kind p (of v.0)) (sym front) g),
        λ h.
            let k = same.down st.prefix h.0 (subst (λ p. SpellsField d kind p h.0) front h.1) in
            e ∙ s.may_end.1 (k.0, k.2),
      );
    }

-- what is left is a last part of the text
short_within : {V : Type 0} (L : List ℕ → V → Type 0) (next : ℕ → Bool) (ends : Bool)
    (text left : List ℕ) → Short L next ends text left → length left ≤ length text
short_within L next ends text left s =
    let e = ap length s.stops.split in
    let k = length-append s.stops.prefix left in
    omega arith

-- what was read, as a field of sf_value's grammar
module _ {V M P F : Type 0} (d : Dialect) (kind : Kind) (L : List ℕ → V → Type 0) (of : V → Field)
    (same : Settles L (SpellsField d kind) of) (next : P → ℕ → Bool) (due : (p : P) → Due (next p))
    (ends : P → Bool) (build : M → V → M) (text : List ℕ) (old new : M)
    (r : Result (Stop P) (Halt P F)) (h : Scans L next ends build text old new r) where
  -- all is read
  pub whole_field : ReadsAll r → (v : Field) × SpellsField d kind text v
  whole_field e =
      let v = reads_whole L next ends build text old new r h e in (of v.0, same.up text v.0 v.1)

  -- it is not: the text is refused at the stop
  pub refused_field : (at : Stop P) → StopsShort r at → (bits : ℕ) → Marks bits (next at.place)
      → (may_end : Bool) → may_end ≡ ends at.place
      → IsRefused d kind text (record { left = at.left; expected = bits; may_end = may_end })
  refused_field at k bits m may_end e =
      let s = stops_short L next ends build text old new r h at k in record {
        within = short_within L (next at.place) (ends at.place) text at.left.now s;
        syntax = short_syntax d kind L of same (next at.place) (ends at.place) may_end text
            at.left.now bits (due at.place) s m e;
      }
