-- Where Byte Sequences stop, and what a whole one spells.
use Rattle.std.proofs.Common.{◌≡◌, ◌≢◌, ℕ, suc, ◌-◌, ◌%◌, true, false}
use Rattle.std.proofs.Common.{◌==◌, ◌||◌, List, [], ◌∷◌, ◌++◌, length, take}
use Rattle.std.proofs.Common.{Some, None, refl, sym, ap, ◌∙◌, subst}
use Rattle.std.proofs.Common.{arith}
use Rattle.sf_value.specs.Ascii.{colon, equals}
use Rattle.sf_value.specs.Digits.{sextet}
use Rattle.sf_value.specs.declared.dialect.Dialect.{Dialect}
use Rattle.sf_value.specs.declared.value.Bare.TheVariants as bare
use Rattle.sf_value.specs.Grammar.Words.{Every}
use Rattle.sf_value.specs.Grammar.ByteSequences.{is_base64}
use Rattle.sf_value.specs.Grammar.ByteSequences.{Sextets, SpellsByteSequence}
use Rattle.sf_scan.specs.Blobs.{in_blob, padded, place_at, values, more_values, octets, blob_bytes}
use Rattle.sf_value.specs.Grammar.BareItems.{SpellsBare}
use Rattle.sf_scan.specs.Leaves.{leaf_bare}
use Rattle.sf_scan.specs.Stops.{Past, IsFollowed}
use Rattle.sf_value.specs.Runs.{Lacks, FirstIs}
use Rattle.sf_scan.specs.Scans.{ReadsLeaf, RefusesLeaf}
use Rattle.sf_scan.specs.declared.blob_place.BlobPlace.{BlobPlace}
use Rattle.sf_scan.specs.declared.blob_place.BlobPlace.TheVariants as blob
use Rattle.sf_scan.specs.declared.leaf.Leaf.{Leaf}
use Rattle.sf_scan.specs.declared.place.Stop.{Stop}
use Rattle.sf_scan.specs.declared.place.BarePlace.{BarePlace}
use Rattle.sf_scan.specs.declared.place.BarePlace.TheVariants as place
use Rattle.sf_scan.proofs.Automata.{Recognizes, Went, went_on, leads_end}
use Rattle.sf_scan.proofs.Automata.{leads_followed, leads_unspelled}
use Rattle.sf_scan.proofs.Bares.{blob_texts, reads_leaf, refuses_leaf, lacks_none}
use Rattle.sf_scan.proofs.Languages.{same_followed}
use Rattle.sf_scan.proofs.Lists.{tails, front_before}
use Rattle.sf_scan.proofs.Blobs.{State, At, Closed, next, after, final, Text, Path, in_group, grown}
use Rattle.sf_scan.proofs.Blobs.{character, groups_text, sextets_read}
use Rattle.sf_scan.specs.Blobs.{StaysOpen, Closes}

pub blob_recognized : Recognizes next after final (At blob.Whole)
    (Past (colon ∷ []) SpellsByteSequence)
blob_recognized = record {
  reads = λ t a. (blob_bytes t, (t, refl, sextets_read t a));
  spells = λ t v h. by t v h.0 h.1 h.2;
}
  where
    by : (t v suffix : List ℕ) → colon ∷ t ≡ colon ∷ suffix → Sextets suffix v
        → Text (At blob.Whole) t
    by t v suffix e (low, pads, l, k, f, p) =
        subst (Text (At blob.Whole)) (sym (tails colon colon t suffix e ∙ k))
        (groups_text low v pads l f p)

-- no state is stuck
pub lives : (s : State) → (u : List ℕ) × Text s u
lives (At blob.Whole) = (colon ∷ [], (refl, refl))
lives (At blob.One) = (65 ∷ colon ∷ [], (refl, (refl, refl)))
lives (At blob.Two) = (colon ∷ [], (refl, refl))
lives (At blob.Three) = (colon ∷ [], (refl, refl))
lives (At blob.Pad) = (colon ∷ [], (refl, refl))
lives (At blob.Padded) = (colon ∷ [], (refl, refl))
lives Closed = ([], refl)

pub blob_followed : (d : Dialect) (s : State) (p : List ℕ) → Path (At blob.Whole) p s
    → IsFollowed (Past (colon ∷ []) (SpellsBare d)) (next s) p
blob_followed d s p h = same_followed _ _ _ (blob_texts d) _ _
    (leads_followed next after final _ (At blob.Whole) s p blob_recognized h (lives s)
    (λ b n. lives (after s b)))

-- what the code has read
many : BlobPlace → List ℕ → BlobPlace
many p [] = p
many p (b ∷ run) = many (grown p) run

still : (p : BlobPlace) → in_group p ≡ true → in_group (grown p) ≡ true
still blob.Whole g = refl
still blob.One g = refl
still blob.Two g = refl
still blob.Three g = refl
still blob.Pad g = absurd cc
still blob.Padded g = absurd cc

run_path : (p : BlobPlace) (run : List ℕ) → in_group p ≡ true → Every is_base64 run
    → Path (At p) run (At (many p run))
unfolding many
run_path p [] g h = refl
run_path p (b ∷ run) g h =
    let k = character p b g h.0 in (
      k.0,
      subst (λ s. Path s run (At (many (grown p) run))) (sym k.1)
          (run_path (grown p) run (still p g) h.1),
    )

run_place : (run : List ℕ) → many blob.Whole run ≡ place_at (length run % 4)
unfolding many
run_place [] = refl
run_place (a ∷ []) = refl
run_place (a ∷ b ∷ []) = refl
run_place (a ∷ b ∷ c ∷ []) = refl
run_place (a ∷ b ∷ c ∷ d ∷ run) =
    run_place run ∙ ap place_at (let n = length run in four n)
  where
    four : (n : ℕ) → n % 4 ≡ suc (suc (suc (suc n))) % 4
    four n = omega arith

pub run_read : (run : List ℕ) → Every is_base64 run
    → Path (At blob.Whole) run (At (place_at (length run % 4)))
run_read run h = subst (λ p. Path (At blob.Whole) run (At p)) (run_place run)
    (run_path blob.Whole run refl h)

abbrev pub Goes : State → State → List ℕ → List ℕ → Type 0
Goes = Went next after

-- what the loop keeps
pub record Reached (text left : List ℕ) (p : BlobPlace) : Type 0 where
  pub went : Goes (At blob.Whole) (At p) text left
  pub no_character : in_group p ≡ true → Lacks is_base64 left

pub reached_run : (text run left : List ℕ) (p : BlobPlace) → text ≡ run ++ left
    → Every is_base64 run → Lacks is_base64 left → p ≡ place_at (length run % 4)
    → Reached text left p
reached_run text run left p e h n k = record {
  went = record {
    part = run;
    split = e;
    path = subst (λ q. Path (At blob.Whole) run (At q)) (sym k) (run_read run h);
  };
  no_character = λ g. n;
}

pad_path : (p q : BlobPlace) → padded p ≡ Some q
    → Path (At p) (equals ∷ []) (At q) × (in_group q ≡ false)
pad_path blob.Whole q e = absurd cc
pad_path blob.One q e = absurd cc
pad_path blob.Two q e = let k : blob.Pad ≡ q = cc in ((refl, ap At k), ap in_group (sym k))
pad_path blob.Three q e = let k : blob.Padded ≡ q = cc in ((refl, ap At k), ap in_group (sym k))
pad_path blob.Pad q e = let k : blob.Padded ≡ q = cc in ((refl, ap At k), ap in_group (sym k))
pad_path blob.Padded q e = absurd cc

pub reached_pad : (text left more : List ℕ) (p q : BlobPlace) → Reached text left p
    → left ≡ equals ∷ more → padded p ≡ Some q → Reached text more q
reached_pad text left more p q r e k =
    let h = pad_path p q k in
    let w : Goes (At p) (At q) left more =
    record { part = equals ∷ []; split = e; path = h.0 } in
    record {
      went = went_on r.went w;
      no_character = λ g. absurd (let f = h.1 in cc);
    }

-- where it stops
pub blob_refused : (d : Dialect) (text : List ℕ) (p : BlobPlace) (stop : Stop BarePlace)
    → Reached text stop.left.now p → stop.place ≡ place.Blob p
    → Lacks (in_blob p) stop.left.now
    → RefusesLeaf d (Past (colon ∷ []) (SpellsBare d)) text stop
blob_refused d text p stop r e n =
    let w = r.went in
    refuses_leaf d _ text w.part stop w.split (rw e (blob_followed d (At p) w.part w.path)) (rw e n)
    (λ x h. let v = (blob_texts d).down w.part x h in
    leads_unspelled next after final _ (At blob.Whole) (At p) w.part blob_recognized w.path refl v.0
    v.1)
    (rw e refl)

-- at an = that can't come
pub no_pad : (p : BlobPlace) (left more : List ℕ) → left ≡ equals ∷ more → padded p ≡ None
    → Lacks (in_blob p) left
no_pad p left more e k = rw e (by p k)
  where
    by : (p : BlobPlace) → padded p ≡ None → in_blob p equals ≡ false
    by blob.Whole k = refl
    by blob.One k = refl
    by blob.Two k = absurd cc
    by blob.Three k = absurd cc
    by blob.Pad k = absurd cc
    by blob.Padded k = refl

-- at another byte
pub stuck : (text left : List ℕ) (p : BlobPlace) → Reached text left p
    → FirstIs (λ b. b ≢ equals) left
    → StaysOpen p left → Lacks (in_blob p) left
stuck text [] p r h k = tt
stuck text (b ∷ left) p r h k = by p b r.no_character h k
  where
    no_colon : (b : ℕ) → is_base64 b ≡ false → b ≢ colon → (is_base64 b || b == colon) ≡ false
    no_colon b n k = rw n (differs b colon k)
      where
        differs : (b c : ℕ) → b ≢ c → (b == c) ≡ false
        differs b c k = grind arith

    neither : (b : ℕ) → b ≢ equals → b ≢ colon → (b == colon || b == equals) ≡ false
    neither b h k = grind arith

    none : (b : ℕ) → is_base64 b ≡ false → b ≢ equals → b ≢ colon
        → (is_base64 b || (b == colon || b == equals)) ≡ false
    none b n h k = rw n (neither b h k)

    one : (b : ℕ) → b ≢ colon → (b == colon) ≡ false
    one b k = grind arith

    by : (p : BlobPlace) (b : ℕ) → (in_group p ≡ true → is_base64 b ≡ false) → b ≢ equals
        → (in_blob p colon ≡ true → b ≢ colon) → in_blob p b ≡ false
    by blob.Whole b n h k = no_colon b (n refl) (k refl)
    by blob.One b n h k = n refl
    by blob.Two b n h k = none b (n refl) h (k refl)
    by blob.Three b n h k = none b (n refl) h (k refl)
    by blob.Pad b n h k = neither b h (k refl)
    by blob.Padded b n h k = one b (k refl)

pub not_closing : (p : BlobPlace) (left : List ℕ) → in_blob p colon ≡ false → StaysOpen p left
not_closing p [] e = tt
not_closing p (b ∷ left) e = λ h. absurd cc

pub not_colon : (p : BlobPlace) (left : List ℕ) → FirstIs (λ b. b ≢ colon) left → StaysOpen p left
not_colon p [] h = tt
not_colon p (b ∷ left) h = λ e. h

-- a closed one
close_path : (p : BlobPlace) → in_blob p colon ≡ true → Path (At p) (colon ∷ []) Closed
close_path blob.Whole e = (refl, refl)
close_path blob.One e = absurd cc
close_path blob.Two e = (refl, refl)
close_path blob.Three e = (refl, refl)
close_path blob.Pad e = (refl, refl)
close_path blob.Padded e = (refl, refl)

values_front : (t : List ℕ) → values (t ++ colon ∷ []) ≡ values t
values_front [] = refl
values_front (b ∷ t) = ap (more_values (sextet b)) (values_front t)

pub blob_read : (d : Dialect) (text left inside : List ℕ) (p : BlobPlace) (l : Leaf) (stop : Stop BarePlace)
    → Reached text left p → Closes p left stop.left.now
    → inside ≡ take (length text - length left) text → stop.place ≡ place.Complete
    → leaf_bare l ≡ bare.Blob (blob_bytes inside)
    → ReadsLeaf d (Past (colon ∷ []) (SpellsBare d)) text l stop
blob_read d text left inside p l stop r c i k v =
    reads_leaf d _ text went.part l stop went.split
    (rw k (blob_followed d Closed went.part went.path)) (rw k (lacks_none stop.left.now))
    (rw v ((blob_texts d).up went.part (blob_bytes inside)
    (went.part, refl, subst (Sextets went.part) same (sextets_read went.part text_is))))
    (rw k refl)
  where
    went : Goes (At blob.Whole) Closed text stop.left.now
    went =
        let w : Goes (At p) Closed left stop.left.now =
        record { part = colon ∷ []; split = c.1; path = close_path p c.0 } in
        went_on r.went w

    text_is : Text (At blob.Whole) went.part
    text_is = leads_end next after final (At blob.Whole) Closed went.part went.path refl

    same : blob_bytes went.part ≡ blob_bytes inside
    same = ap octets (values_front r.went.part
        ∙ ap values (sym (i ∙ front_before text r.went.part left r.went.split)))
