-- The bytes that the texts of Strings, Byte Sequences and Display Strings stand for.
use Rattle.std.proofs.Common.{◌≡◌, ℕ, ◌+◌, ◌-◌, ◌*◌, ◌/◌, ◌%◌, ◌<◌, true, false, ◌==◌, nat_lt, ◌&&◌, List, []}
use Rattle.std.proofs.Common.{◌∷◌, ◌++◌, length, take, set, Option, Some, None, refl, sym, ap, ◌∙◌}
use Rattle.std.proofs.Common.{not, subst, arith, length-append, append_assoc, append-nil, ⊎_elim}
use Rattle.std.specs.Bool.{⊤}
use Rattle.std.proofs.lemmas.List.{take_more_set}
use Rattle.sf_value.specs.Ascii.{backslash, percent}
use Rattle.sf_value.specs.Digits.{sextet}
use Rattle.sf_value.specs.InPlace.{FitsInPlace}
use Rattle.sf_value.specs.Grammar.Strings.{is_escaped}
use Rattle.sf_value.specs.Grammar.Words.{Every, allow}
use Rattle.sf_value.proofs.Words.{allow_cases, option_or_cases}
use Rattle.sf_scan.specs.Blobs.{blob_bytes, octets, values}
use Rattle.sf_scan.specs.DisplayStrings.{shown_bytes}
use Rattle.sf_scan.specs.Leaves.{unescaped}
use Rattle.sf_parse.specs.Machine.Blobs.{Held, H0, H1, H2, H3, BlobState, Group, Padded, Ended}
use Rattle.sf_parse.specs.Machine.Blobs.{blob_step, grown, pad_step, end_step}
use Rattle.sf_parse.specs.Machine.Blobs.{last_bytes}
use Rattle.sf_parse.specs.Machine.Language.{run}
use Rattle.sf_parse.specs.Prefixes.{Goes}
use Rattle.sf_parse.proofs.Machine.Language.{and_then_cases}
use Rattle.sf_parse.proofs.Prefixes.{goes_byte}

-- Strings
not_slash : (b : ℕ) → not (is_escaped b) ≡ true → (b == backslash) ≡ false
not_slash b h = grind arith

unescaped_byte : (b : ℕ) (t : List ℕ) → (b == backslash) ≡ false
    → unescaped (b ∷ t) ≡ b ∷ unescaped t
unescaped_byte b [] h = refl
unescaped_byte b (c ∷ t) h = rw h refl

unescaped_run : (xs rest : List ℕ) → Every (λ b. not (is_escaped b)) xs
    → unescaped (xs ++ rest) ≡ xs ++ unescaped rest
unescaped_run [] rest h = refl
unescaped_run (b ∷ xs) rest h =
    unescaped_byte b (xs ++ rest) (not_slash b h.0) ∙ ap (λ t. b ∷ t) (unescaped_run xs rest h.1)

pub unescaped_more : (text rest xs left bytes more : List ℕ) → rest ≡ xs ++ left
    → Every (λ b. not (is_escaped b)) xs → more ≡ bytes ++ xs → bytes ++ unescaped rest ≡ unescaped text
    → more ++ unescaped left ≡ unescaped text
unescaped_more text rest xs left bytes more e h f k =
    ap (λ t. t ++ unescaped left) f
    ∙ append_assoc bytes xs (unescaped left)
    ∙ ap (λ t. bytes ++ t) (sym (ap unescaped e ∙ unescaped_run xs left h))
    ∙ k

-- one byte more
pub one_more : (all bytes more : List ℕ) (b : ℕ) (left rest : List ℕ) → left ≡ b ∷ rest
    → more ≡ bytes ++ b ∷ [] → bytes ++ left ≡ all → more ++ rest ≡ all
one_more all bytes more b left rest e f k =
    ap (λ t. t ++ rest) f ∙ append_assoc bytes (b ∷ []) rest ∙ ap (λ t. bytes ++ t) (sym e) ∙ k

-- what is part of few bytes is few
pub front_fits : (all bytes left : List ℕ) → FitsInPlace all → bytes ++ left ≡ all
    → FitsInPlace bytes
front_fits all bytes left h e =
    let n = length-append bytes left in
    let m : length (bytes ++ left) ≡ length all = ap length e in
    omega arith

-- nothing is left
pub none_left : (all bytes left : List ℕ) → left ≡ [] → bytes ++ left ≡ all → bytes ≡ all
none_left all bytes left e k = sym (append-nil bytes) ∙ ap (λ t. bytes ++ t) (sym e) ∙ k

-- Display Strings
not_percent : (b : ℕ) → not (b == percent) ≡ true → (b == percent) ≡ false
not_percent b h = grind arith

pub shown_byte : (b : ℕ) (t : List ℕ) → (b == percent) ≡ false
    → shown_bytes (b ∷ t) ≡ b ∷ shown_bytes t
shown_byte b [] h = refl
shown_byte b (c ∷ []) h = refl
shown_byte b (c ∷ d ∷ t) h = rw h refl

shown_run : (xs rest : List ℕ) → Every (λ b. not (b == percent)) xs
    → shown_bytes (xs ++ rest) ≡ xs ++ shown_bytes rest
shown_run [] rest h = refl
shown_run (b ∷ xs) rest h =
    shown_byte b (xs ++ rest) (not_percent b h.0) ∙ ap (λ t. b ∷ t) (shown_run xs rest h.1)

pub shown_more : (text rest xs left bytes more : List ℕ) → rest ≡ xs ++ left
    → Every (λ b. not (b == percent)) xs → more ≡ bytes ++ xs → bytes ++ shown_bytes rest ≡ shown_bytes text
    → more ++ shown_bytes left ≡ shown_bytes text
shown_more text rest xs left bytes more e h f k =
    ap (λ t. t ++ shown_bytes left) f
    ∙ append_assoc bytes xs (shown_bytes left)
    ∙ ap (λ t. bytes ++ t) (sym (ap shown_bytes e ∙ shown_run xs left h))
    ∙ k

-- bytes that were stored into a block
pub block_more : (all block rest left : List ℕ) (n b : ℕ) → n < length block
    → rest ≡ b ∷ left → all ≡ take n block ++ rest → all ≡ take (n + 1) (set block n b) ++ left
block_more all block rest left n b h e k =
    k
    ∙ ap (λ t. take n block ++ t) e
    ∙ sym (append_assoc (take n block) (b ∷ []) left)
    ∙ ap (λ t. t ++ left) (sym (take_more_set block n b h))

pub block_taken : (all bytes more out left rest : List ℕ) → left ≡ out ++ rest
    → more ≡ bytes ++ out → bytes ++ left ≡ all → more ++ rest ≡ all
block_taken all bytes more out left rest e f k =
    ap (λ t. t ++ rest) f ∙ append_assoc bytes out rest ∙ ap (λ t. bytes ++ t) (sym e) ∙ k

-- Byte Sequences
abbrev held_values : Held → List ℕ → List ℕ
held_values H0 xs = xs
held_values (H1 x) xs = x ∷ xs
held_values (H2 x y) xs = x ∷ y ∷ xs
held_values (H3 x y z) xs = x ∷ y ∷ z ∷ xs

-- the last group was read
abbrev IsPast : BlobState → Type 0
IsPast (Group bytes h) = ⊥
IsPast (Padded bytes n) = ⊤
IsPast (Ended bytes) = ⊤

pad_past : (bytes : List ℕ) (n b : ℕ) (s : BlobState) → pad_step bytes n b ≡ Some s → IsPast s
pad_past bytes n b s e = ⊎_elim
    (λ k. subst IsPast (sym (allow_cases (b == 58) (Ended bytes) s k).1) tt)
    (λ k. subst IsPast (sym (allow_cases (b == 61 && nat_lt 0 n) (Padded bytes (n - 1)) s k.1).1) tt)
    (option_or_cases (allow (b == 58) (Ended bytes))
    (allow (b == 61 && nat_lt 0 n) (Padded bytes (n - 1))) s e)

past_step : (s t : BlobState) (b : ℕ) → IsPast s → blob_step s b ≡ Some t → IsPast t
past_step (Group bytes h) t b k e = absurd k
past_step (Padded bytes n) t b k e = pad_past bytes n b t e
past_step (Ended bytes) t b k e = absurd cc

past_run : (s t : BlobState) (p : List ℕ) → IsPast s → run blob_step s p ≡ Some t → IsPast t
past_run s t [] k e = subst IsPast (let f : s ≡ t = cc in f) k
past_run s t (b ∷ p) k e =
    let c = and_then_cases (blob_step s b) (λ u. run blob_step u p) t e in
    past_run c.0 t p (past_step s c.0 b k c.1) c.2

end_past : (bytes : List ℕ) (h : Held) (b : ℕ) (s : BlobState) → end_step bytes h b ≡ Some s
    → IsPast s
end_past bytes H0 b s e = pad_past (bytes ++ []) 0 b s e
end_past bytes (H1 x) b s e = absurd cc
end_past bytes (H2 x y) b s e = pad_past (bytes ++ last_bytes (H2 x y)) 2 b s e
end_past bytes (H3 x y z) b s e = pad_past (bytes ++ last_bytes (H3 x y z)) 1 b s e

-- characters keep what the bytes and the values amount to
abbrev amounts : BlobState → List ℕ → List ℕ
amounts (Group bytes h) xs = bytes ++ octets (held_values h xs)
amounts (Padded bytes n) xs = bytes
amounts (Ended bytes) xs = bytes

-- what is left of a run that ends in a group
abbrev IsKept : List ℕ → List ℕ → BlobState → List ℕ → Held → Type 0
IsKept p rest t bytes h = run blob_step (Group bytes h) p ≡ Some t
    → amounts t (values rest) ≡ bytes ++ octets (held_values h (values (p ++ rest)))

more_kept : (p rest : List ℕ) (t : BlobState) → ((bytes : List ℕ) (h : Held) → IsKept p rest t bytes h)
    → (x : ℕ) (bytes : List ℕ) (h : Held) → run blob_step (grown bytes h x) p ≡ Some t
    → amounts t (values rest) ≡ bytes ++ octets (held_values h (x ∷ values (p ++ rest)))
more_kept p rest t k x bytes H0 g = k bytes (H1 x) g
more_kept p rest t k x bytes (H1 y) g = k bytes (H2 y x) g
more_kept p rest t k x bytes (H2 y z) g = k bytes (H3 y z x) g
more_kept p rest t k x bytes (H3 y z w) g =
    k (bytes ++ ((y * 4 + z / 16) ∷ (z % 16 * 16 + w / 4) ∷ (w % 4 * 64 + x) ∷ [])) H0 g
    ∙ append_assoc bytes _ (octets (values (p ++ rest)))

run_amounts : (t : BlobState) → (IsPast t → ⊥) → (p rest bytes : List ℕ) (h : Held)
    → IsKept p rest t bytes h
run_amounts t n [] rest bytes h e =
    let f : Group bytes h ≡ t = cc in ap (λ s. amounts s (values rest)) (sym f)
run_amounts t n (b ∷ p) rest bytes h e =
    let c = and_then_cases (blob_step (Group bytes h) b) (λ u. run blob_step u p) t e in
    by (run_amounts t n p rest) (sextet b) refl c.0 c.1 c.2
  where
    by : ((bytes : List ℕ) (h : Held) → IsKept p rest t bytes h) → (o : Option ℕ) → sextet b ≡ o
        → (s : BlobState) → blob_step (Group bytes h) b ≡ Some s → run blob_step s p ≡ Some t
        → amounts t (values rest) ≡ bytes ++ octets (held_values h (values (b ∷ (p ++ rest))))
    by k (Some x) e s f g =
        let same : grown bytes h x ≡ s =
        (let j : Some (grown bytes h x) ≡ Some s = rw e at f in cc) in
        rw e (more_kept p rest t k x bytes h (subst (λ u. run blob_step u p ≡ Some t) (sym same) g))
    by k None e s f g =
        let j : end_step bytes h b ≡ Some s = rw e at f in
        absurd (n (past_run s t p (end_past bytes h b s j) g))

pub groups_taken : (text rest bytes : List ℕ) (h : Held)
    → Goes blob_step (Group [] H0) text rest (Group bytes h)
    → blob_bytes text ≡ bytes ++ octets (held_values h (values rest))
groups_taken text rest bytes h g =
    ap blob_bytes g.split
    ∙ sym (run_amounts (Group bytes h) (λ k. k) g.taken rest [] H0 g.leads)

last_octets : (h : Held) → octets (held_values h []) ≡ last_bytes h
last_octets H0 = refl
last_octets (H1 x) = refl
last_octets (H2 x y) = refl
last_octets (H3 x y z) = refl

-- no character is left
pub groups_ended : (text rest bytes all : List ℕ) (h : Held)
    → Goes blob_step (Group [] H0) text rest (Group bytes h) → values rest ≡ []
    → all ≡ bytes ++ last_bytes h → all ≡ blob_bytes text
groups_ended text rest bytes all h g e f =
    f
    ∙ ap (λ t. bytes ++ t) (sym (last_octets h) ∙ ap (λ xs. octets (held_values h xs)) (sym e))
    ∙ sym (groups_taken text rest bytes h g)

-- one character more
pub character_taken : (text rest more bytes new : List ℕ) (h k : Held) (b x : ℕ)
    → Goes blob_step (Group [] H0) text rest (Group bytes h) → rest ≡ b ∷ more
    → sextet b ≡ Some x → Group new k ≡ grown bytes h x
    → Goes blob_step (Group [] H0) text more (Group new k)
character_taken text rest more bytes new h k b x g e f j =
    goes_byte blob_step (Group [] H0) (Group bytes h) (Group new k) text b more
    (subst (λ y. Goes blob_step (Group [] H0) text y (Group bytes h)) e g)
    (rw f (ap Some (sym j)))
