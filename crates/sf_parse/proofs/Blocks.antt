-- Bytes that are stored into a block one after another, and what a machine read of them.
use Rattle.std.proofs.Common.{◌≡◌, ℕ, ◌+◌, ◌-◌, ◌*◌, ◌/◌, ◌<◌, ◌≤◌, true, List, [], ◌∷◌, ◌++◌}
use Rattle.std.proofs.Common.{length, take, drop}
use Rattle.std.proofs.Common.{set, get_or, Some, refl, sym, ap, ◌∙◌, subst, arith, append_assoc}
use Rattle.std.proofs.lemmas.List.{take_rest, take_more_set, length-set}
use Rattle.sf_value.specs.Grammar.Utf8.{Utf8, utf8_step}
use Rattle.sf_parse.specs.Prefixes.{Goes}
use Rattle.sf_parse.specs.Views.{Leads}
use Rattle.sf_parse.specs.Machine.Language.{run}
use Rattle.sf_parse.specs.Machine.Blobs.{H0, Group, blob_step}
use Rattle.sf_value.specs.Digits.{unhex}
use Rattle.sf_parse.specs.Machine.Showns.{Unencoded, can_begin, shown_step}
use Rattle.sf_parse.proofs.Prefixes.{goes_more}
use Rattle.sf_value.proofs.DigitValues.{read_hex}
use Rattle.sf_parse.proofs.HighDigits.{utf8_begins}
use Rattle.sf_parse.proofs.Leading.{leads_push}
use Rattle.sf_parse.proofs.BlobGroups.{group_on}

-- three bytes more
store_three : (l : List ℕ) (i x y z : ℕ) → i + 3 ≤ length l
    → take (i + 3) (set (set (set l i x) (i + 1) y) (i + 2) z) ≡ take i l ++ x ∷ y ∷ z ∷ []
store_three l i x y z h =
    let one = set l i x in
    let two = set one (i + 1) y in
    let same_one : length one ≡ length l = length-set l i x in
    let same_two : length two ≡ length one = length-set one (i + 1) y in
    let a : take (i + 1) one ≡ take i l ++ x ∷ [] = take_more_set l i x (omega arith) in
    let b : take (i + 1 + 1) two ≡ take (i + 1) one ++ y ∷ [] =
    take_more_set one (i + 1) y (omega arith) in
    let c : take (i + 2 + 1) (set two (i + 2) z) ≡ take (i + 2) two ++ z ∷ [] =
    take_more_set two (i + 2) z (omega arith) in
    let next : i + 1 + 1 ≡ i + 2 = omega arith in
    let last : i + 2 + 1 ≡ i + 3 = omega arith in
    subst (λ k. take k (set two (i + 2) z) ≡ take i l ++ x ∷ y ∷ z ∷ []) last
    (c ∙ ap (λ y. y ++ z ∷ []) (subst (λ k. take k two ≡ take (i + 1) one ++ y ∷ []) next b
    ∙ ap (λ q. q ++ y ∷ []) a)
    ∙ append_assoc (take i l ++ x ∷ []) (y ∷ []) (z ∷ [])
    ∙ append_assoc (take i l) (x ∷ []) (y ∷ z ∷ []))

-- one group of base64 more
pub decoded_on : (bs block chunk xs : List ℕ) (n x y z : ℕ) → n + 3 ≤ length block
    → 4 ≤ length xs → Goes blob_step (Group bs H0) chunk xs (Group (bs ++ take n block) H0)
    → ((bs : List ℕ) → run blob_step (Group bs H0)
    (get_or xs 0 0 ∷ get_or xs 1 0 ∷ get_or xs 2 0 ∷ get_or xs 3 0 ∷ [])
    ≡ Some (Group (bs ++ x ∷ y ∷ z ∷ []) H0))
    → Goes blob_step (Group bs H0) chunk (take (length xs - 4) (drop 4 xs))
    (Group (bs ++ take (n + 3) (set (set (set block n x) (n + 1) y) (n + 2) z)) H0)
decoded_on bs block chunk xs n x y z h k w r =
    group_on bs (bs ++ take n block) _ (x ∷ y ∷ z ∷ []) chunk xs w k r
    (ap (λ l. bs ++ l) (store_three block n x y z h)
    ∙ sym (append_assoc bs (take n block) (x ∷ y ∷ z ∷ [])))

-- a block of groups more
pub block_on : (first bytes more out chunk xs rest : List ℕ)
    → Goes blob_step (Group first H0) chunk xs (Group bytes H0)
    → ((bs : List ℕ) → Goes blob_step (Group bs H0) xs rest (Group (bs ++ out) H0))
    → more ≡ bytes ++ out → Goes blob_step (Group first H0) chunk rest (Group more H0)
block_on first bytes more out chunk xs rest w h e =
    goes_more blob_step (Group first H0) (Group bytes H0) (Group more H0) chunk xs rest w
    (subst (λ y. Goes blob_step (Group bytes H0) xs rest (Group y H0)) (sym e) (h bytes))

-- an escape is three steps of the machine
pub escape_run : (high low h l : ℕ) → unhex high ≡ Some h → unhex low ≡ Some l → (bs : List ℕ)
    (x y : Utf8) → utf8_step x (h * 16 + l) ≡ Some y
    → run shown_step (Unencoded bs x) (37 ∷ high ∷ low ∷ [])
    ≡ Some (Unencoded (bs ++ (h * 16 + l) ∷ []) y)
escape_run high low h l e f bs x y g =
    let small = (read_hex low l f).1 in
    let same : (h * 16 + l) / 16 ≡ h = omega arith in
    let begins : can_begin x h ≡ true =
    subst (λ d. can_begin x d ≡ true) same (utf8_begins x y (h * 16 + l) g) in
    rw (e, begins, f, g) refl

three : (xs : List ℕ) → 3 ≤ length xs
    → xs ≡ get_or xs 0 0 ∷ get_or xs 1 0 ∷ get_or xs 2 0 ∷ drop 3 xs
three (a ∷ b ∷ c ∷ xs) h = refl
three xs h = absurd (omega arith)

-- one escape more
pub escape_on : (x y z : Utf8) (bs block chunk xs : List ℕ) (n c : ℕ) → n < length block
    → 3 ≤ length xs → get_or xs 0 0 ≡ 37
    → Goes shown_step (Unencoded bs x) chunk xs (Unencoded (bs ++ take n block) y)
    → run shown_step (Unencoded (bs ++ take n block) y)
    (37 ∷ get_or xs 1 0 ∷ get_or xs 2 0 ∷ []) ≡ Some (Unencoded ((bs ++ take n block) ++ c ∷ []) z)
    → Goes shown_step (Unencoded bs x) chunk (take (length xs - 3) (drop 3 xs))
    (Unencoded (bs ++ take (n + 1) (set block n c)) z)
escape_on x y z bs block chunk xs n c h k e w r =
    let stored : bs ++ take (n + 1) (set block n c) ≡ (bs ++ take n block) ++ c ∷ [] =
    ap (λ l. bs ++ l) (take_more_set block n c h) ∙ sym (append_assoc bs (take n block) (c ∷ [])) in
    subst (λ q. Goes shown_step (Unencoded bs x) chunk q
    (Unencoded (bs ++ take (n + 1) (set block n c)) z))
    (sym (take_rest xs 3))
    (goes_more shown_step (Unencoded bs x) (Unencoded (bs ++ take n block) y)
    (Unencoded (bs ++ take (n + 1) (set block n c)) z) chunk xs (drop 3 xs) w
    (record {
      taken = 37 ∷ get_or xs 1 0 ∷ get_or xs 2 0 ∷ [];
      split = three xs k ∙ ap (λ b. b ∷ get_or xs 1 0 ∷ get_or xs 2 0 ∷ drop 3 xs) e;
      leads = r ∙ ap (λ l. Some (Unencoded l z)) (sym stored);
    }))

pub escape_leads : (x y z : Utf8) (bs block : List ℕ) (n c : ℕ) → n < length block
    → Leads (bs ++ take n block) y → utf8_step y c ≡ Some z
    → Leads (bs ++ take (n + 1) (set block n c)) z
escape_leads x y z bs block n c h l s =
    subst (λ q. Leads q z)
    (append_assoc bs (take n block) (c ∷ []) ∙ sym (ap (λ l. bs ++ l) (take_more_set block n c h)))
    (leads_push (bs ++ take n block) c y z l s)
