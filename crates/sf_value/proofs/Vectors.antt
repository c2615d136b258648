-- Vectors of 16 bytes, each tested at once.
use Rattle.std.proofs.Common.{◌≡◌, ℕ, zero, suc, ◌+◌, ◌-◌, ◌%◌, ◌^◌, ◌<◌, eqb, leb, ltb}
use Rattle.std.proofs.Common.{Bool, true, false, not, cond, bit_and, bit_or, List, [], ◌∷◌}
use Rattle.std.proofs.Common.{map, length, take, replicate, Fits, w8, refl, sym, ap, ap₂, ◌∙◌}
use Rattle.std.proofs.Common.{subst, arith}
use Rattle.std.proofs.lemmas.Bool.{agree_below, agree_below_at}
use Rattle.std.proofs.Math.Seq.{take-length}
use Rattle.std.proofs.lemmas.List.{length-map}
use Rattle.std.proofs.lemmas.Simd.{zip2_splat, zip2_splat_left, zip2_of_maps, map-map}
use Rattle.std.proofs.lemmas.Simd.{mask_l-mod, trailing_mask_l, leading_from_mask_l}
use Rattle.std.specs.List.{prefix_len}
use lib.Count.{count_trailing_zeros}
use lib.Lanes.{zip2, mask_l, top, chunk, Each1}
use Rattle.sf_value.specs.Grammar.Words.{Every}

-- what was computed of each byte alone has its top bit where the byte fails the test
each_lane : (f : ℕ → ℕ) (test : ℕ → Bool)
    → agree_below (λ b. top 7 (f b)) (λ b. not (test b)) 256 ≡ true
    → (v : List ℕ) → Each1 (Fits w8) v → map (top 7) (map f v) ≡ map (λ b. not (test b)) v
each_lane f test all [] fits = refl
each_lane f test all (b ∷ v) fits =
    ap₂ (λ x xs. x ∷ xs)
    (agree_below_at (λ b. top 7 (f b)) (λ b. not (test b)) 256 b all fits.0.fits)
    (each_lane f test all v fits.1)

pub masked : (f : ℕ → ℕ) (test : ℕ → Bool) (v z : List ℕ)
    → (length v ≡ 16) × Each1 (Fits w8) v → z ≡ map f v
    → agree_below (λ b. top 7 (f b)) (λ b. not (test b)) 256 ≡ true
    → mask_l (map (top 7) z) % 2 ^ 64 ≡ mask_l (map (λ b. not (test b)) v)
masked f test v z fits e all =
    ap (λ l. mask_l l % 2 ^ 64) (ap (map (top 7)) e ∙ each_lane f test all v fits.1)
    ∙ mask_l-mod (map (λ b. not (test b)) v) 64
    (omega (arith, length-map v (λ b. not (test b)), fits.0))

-- comparisons with a byte, and what joins them, computed of each byte alone
abbrev equals : ℕ → ℕ → ℕ
equals a b = cond (eqb a b) 255 0

abbrev at_most : ℕ → ℕ → ℕ
at_most a b = cond (leb a b) 255 0

abbrev below : ℕ → ℕ → ℕ
below a b = cond (ltb a b) 255 0

module _ (v : List ℕ) (long : length v ≡ 16) where
  pub is_byte : (y : ℕ) → zip2 equals v (replicate 16 y) ≡ map (λ b. equals b y) v
  is_byte y = zip2_splat equals v 16 y long

  pub is_up_to : (y : ℕ) → zip2 at_most v (replicate 16 y) ≡ map (λ b. at_most b y) v
  is_up_to y = zip2_splat at_most v 16 y long

  pub is_from : (y : ℕ) → zip2 at_most (replicate 16 y) v ≡ map (λ b. at_most y b) v
  is_from y = zip2_splat_left at_most y 16 v long

  pub is_before : (y : ℕ) → zip2 below v (replicate 16 y) ≡ map (λ b. below b y) v
  is_before y = zip2_splat below v 16 y long

  pub is_after : (y : ℕ) → zip2 below (replicate 16 y) v ≡ map (λ b. below y b) v
  is_after y = zip2_splat_left below y 16 v long

module _ (v : List ℕ) (f g : ℕ → ℕ) {xs ys : List ℕ} (e : xs ≡ map f v) (h : ys ≡ map g v) where
  pub both : zip2 bit_and xs ys ≡ map (λ b. bit_and (f b) (g b)) v
  both = zip2_of_maps bit_and f g v e h

  pub either : zip2 bit_or xs ys ≡ map (λ b. bit_or (f b) (g b)) v
  either = zip2_of_maps bit_or f g v e h

pub neither : (v : List ℕ) (f : ℕ → ℕ) {xs : List ℕ} → xs ≡ map f v
    → map (λ a. 2 ^ 8 - 1 - a) xs ≡ map (λ b. 2 ^ 8 - 1 - f b) v
neither v f e = ap (map (λ a. 2 ^ 8 - 1 - a)) e ∙ map-map (λ a. 2 ^ 8 - 1 - a) f v

-- how many pass the test before the first that fails it
module _ (test : ℕ → Bool) (t : List ℕ) (mask : ℕ) (long : length t ≡ 16)
    (is_mask : mask ≡ mask_l (map (λ b. not (test b)) (chunk 0 16 t))) where
  whole : chunk 0 16 t ≡ t
  whole = subst (λ n. take n t ≡ t) long (take-length t)

  masks_all : mask ≡ mask_l (map (λ b. not (test b)) t)
  masks_all = is_mask ∙ ap (λ s. mask_l (map (λ b. not (test b)) s)) whole

  not_not : (x : Bool) → not (not x) ≡ x
  not_not true = refl
  not_not false = refl

  twice : (s : List ℕ) → prefix_len (λ b. not (not (test b))) s ≡ prefix_len test s
  twice [] = refl
  twice (b ∷ s) = ap₂ (λ x n. cond x (1 + n) 0) (not_not (test b)) (twice s)

  pub all_lanes : mask ≡ 0 → 16 ≡ prefix_len test t
  all_lanes h =
      sym long
      ∙ sym (leading_from_mask_l (λ b. not (test b)) t (sym masks_all ∙ h))
      ∙ twice t

  pub lanes_before : 0 < mask → count_trailing_zeros 64 mask ≡ prefix_len test t
  lanes_before h =
      ap (count_trailing_zeros 64) masks_all
      ∙ trailing_mask_l (λ b. not (test b)) 64 t (omega (arith, long)) (omega (arith, masks_all, h))
      ∙ twice t

-- the bytes before the first that fails the test pass it
pub every_before : (test : ℕ → Bool) (n : ℕ) (t : List ℕ)
    → Every test (take (prefix_len test (take n t)) t)
every_before test zero t = tt
every_before test (suc n) [] = tt
every_before test (suc n) (b ∷ t) =
    by (test b) refl (prefix_len test (take n t)) (every_before test n t)
  where
    by : (x : Bool) → test b ≡ x → (m : ℕ) → Every test (take m t)
        → Every test (take (cond x (1 + m) 0) (b ∷ t))
    by true e m h =
        let one : suc m ≡ 1 + m = omega arith in
        subst (λ r. Every test (take r (b ∷ t))) one (e, h)
    by false e m h = tt
