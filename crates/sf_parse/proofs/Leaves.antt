-- Bare items that were found, and their numbers.
use Rattle.std.proofs.Common.{◌≡◌, ℕ, ◌^◌, ◌<◌, ℤ, nat_abs, true, List, [], ◌∷◌, refl, sym, subst}
use Rattle.std.proofs.Common.{append-nil, arith, w64, to_z, of_z, Bool, false, ◌++◌, ◌≤◌, length, ap}
use Rattle.std.proofs.Common.{length-append, ◌∙◌, ◌⊎◌, ⊎_elim, inl, inr}
use Rattle.sf_value.specs.InPlace.{FitsInPlace}
use Rattle.sf_value.specs.Grammar.Classes.{is_sp, is_token_start}
use Rattle.sf_value.specs.Grammar.Strings.{is_escaped, escaped}
use Rattle.sf_value.specs.Grammar.Tokens.{IsToken}
use Rattle.sf_value.specs.Grammar.Words.{Every}
use Rattle.sf_parse.specs.AllocationFree.{scalar_byte, short_byte, IsShortText, TakesNoMemory}
use Rattle.sf_parse.specs.WholeParts.{ReadsAs}
use Rattle.sf_value.specs.Runs.{Skips}
use Rattle.sf_parse.proofs.Prefixes.{every_split}
use Rattle.std.proofs.lemmas.Int.{to_z-of_z}
use Rattle.sf_value.specs.declared.dialect.Dialect.{Dialect}
use Rattle.sf_value.specs.declared.dialect.Dialect.TheVariants.{Rfc8941}
use Rattle.sf_value.specs.Grammar.BareItems.{SpellsBare}
use Rattle.sf_value.specs.Grammar.Items.{item}
use Rattle.sf_value.specs.Grammar.Valid.{ValidBare}
use Rattle.sf_value.specs.declared.value.Bare.{Bare}
use Rattle.sf_value.specs.declared.value.Field.TheVariants as field
use Rattle.sf_value.specs.declared.value.Kind.TheVariants as kind
use Rattle.sf_value.proofs.Validity.{spelled_valid}
use Rattle.sf_scan.specs.Leaves.{leaf_bare, unescaped}
use Rattle.sf_scan.specs.Scans.{MakesLeaf}
use Rattle.sf_scan.specs.declared.leaf.Leaf.{Leaf}
use Rattle.sf_scan.specs.declared.leaf.Leaf.TheVariants as leaf
use Rattle.sf_scan.specs.declared.place.Stop.{Stop}
use Rattle.sf_scan.specs.declared.place.BarePlace.{BarePlace}
use Rattle.sf_scan.proofs.Taken.{leaf_read}
use Rattle.sf_parse.specs.Leaves.{IsLeaf, FitsLeaf}

-- what the scanner read is a leaf
pub leaf_found : (d : Dialect) (text : List ℕ) (r : Stop BarePlace × Leaf)
    → MakesLeaf (λ spelled leaf made. made ≡ leaf) d text r.0 r.1 → IsLeaf r.1
leaf_found d text r h =
    let read = leaf_read d text r h in (d, read.reads.stops.prefix, read.reads.spelled)

-- a key without a value
pub true_leaf : IsLeaf (leaf.Boolean true)
true_leaf = (Rfc8941, 63 ∷ 49 ∷ [], refl)

-- a bare item that is spelled is valid, as an Item without parameters is
bare_valid : (d : Dialect) (t : List ℕ) (x : Bare) → SpellsBare d t x → ValidBare d x
bare_valid d t x h =
    (spelled_valid d kind.Item (field.Item (item x [])) t (
      [],
      t,
      [],
      sym (append-nil t),
      tt,
      (t, [], sym (append-nil t), h, ([], refl, refl)),
      tt,
    )).0

-- and fit in 64 bits
in_bits : (n : ℤ) → nat_abs n < 10 ^ 15 → nat_abs (to_z w64 (of_z w64 n)) < 10 ^ 15
in_bits n h = grind (arith, to_z-of_z)

pub integer_fits : (l : Leaf) (n : ℤ) → IsLeaf l → l ≡ leaf.Integer n
    → nat_abs (to_z w64 (of_z w64 n)) < 10 ^ 15
integer_fits l n h e =
    let k = subst IsLeaf e h in in_bits n (bare_valid k.0 k.1 (leaf_bare (leaf.Integer n)) k.2)

pub date_fits : (l : Leaf) (n : ℤ) → IsLeaf l → l ≡ leaf.Date n
    → nat_abs (to_z w64 (of_z w64 n)) < 10 ^ 15
date_fits l n h e =
    let k = subst IsLeaf e h in
    in_bits n (bare_valid k.0 k.1 (leaf_bare (leaf.Date n)) k.2).1

pub decimal_fits : (l : Leaf) (n : ℤ) → IsLeaf l → l ≡ leaf.Decimal n
    → nat_abs (to_z w64 (of_z w64 n)) < 10 ^ 15
decimal_fits l n h e =
    let k = subst IsLeaf e h in in_bits n (bare_valid k.0 k.1 (leaf_bare (leaf.Decimal n)) k.2)

-- the text of an Item that does not allocate
escaped_longer : (s : List ℕ) → length s ≤ length (escaped s)
escaped_longer [] = omega arith
escaped_longer (b ∷ s) = by (is_escaped b) refl (escaped_longer s)
  where
    by : (x : Bool) → is_escaped b ≡ x → length s ≤ length (escaped s)
        → length (b ∷ s) ≤ length (escaped (b ∷ s))
    by true e k = rw e (omega arith)
    by false e k = rw e (omega arith)

string_fits : (t s : List ℕ) → t ≡ 34 ∷ (escaped s ++ 34 ∷ []) → FitsInPlace t → FitsInPlace s
string_fits t s e h =
    let k = escaped_longer s in
    let n = length-append (escaped s) (34 ∷ []) in
    let m : length t ≡ length (34 ∷ (escaped s ++ 34 ∷ [])) = ap length e in
    omega arith

no_first : (q : ℕ → Bool) (b : ℕ) (t more : List ℕ) → t ≡ b ∷ more → Every q t → q b ≡ false → ⊥
no_first q b t more e h n =
    let k = subst (Every q) e h in
    let f : true ≡ false = sym k.0 ∙ n in cc

token_scalar : (s : List ℕ) → IsToken s → Every scalar_byte s → ⊥
token_scalar [] h w = h
token_scalar (b ∷ s) h w = by b h.0 w.0
  where
    by : (b : ℕ) → is_token_start b ≡ true → scalar_byte b ≡ true → ⊥
    by b h w = grind arith

leaf_fits : (d : Dialect) (t : List ℕ) (l : Leaf) → SpellsBare d t (leaf_bare l)
    → Every scalar_byte t ⊎ IsShortText t → FitsLeaf l
leaf_fits d t (leaf.Integer n) h w = tt
leaf_fits d t (leaf.Decimal m) h w = tt
leaf_fits d t (leaf.Date n) h w = tt
leaf_fits d t (leaf.Boolean b) h w = tt
leaf_fits d t (leaf.Token s) h w = ⊎_elim
    (λ k. absurd (token_scalar s.now h.1 (subst (Every scalar_byte) h.0 k)))
    (λ k. subst FitsInPlace h.0 k.0) w
leaf_fits d t (leaf.Text s) h w = ⊎_elim
    (λ k. absurd (no_first scalar_byte 34 t _ h.0 k refl)) (λ k. string_fits t s.now h.0 k.0) w
leaf_fits d t (leaf.Escaped s) h w = ⊎_elim
    (λ k. absurd (no_first scalar_byte 34 t _ h.0 k refl))
    (λ k. string_fits t (unescaped s.now) h.0 k.0) w
leaf_fits d t (leaf.Blob s) h w = ⊎_elim
    (λ k. no_first scalar_byte 58 t _ h.1 k refl) (λ k. no_first short_byte 58 t _ h.1 k.1 refl) w
leaf_fits d t (leaf.Display s) h w = ⊎_elim
    (λ k. no_first scalar_byte 37 t _ h.1.1 k refl)
    (λ k. no_first short_byte 37 t _ h.1.1 k.1 refl) w

parts : (q : ℕ → Bool) (text inside front rest : List ℕ) → Skips is_sp text inside
    → inside ≡ front ++ rest → Every q text → Every q front × Every q rest
parts q text inside front rest b e h =
    every_split q front rest (subst (Every q) e
    (every_split q b.prefix inside (subst (Every q) b.split h)).1)

part_fits : (text inside front rest : List ℕ) → Skips is_sp text inside → inside ≡ front ++ rest
    → FitsInPlace text → FitsInPlace front
part_fits text inside front rest b e h =
    let n = length-append b.prefix inside in
    let m = length-append front rest in
    let k : length text ≡ length (b.prefix ++ inside) = ap length b.split in
    let l : length inside ≡ length (front ++ rest) = ap length e in
    omega arith

-- it has no parameters, and its bare item is built in place
pub no_params : (d : Dialect) (text inside after more : List ℕ) (x : Bare)
    → Skips is_sp text inside → ReadsAs (SpellsBare d) inside x after → after ≡ 59 ∷ more
    → TakesNoMemory kind.Item text → ⊥
no_params d text inside after more x b r e w = ⊎_elim
    (λ k. no_first scalar_byte 59 after more e (parts scalar_byte text inside _ after b r.split k).1
    refl)
    (λ k. no_first short_byte 59 after more e (parts short_byte text inside _ after b r.split k.1).1
    refl) w

pub item_fits : (d : Dialect) (text inside after : List ℕ) (l : Leaf) → Skips is_sp text inside
    → ReadsAs (SpellsBare d) inside (leaf_bare l) after → TakesNoMemory kind.Item text → FitsLeaf l
item_fits d text inside after l b r w =
    leaf_fits d r.prefix l r.spelled (⊎_elim
    (λ k. inl (parts scalar_byte text inside _ after b r.split k).0)
    (λ k. inr (
      part_fits text inside r.prefix after b r.split k.0,
      (parts short_byte text inside _ after b r.split k.1).0,
    )) w)
