-- Which values have an empty canonical text.
use Rattle.std.proofs.Common.{◌≡◌, ℕ, ◌<◌, ◌^◌, List as Seq, [], ◌∷◌, ◌++◌, length}
use Rattle.std.proofs.Common.{decimal, refl, ap, arith}
use Rattle.std.specs.Prelude.{◌/◌, ℤ, pos, negsuc, nat_abs}
use Rattle.std.specs.Fmt.{signed_decimal}
use Rattle.std.proofs.lemmas.Fmt.{decimal_nonempty}
use Rattle.sf_value.specs.declared.dialect.Dialect.{Dialect}
use Rattle.sf_value.specs.declared.value.Bare.{Bare}
use Rattle.sf_value.specs.declared.value.Bare.TheVariants.{Integer, Decimal, Token}
use Rattle.sf_value.specs.declared.value.Item.{Item}
use Rattle.sf_value.specs.declared.value.Member.{Member}
use Rattle.sf_value.specs.declared.value.Member.TheVariants as member
use Rattle.sf_value.specs.declared.value.Field.TheVariants as field
use Rattle.sf_value.specs.declared.value.Kind.TheVariants as kind
use Rattle.sf_value.specs.Grammar.Words.{Each}
use Rattle.sf_value.specs.Grammar.Pairs.{Pairs}
use Rattle.sf_value.specs.Grammar.Numbers.{sign}
use Rattle.sf_value.specs.Grammar.Tokens.{IsKey}
use Rattle.sf_value.specs.Grammar.Valid.{ValidBare, ValidItem, ValidMember}
use Rattle.sf_value.specs.Grammar.Canonical.{is_negative, canon_bare, canon_item}
use Rattle.sf_value.specs.Grammar.Canonical.{canon_member, canon_entry, canon_params, canon_series}
use Rattle.sf_value.specs.Grammar.Canonical.{canon_commas, canon_behind}
use Rattle.sf_value.specs.Laws.{CanonIsEmpty}

-- what is joined is empty only if both parts are
prefix_empty : (xs ys : Seq ℕ) → xs ++ ys ≡ [] → xs ≡ []
prefix_empty [] ys e = refl
prefix_empty (x ∷ xs) ys e = absurd cc

suffix_empty : (xs ys : Seq ℕ) → xs ++ ys ≡ [] → ys ≡ []
suffix_empty [] ys e = e
suffix_empty (x ∷ xs) ys e = absurd cc

some_digit : (n : ℕ) → n < 10 ^ 15 → decimal n ≡ [] → ⊥
some_digit n h e =
    let long = decimal_nonempty n (omega arith) in
    let none : length (decimal n) ≡ 0 = ap length e in
    let never : ⊥ = omega arith in
    never

some_integer : (n : ℤ) → nat_abs n < 10 ^ 15 → signed_decimal n ≡ [] → ⊥
some_integer (pos n) h e = some_digit n h e
some_integer (negsuc n) h e = absurd cc

some_bare : (d : Dialect) (x : Bare) → ValidBare d x → canon_bare x ≡ [] → ⊥
some_bare d (Integer n) h e = some_integer n h e
some_bare d (Decimal m) h e =
    some_digit (nat_abs m / 1000) (omega arith)
    (prefix_empty (decimal (nat_abs m / 1000)) _ (suffix_empty (sign (is_negative m)) _ e))
some_bare d (Token []) h e = absurd h
some_bare d x h e = absurd cc

some_item : (d : Dialect) (i : Item) → ValidItem d i → canon_item i ≡ [] → ⊥
some_item d i h e = some_bare d i.bare h.0 (prefix_empty (canon_bare i.bare) (canon_params i.params) e)

some_member : (d : Dialect) (m : Member) → ValidMember d m → canon_member m ≡ [] → ⊥
some_member d (member.Item i) h e = some_item d i h e
some_member d (member.Inner l) h e = absurd cc

no_key : (s : Seq ℕ) → IsKey s → s ≡ [] → ⊥
no_key [] h e = absurd h
no_key (c ∷ s) h e = cc

no_members : (d : Dialect) (ms : Seq Member) → Each (ValidMember d) ms
    → canon_series canon_member ms ≡ [] → ms ≡ []
no_members d [] h e = refl
no_members d (m ∷ ms) h e =
    absurd (some_member d m h.0 (prefix_empty (canon_member m) (canon_commas canon_member ms) e))

no_entries : (d : Dialect) (ps : Pairs Member) → Each (λ p. IsKey p.0 × ValidMember d p.1) ps
    → canon_series canon_entry ps ≡ [] → ps ≡ []
no_entries d [] h e = refl
no_entries d (p ∷ ps) h e =
    absurd (no_key p.0 h.0.0 (prefix_empty p.0 (canon_behind p.1)
    (prefix_empty (canon_entry p) (canon_commas canon_entry ps) e)))

pub canon_is_empty : CanonIsEmpty
canon_is_empty d kind.Item (field.Item i) h = (λ e. some_item d i h e, λ n. absurd n)
canon_is_empty d kind.List (field.List l) h =
    (no_members d l.members h, λ n. ap (canon_series canon_member) n)
canon_is_empty d kind.Dict (field.Dict m) h =
    (no_entries d m.members h.0, λ n. ap (canon_series canon_entry) n)
canon_is_empty d k v h = absurd h
