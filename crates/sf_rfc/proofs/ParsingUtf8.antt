-- What keeps to the rules of RFC 3629 is well-formed by the table.
use Rattle.std.proofs.Common.{◌≡◌, ℕ, zero, suc, true, false, List, [], ◌∷◌, length, Option}
use Rattle.std.proofs.Common.{Some, None, refl, sym, ap, subst, inl, inr, arith}
use Rattle.std.proofs.lemmas.Bool.Decides.{nat_tests}
use Rattle.sf_value.specs.Grammar.Utf8.{Utf8, Start, Within, followed_by, rows, look_up}
use Rattle.sf_value.specs.Grammar.Utf8.{WellFormed}
use Rattle.sf_value.proofs.Words.{option_or_cases}
use Rattle.sf_rfc.specs.Rfc9651.Alphabets.{in_range}
use Rattle.sf_rfc.specs.Rfc9651.Utf8.{Rule, octet, then, utf8_tail, utf8_char, utf8_octets}
use Rattle.sf_rfc.specs.Rfc9651.Utf8.{utf8_1, utf8_2, utf8_3, utf8_4, is_utf8}
use Rattle.sf_rfc.proofs.ParsingSteps.{never, and_then_cases, only_if_cases}

octet_cases : (low high : ℕ) (t u : List ℕ) → octet low high t ≡ Some u
    → (c : ℕ) × (t ≡ c ∷ u) × (in_range low high c ≡ true)
octet_cases low high [] u e = never u e
octet_cases low high (c ∷ t) u e =
    let k = only_if_cases (in_range low high c) t u e in
    (c, ap (λ y. c ∷ y) k.1, k.0)

-- a byte in the range, and what follows it
next_formed : (n low high : ℕ) (t u : List ℕ) → octet low high t ≡ Some u → WellFormed (followed_by n) u
    → WellFormed (Within n low high) t
next_formed n low high t u e w =
    let (c, i, h) = octet_cases low high t u e in
    rw i (followed_by n, rw h refl, w)

two_formed : (low high : ℕ) (t u : List ℕ) → then (octet low high) utf8_tail t ≡ Some u
    → WellFormed Start u → WellFormed (Within 1 low high) t
two_formed low high t u e w =
    let (s, a, b) = and_then_cases (octet low high t) utf8_tail u e in
    next_formed 1 low high t s a (next_formed 0 128 191 s u b w)

three_formed : (low high : ℕ) (t u : List ℕ)
    → then (octet low high) (then utf8_tail utf8_tail) t ≡ Some u → WellFormed Start u
    → WellFormed (Within 2 low high) t
three_formed low high t u e w =
    let (s, a, b) = and_then_cases (octet low high t) (then utf8_tail utf8_tail) u e in
    next_formed 2 low high t s a (two_formed 128 191 s u b w)

-- the first byte's row
first_formed : (low high : ℕ) (x : Utf8) (q : Rule) (t u : List ℕ)
    → ((c : ℕ) → in_range low high c ≡ true → look_up rows c ≡ Some x)
    → ((s : List ℕ) → q s ≡ Some u → WellFormed x s)
    → then (octet low high) q t ≡ Some u → WellFormed Start t
first_formed low high x q t u row more e =
    let (s, a, b) = and_then_cases (octet low high t) q u e in
    let (c, i, h) = octet_cases low high t s a in
    subst (λ y. WellFormed Start y) (sym i) (x, row c h, more s b)

-- the row of each first byte
row_1 : (c : ℕ) → in_range 0 127 c ≡ true → look_up rows c ≡ Some Start
row_1 c h = rw h refl

row_2 : (c : ℕ) → in_range 194 223 c ≡ true → look_up rows c ≡ Some (Within 0 128 191)
row_2 c h = grind (arith, nat_tests)

row_3 : (c : ℕ) → in_range 224 224 c ≡ true → look_up rows c ≡ Some (Within 1 160 191)
row_3 c h = grind (arith, nat_tests)

row_4 : (c : ℕ) → in_range 225 236 c ≡ true → look_up rows c ≡ Some (Within 1 128 191)
row_4 c h = grind (arith, nat_tests)

row_5 : (c : ℕ) → in_range 237 237 c ≡ true → look_up rows c ≡ Some (Within 1 128 159)
row_5 c h = grind (arith, nat_tests)

row_6 : (c : ℕ) → in_range 238 239 c ≡ true → look_up rows c ≡ Some (Within 1 128 191)
row_6 c h = grind (arith, nat_tests)

row_7 : (c : ℕ) → in_range 240 240 c ≡ true → look_up rows c ≡ Some (Within 2 144 191)
row_7 c h = grind (arith, nat_tests)

row_8 : (c : ℕ) → in_range 241 243 c ≡ true → look_up rows c ≡ Some (Within 2 128 191)
row_8 c h = grind (arith, nat_tests)

row_9 : (c : ℕ) → in_range 244 244 c ≡ true → look_up rows c ≡ Some (Within 2 128 143)
row_9 c h = grind (arith, nat_tests)

-- a character and what follows it
one_formed : (t u : List ℕ) → WellFormed Start u → utf8_1 t ≡ Some u → WellFormed Start t
one_formed t u w e =
    let (c, i, h) = octet_cases 0 127 t u e in
    subst (λ y. WellFormed Start y) (sym i) (Start, row_1 c h, w)

formed_2 : (t u : List ℕ) → WellFormed Start u → utf8_2 t ≡ Some u → WellFormed Start t
formed_2 t u w e =
    first_formed 194 223 (Within 0 128 191) utf8_tail t u row_2
    (λ s b. next_formed 0 128 191 s u b w) e

formed_3 : (t u : List ℕ) → WellFormed Start u → utf8_3 t ≡ Some u → WellFormed Start t
formed_3 t u w e = elim (option_or_cases _ _ u e) [
  | inl a ↦ first_formed 224 224 (Within 1 160 191) (then (octet 160 191) utf8_tail) t u row_3
      (λ s b. two_formed 160 191 s u b w) a
  | inr (_, f) ↦ elim (option_or_cases _ _ u f) [
    | inl a ↦ first_formed 225 236 (Within 1 128 191) (then utf8_tail utf8_tail) t u row_4
        (λ s b. two_formed 128 191 s u b w) a
    | inr (_, g) ↦ elim (option_or_cases _ _ u g) [
      | inl a ↦ first_formed 237 237 (Within 1 128 159) (then (octet 128 159) utf8_tail) t u row_5
          (λ s b. two_formed 128 159 s u b w) a
      | inr (_, a) ↦ first_formed 238 239 (Within 1 128 191) (then utf8_tail utf8_tail) t u row_6
          (λ s b. two_formed 128 191 s u b w) a
    ]
  ]
]

formed_4 : (t u : List ℕ) → WellFormed Start u → utf8_4 t ≡ Some u → WellFormed Start t
formed_4 t u w e = elim (option_or_cases _ _ u e) [
  | inl a ↦ first_formed 240 240 (Within 2 144 191) (then (octet 144 191) (then utf8_tail utf8_tail)) t u
      row_7 (λ s b. three_formed 144 191 s u b w) a
  | inr (_, f) ↦ elim (option_or_cases _ _ u f) [
    | inl a ↦ first_formed 241 243 (Within 2 128 191) (then utf8_tail (then utf8_tail utf8_tail)) t u row_8
        (λ s b. three_formed 128 191 s u b w) a
    | inr (_, a) ↦ first_formed 244 244 (Within 2 128 143) (then (octet 128 143) (then utf8_tail utf8_tail)) t u
        row_9 (λ s b. three_formed 128 143 s u b w) a
  ]
]

character_formed : (t u : List ℕ) → WellFormed Start u → utf8_char t ≡ Some u → WellFormed Start t
character_formed t u w e = elim (option_or_cases _ _ u e) [
  | inl a ↦ one_formed t u w a
  | inr (_, f) ↦ elim (option_or_cases _ _ u f) [
    | inl a ↦ formed_2 t u w a
    | inr (_, g) ↦ elim (option_or_cases _ _ u g) [
      | inl a ↦ formed_3 t u w a
      | inr (_, a) ↦ formed_4 t u w a
    ]
  ]
]

octets_formed : (n : ℕ) (t : List ℕ) → utf8_octets n t ≡ true → WellFormed Start t
octets_formed zero [] h = tt
octets_formed (suc n) [] h = tt
octets_formed zero (c ∷ t) h = absurd cc
octets_formed (suc n) (c ∷ t) h = go (utf8_char (c ∷ t)) refl (octets_formed n)
  where
    go : (o : Option (List ℕ)) → utf8_char (c ∷ t) ≡ o
        → ((u : List ℕ) → utf8_octets n u ≡ true → WellFormed Start u) → WellFormed Start (c ∷ t)
    go None i ih =
        let k : false ≡ true = rw (i, utf8_octets) at h in absurd cc
    go (Some u) i ih =
        let k : utf8_octets n u ≡ true = rw (i, utf8_octets) at h in
        character_formed (c ∷ t) u (ih u k) i

pub utf8_formed : (t : List ℕ) → is_utf8 t ≡ true → WellFormed Start t
utf8_formed t h = octets_formed (length t) t h
