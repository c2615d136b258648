-- The names of a set stand for the set.
use Rattle.std.proofs.Common.{◌≡◌, ◌≢◌, ℕ, zero, suc, ◌+◌, ◌-◌, ◌/◌, ◌%◌, ◌^◌, ◌<◌, ◌≤◌, ◌⊎◌}
use Rattle.std.proofs.Common.{inl, inr, Bool, true, false, List, [], ◌∷◌, ◌++◌, bit_and, min}
use Rattle.std.proofs.Common.{refl, sym, ap, subst, ◌∙◌, arith, rules}
use Rattle.std.specs.Prelude.{◌==◌, ◌↔◌, nat_lt}
use Rattle.std.specs.Int.{bit_at}
use Rattle.std.proofs.lemmas.Bool.{cases_Bool}
use Rattle.std.proofs.lemmas.Nat.Bits.{bit_at_and, bit_at-lt, bit_at-suc, bit_at-zero, and_pow}
use Rattle.std.proofs.lemmas.Nat.Bits.{bit_at_lowest, bit_at-pow_same}
use lib.Bits.{and_le_l}
use Rattle.sf_parse.specs.declared.names.Name.{Name}
use Rattle.sf_parse.specs.declared.names.Name.TheVariants.{Byte}
use Rattle.sf_parse.specs.ByteSets.{is_in}
use Rattle.sf_parse.specs.Names.{name_at, set_of, fitting, end_name, IsNamed}
use Rattle.sf_parse.specs.Names.{NamesAreTheSet}

-- the bits of a part, taken out of a whole that has them all
sub_bits : (i s c : ℕ) → c ≤ s → ((k : ℕ) → bit_at c k ≤ bit_at s k)
    → bit_at (s - c) i ≡ bit_at s i - bit_at c i
sub_bits zero s c le h =
    let low : c % 2 ≤ s % 2 = rw (bit_at_lowest c, bit_at_lowest s) at (h 0) in
    let taken : (s - c) % 2 ≡ s % 2 - c % 2 = omega arith in
    bit_at_lowest (s - c) ∙ (taken ∙ sym (rw (bit_at_lowest s, bit_at_lowest c) refl))
sub_bits (suc i) s c le h =
    let low : c % 2 ≤ s % 2 = rw (bit_at_lowest c, bit_at_lowest s) at (h 0) in
    let halves : (s - c) / 2 ≡ s / 2 - c / 2 = omega arith in
    let less : c / 2 ≤ s / 2 = omega arith in
    let up : (k : ℕ) → bit_at (c / 2) k ≤ bit_at (s / 2) k =
    λ k. rw (bit_at-suc c k, bit_at-suc s k) at (h (suc k)) in
    bit_at-suc (s - c) i ∙ (ap (λ n. bit_at n i) halves ∙ (sub_bits i (s / 2) (c / 2) less up
    ∙ sym (rw (bit_at-suc s i, bit_at-suc c i) refl)))

-- a bit is clear or set
bit_cases : (s b : ℕ) → (bit_at s b ≡ 1) ⊎ (bit_at s b ≡ 0)
bit_cases s b = by (bit_at s b) refl (bit_at-lt s b)
  where
    by : (n : ℕ) → bit_at s b ≡ n → n < 2 → (bit_at s b ≡ 1) ⊎ (bit_at s b ≡ 0)
    by zero e h = inr e
    by (suc zero) e h = inl e
    by (suc (suc n)) e h = absurd (let never : ⊥ = omega arith in never)

-- the name's bytes are all in the set
module _ (s c : ℕ) (fits : bit_and s c ≡ c) where
  part : (k : ℕ) → bit_at c k ≤ bit_at s k
  part k =
      let both : bit_at c k ≡ min (bit_at s k) (bit_at c k) =
      sym (ap (λ n. bit_at n k) fits) ∙ bit_at_and s c k in
      omega arith

  less : c ≤ s
  less = subst (λ n. n ≤ s) fits (and_le_l s c)

  left : (b : ℕ) → bit_at (s - c) b ≡ bit_at s b - bit_at c b
  left b = sub_bits b s c less part

-- whether a byte is in a set, by its bit
is_set : (s b : ℕ) → bit_at s b ≡ 1 → is_in s b ≡ true
is_set s b e = rw e refl

bit_of : (s b : ℕ) → is_in s b ≡ true → bit_at s b ≡ 1
bit_of s b e = search (rules, e)

-- the byte comes among the k names from the nth on
abbrev Comes : ℕ → ℕ → ℕ → Type 0
Comes n k b = (m : ℕ) × (n ≤ m) × (m < n + k) × (name_at m ≡ Byte b)

-- what a name of a byte stands for
byte_set : (b : ℕ) → b < 128 → set_of (Byte b) ≡ 2 ^ b
byte_set b h = let t : nat_lt b 128 ≡ true = search (rules, h) in rw t refl

byte_fits : (s b : ℕ) → bit_at s b ≡ 1 → bit_and s (2 ^ b) ≡ 2 ^ b
byte_fits s b e = and_pow s b ∙ (rw e (omega arith))

pub named_all : (k n s b : ℕ) → b < 128 → bit_at s b ≡ 1 → Comes n k b
    → IsNamed b (fitting s n k)
unfolding fitting
named_all zero n s b h e c = absurd (let m = c.0 in let low = c.1 in let high = c.2 in let never : ⊥ = omega arith in never)
named_all (suc k) n s b h e c =
    elim (cases_Bool (bit_and s (set_of (name_at n)) == set_of (name_at n))) [
      | inl t ↦ (
          let fits : bit_and s (set_of (name_at n)) ≡ set_of (name_at n) = search (rules, t) in
          rw t (elim (bit_cases (set_of (name_at n)) b) [
            | inl one ↦ inl (is_set (set_of (name_at n)) b one)
            | inr none ↦ inr (
                let stays : bit_at (s - set_of (name_at n)) b ≡ 1 = left s (set_of (name_at n)) fits b ∙ rw (e, none) refl in
                named_all k (suc n) (s - set_of (name_at n)) b h stays (later none)
                )
          ])
          )
      | inr f ↦ (
          let unlike : bit_and s (set_of (name_at n)) ≢ set_of (name_at n) = search (rules, f) in
          rw f (named_all k (suc n) s b h e (passed unlike))
          )
    ]
  where
    beyond : n ≢ c.0 → Comes (suc n) k b
    beyond u = let low = c.1 in let high = c.2 in (c.0, omega arith, omega arith, c.3)

    later : bit_at (set_of (name_at n)) b ≡ 0 → Comes (suc n) k b
    later none = beyond (λ same.
        let name : name_at n ≡ Byte b = ap name_at same ∙ c.3 in
        let one : bit_at (set_of (name_at n)) b ≡ 1 =
        ap (λ x. bit_at (set_of x) b) name ∙ (ap (λ x. bit_at x b) (byte_set b h) ∙ bit_at-pow_same b) in
        let clash : 0 ≡ 1 = sym none ∙ one in
        absurd cc)

    passed : bit_and s (set_of (name_at n)) ≢ set_of (name_at n) → Comes (suc n) k b
    passed unlike = beyond (λ same.
        let name : name_at n ≡ Byte b = ap name_at same ∙ c.3 in
        let set : set_of (name_at n) ≡ 2 ^ b = ap set_of name ∙ byte_set b h in
        unlike (rw set (byte_fits s b e)))

pub named_within : (k n s b : ℕ) → IsNamed b (fitting s n k) → bit_at s b ≡ 1
unfolding fitting
named_within zero n s b h = absurd h
named_within (suc k) n s b h =
    elim (cases_Bool (bit_and s (set_of (name_at n)) == set_of (name_at n))) [
      | inl t ↦ (
          let fits : bit_and s (set_of (name_at n)) ≡ set_of (name_at n) = search (rules, t) in
          let cases : (is_in (set_of (name_at n)) b ≡ true)
          ⊎ IsNamed b (fitting (s - set_of (name_at n)) (suc n) k) = rw t at h in
          elim cases [
            | inl one ↦ (
                let set : bit_at (set_of (name_at n)) b ≡ 1 = bit_of (set_of (name_at n)) b one in
                let some = part s (set_of (name_at n)) fits b in
                let most = bit_at-lt s b in
                omega arith
                )
            | inr more ↦ (
                let rest : bit_at (s - set_of (name_at n)) b ≡ 1 = named_within k (suc n) (s - set_of (name_at n)) b more in
                let taken = left s (set_of (name_at n)) fits b in
                let most = bit_at-lt s b in
                omega arith
                )
          ]
          )
      | inr f ↦ (
          let more : IsNamed b (fitting s (suc n) k) = rw f at h in
          named_within k (suc n) s b more
          )
    ]

-- the end is no byte
named_end : (b : ℕ) (names : List Name) (may_end : Bool)
    → IsNamed b names ↔ IsNamed b (names ++ end_name may_end)
named_end b [] true = (
  λ h. absurd h,
  λ h. elim h [
    | inl e ↦ (let one : bit_at 0 b ≡ 1 = bit_of 0 b e in let clash : 0 ≡ 1 = sym (bit_at-zero b) ∙ one in absurd cc)
    | inr n ↦ absurd n
  ],
)
named_end b [] false = (λ h. h, λ h. h)
named_end b (name ∷ names) may_end =
    let rest = named_end b names may_end in (
      λ h. elim h [ inl e ↦ inl e | inr n ↦ inr (rest.0 n) ],
      λ h. elim h [ inl e ↦ inl e | inr n ↦ inr (rest.1 n) ],
    )

-- each byte has a place among the names
byte_place : (b : ℕ) → b < 128 → Comes 0 137 b
byte_place b h =
    let back : ((b + 95) % 128 + 33) % 128 ≡ b = omega arith in
    (9 + (b + 95) % 128, omega arith, omega arith, at ((b + 95) % 128) back)
  where
    at : (i : ℕ) → (i + 33) % 128 ≡ b → name_at (9 + i) ≡ Byte b
    at i e =
        let up : 9 + i ≡ suc (suc (suc (suc (suc (suc (suc (suc (suc i)))))))) = omega arith in
        let down : suc (suc (suc (suc (suc (suc (suc (suc (suc i)))))))) - 9 ≡ i = omega arith in
        let byte : (suc (suc (suc (suc (suc (suc (suc (suc (suc i)))))))) - 9 + 33) % 128 ≡ b = rw down e in
        ap name_at up ∙ ap Byte byte

pub names_are_the_set : NamesAreTheSet
names_are_the_set set may_end b h = (
  λ e. (named_end b (fitting set 0 137) may_end).0
      (named_all 137 0 set b h (bit_of set b e) (byte_place b h)),
  λ n. is_set set b (named_within 137 0 set b ((named_end b (fitting set 0 137) may_end).1 n)),
)
