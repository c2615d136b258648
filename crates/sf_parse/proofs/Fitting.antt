-- The names of a set, one after another.
use Rattle.std.proofs.Common.{◌≡◌, ◌≢◌, ℕ, zero, suc, ◌+◌, ◌-◌, ◌*◌, ◌%◌, ◌^◌, ◌<◌, ◌≤◌}
use Rattle.std.proofs.Common.{true, false, [], ◌∷◌, bit_and, refl, sym, ap, ◌∙◌, arith, rules}
use Rattle.std.specs.Prelude.{◌==◌, nat_lt}
use Rattle.std.specs.Int.{bit_at}
use Rattle.std.proofs.Math.Pow.{pow-lt}
use Rattle.std.proofs.Math.Nat.{mod-eq_of_lt}
use Rattle.std.proofs.lemmas.Nat.{pow_pos}
use Rattle.std.proofs.lemmas.Nat.Bits.{and_pow, bit_at-lt}
use Rattle.sf_parse.specs.ByteSets.{is_in, HasNone}
use Rattle.sf_parse.specs.declared.names.Name.TheVariants.{Byte}
use Rattle.sf_parse.specs.declared.names.Name.{Name}
use Rattle.sf_parse.specs.Names.{name_at, set_of, fitting}

pub fitting-none : (set n : ℕ) → fitting set n 0 ≡ []
unfolding fitting
fitting-none set n = refl

-- a name that does not fit is passed over
pub fitting-not : (set n bytes : ℕ) (name : Name) → n < 137 → name ≡ name_at n
    → bytes ≡ set_of name → bit_and set bytes ≢ bytes
    → fitting set n (137 - n) ≡ fitting set (n + 1) (137 - (n + 1))
unfolding fitting
fitting-not set n bytes name h called stands unlike =
    let size : 137 - n ≡ suc (137 - (n + 1)) = omega arith in
    let next : n + 1 ≡ suc n = omega arith in
    let not : bit_and set (set_of (name_at n)) ≢ set_of (name_at n) = rw (stands, called) at unlike in
    let f : (bit_and set (set_of (name_at n)) == set_of (name_at n)) ≡ false = search (rules, not) in
    rw (size, next, f) refl

-- a name that fits takes its bytes out
pub fitting-one : (set n bytes : ℕ) (name : Name) → n < 137 → name ≡ name_at n
    → bytes ≡ set_of name → bit_and set bytes ≡ bytes
    → fitting set n (137 - n) ≡ name ∷ fitting (set - bytes) (n + 1) (137 - (n + 1))
unfolding fitting
fitting-one set n bytes name h called stands whole =
    let size : 137 - n ≡ suc (137 - (n + 1)) = omega arith in
    let next : n + 1 ≡ suc n = omega arith in
    let fits : bit_and set (set_of (name_at n)) ≡ set_of (name_at n) = rw (stands, called) at whole in
    let t : (bit_and set (set_of (name_at n)) == set_of (name_at n)) ≡ true = search (rules, fits) in
    rw (stands, called, size, next, t) refl

-- the test for one byte
and_pow-in : (set b : ℕ) → is_in set b ≡ true → bit_and set (2 ^ b) ≡ 2 ^ b
and_pow-in set b t =
    let e : bit_at set b ≡ 1 = search (rules, t) in
    and_pow set b ∙ rw e (omega arith)

and_pow-out : (set b : ℕ) → is_in set b ≡ false → bit_and set (2 ^ b) ≢ 2 ^ b
and_pow-out set b f same =
    let u : bit_at set b ≢ 1 = search (rules, f) in
    clear (bit_at set b) u (bit_at-lt set b) (sym (and_pow set b) ∙ same)
  where
    clear : (n : ℕ) → n ≢ 1 → n < 2 → n * 2 ^ b ≡ 2 ^ b → ⊥
    clear zero u m e = let some = pow_pos b in let never : ⊥ = omega arith in never
    clear (suc zero) u m e = u refl
    clear (suc (suc n)) u m e = let never : ⊥ = omega arith in never

-- the names after the classes are those of bytes
pub name_of_byte : (n b : ℕ) → 9 ≤ n → (n - 9 + 33) % 128 ≡ b → name_at n ≡ Byte b
name_of_byte n b h e =
    let up : n ≡ suc (suc (suc (suc (suc (suc (suc (suc (suc (n - 9))))))))) = omega arith in
    let same : (suc (suc (suc (suc (suc (suc (suc (suc (suc (n - 9))))))))) - 9 + 33) % 128 ≡ b = rw (← up) e in
    ap name_at up ∙ ap Byte same

byte_set : (b : ℕ) → b < 128 → 2 ^ b ≡ set_of (Byte b)
byte_set b h = let t : nat_lt b 128 ≡ true = search (rules, h) in rw t refl

-- the bytes from one name to another are not in the set
pub bytes-skip : (set n m : ℕ) → 9 ≤ n → n ≤ m → m ≤ 137
    → ((k : ℕ) → n ≤ k → k < m → is_in set ((k - 9 + 33) % 128) ≡ false)
    → fitting set n (137 - n) ≡ fitting set m (137 - m)
bytes-skip set n m above up within none = by (m - n) n (omega arith) above none
  where
    by : (d n : ℕ) → n + d ≡ m → 9 ≤ n
        → ((k : ℕ) → n ≤ k → k < m → is_in set ((k - 9 + 33) % 128) ≡ false)
        → fitting set n (137 - n) ≡ fitting set m (137 - m)
    by zero n e h none = let same : n ≡ m = omega arith in ap (λ k. fitting set k (137 - k)) same
    by (suc d) n e h none =
        let b : ℕ = (n - 9 + 33) % 128 in
        let small : b < 128 = omega arith in
        let out : is_in set b ≡ false = none n (omega arith) (omega arith) in
        let name : Byte b ≡ name_at n = sym (name_of_byte n b h refl) in
        fitting-not set n (2 ^ b) (Byte b) (omega arith) name (byte_set b small) (and_pow-out set b out)
        ∙ by d (n + 1) (omega arith) (omega arith) (λ k l u. none k (omega arith) u)

-- the byte of a name is in the set
pub bytes-take : (set n b : ℕ) → 9 ≤ n → n < 137 → (n - 9 + 33) % 128 ≡ b → is_in set b ≡ true
    → fitting set n (137 - n) ≡ Byte b ∷ fitting (set - 2 ^ b) (n + 1) (137 - (n + 1))
bytes-take set n b above below e t =
    let small : b < 128 = omega arith in
    fitting-one set n (2 ^ b) (Byte b) below (sym (name_of_byte n b above e)) (byte_set b small)
    (and_pow-in set b t)

-- the bytes from `!` on
pub high-none : (set p : ℕ) → 9 ≤ p → p < 104 → HasNone set (p + 24) 128
    → fitting set p (137 - p) ≡ fitting set 104 (137 - 104)
high-none set p h below none =
    bytes-skip set p 104 h (omega arith) (omega arith)
    (λ k l u.
    let b : (k - 9 + 33) % 128 ≡ k + 24 = omega arith in
    rw b (none (k + 24) (omega arith) (omega arith)))

pub high-some : (set p b : ℕ) → 9 ≤ p → p + 24 ≤ b → b < 128 → is_in set b ≡ true
    → HasNone set (p + 24) b
    → fitting set p (137 - p)
    ≡ Byte b ∷ fitting (set - 2 ^ b) (b - 24 + 1) (137 - (b - 24 + 1))
high-some set p b h up small t none =
    bytes-skip set p (b - 24) h (omega arith) (omega arith)
    (λ k l u.
    let b : (k - 9 + 33) % 128 ≡ k + 24 = omega arith in
    rw b (none (k + 24) (omega arith) (omega arith)))
    ∙ bytes-take set (b - 24) b (omega arith) (omega arith) (omega arith) t

-- the bytes below it
pub low-none : (set p : ℕ) → 104 ≤ p → p < 137 → HasNone set (p - 104) 33
    → fitting set p (137 - p) ≡ fitting set 137 (137 - 137)
low-none set p h below none =
    bytes-skip set p 137 (omega arith) (omega arith) (omega arith)
    (λ k l u.
    let b : (k - 9 + 33) % 128 ≡ k - 104 = omega arith in
    rw b (none (k - 104) (omega arith) (omega arith)))

pub low-some : (set p b : ℕ) → 104 ≤ p → p - 104 ≤ b → b < 33 → is_in set b ≡ true
    → HasNone set (p - 104) b
    → fitting set p (137 - p)
    ≡ Byte b ∷ fitting (set - 2 ^ b) (b + 104 + 1) (137 - (b + 104 + 1))
low-some set p b h up small t none =
    bytes-skip set p (b + 104) (omega arith) (omega arith) (omega arith)
    (λ k l u.
    let b : (k - 9 + 33) % 128 ≡ k - 104 = omega arith in
    rw b (none (k - 104) (omega arith) (omega arith)))
    ∙ bytes-take set (b + 104) b (omega arith) (omega arith) (omega arith) t

-- a byte's bit, as it is shifted
pub byte_bit : (b : ℕ) → b < 128 → 1 * 2 ^ b % 2 ^ 128 ≡ 2 ^ b
byte_bit b h = let fits : 2 ^ b < 2 ^ 128 = pow-lt h in ap (λ n. n % 2 ^ 128) one ∙ mod-eq_of_lt fits
  where
    one : 1 * 2 ^ b ≡ 2 ^ b
    one = omega arith
