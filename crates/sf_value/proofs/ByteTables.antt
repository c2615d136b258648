-- Tables of 256 bytes that give each byte's value, or a limit if it has none.
use Rattle.std.proofs.Common.{◌≡◌, ℕ, ◌<◌, ◌≤◌, Bool, true, false, ◌==◌, not, List, get_or, Option}
use Rattle.std.proofs.Common.{Some, None}
use Rattle.std.proofs.Common.{refl, ap, eqb-true, arith, bit_and, nat_eq}
use Rattle.sf_value.proofs.Tables.{all_below, each_below}

-- what stands for no value is the limit
abbrev pub value_or : ℕ → Option ℕ → ℕ
value_or limit None = limit
value_or limit (Some v) = v

abbrev pub has_values : List ℕ → ℕ → (ℕ → Option ℕ) → Bool
has_values table limit read = all_below 256 (λ b. get_or table b 0 == value_or limit (read b))

read_at : (table : List ℕ) (limit : ℕ) (read : ℕ → Option ℕ) → has_values table limit read ≡ true
    → (b : ℕ) → b < 256 → get_or table b 0 ≡ value_or limit (read b)
read_at table limit read h b l =
    eqb-true (get_or table b 0) (value_or limit (read b))
    (each_below 256 (λ b. get_or table b 0 == value_or limit (read b)) h b l)

-- a value below the limit is the byte's
pub value_read : (table : List ℕ) (limit : ℕ) (read : ℕ → Option ℕ)
    → has_values table limit read ≡ true → (b : ℕ) → b < 256 → get_or table b 0 < limit
    → Some (get_or table b 0) ≡ read b
value_read table limit read h b l k =
    let e = read_at table limit read h b l in by (get_or table b 0) (read b) e k
  where
    by : (v : ℕ) (o : Option ℕ) → v ≡ value_or limit o → v < limit → Some v ≡ o
    by v None e k = absurd (let n : ⊥ = omega arith in n)
    by v (Some x) e k = ap (λ y. Some y) e

-- the limit tells that it has none
pub none_read : (table : List ℕ) (limit : ℕ) (read : ℕ → Option ℕ)
    → has_values table limit read ≡ true → ((b v : ℕ) → read b ≡ Some v → v < limit)
    → (b : ℕ) → b < 256 → limit ≤ get_or table b 0 → None ≡ read b
none_read table limit read h small b l k =
    let e = read_at table limit read h b l in
    by (get_or table b 0) (read b) e k (λ v f. small b v f)
  where
    by : (v : ℕ) (o : Option ℕ) → v ≡ value_or limit o → limit ≤ v
        → ((x : ℕ) → o ≡ Some x → x < limit) → None ≡ o
    by v None e k s = refl
    by v (Some x) e k s = absurd (let w = s x refl in let n : ⊥ = omega arith in n)

-- flags of bytes
abbrev pub has_flag : List ℕ → ℕ → ℕ → Bool
has_flag table flag b = not (nat_eq (bit_and (get_or table b 0) flag) 0)

abbrev pub same : Bool → Bool → Bool
same true y = y
same false y = not y

abbrev pub has_flags : List ℕ → ℕ → (ℕ → Bool) → Bool
has_flags table flag test = all_below 256 (λ b. same (has_flag table flag b) (test b))

same_is : (x y : Bool) → same x y ≡ true → x ≡ y
same_is x y h = grind arith

pub flag_read : (table : List ℕ) (flag : ℕ) (test : ℕ → Bool) → has_flags table flag test ≡ true
    → (b : ℕ) → b < 256 → has_flag table flag b ≡ test b
flag_read table flag test h b l =
    same_is (has_flag table flag b) (test b)
    (each_below 256 (λ b. same (has_flag table flag b) (test b)) h b l)
