use Rattle.std.proofs.Common.{◌≡◌, ℕ, ◌+◌, ◌-◌, ◌<◌, ◌==◌, false, length, take, drop, get_or}
use Rattle.std.proofs.Common.{Bool, refl, arith}
use Rattle.std.specs.List.{position_or_len}
use Rattle.std.proofs.lemmas.Bool.{false_from_ne_true}
use Rattle.std.proofs.lemmas.Grind.{common_steps}
use Rattle.std.proofs.lemmas.List.Sums.{position_or_len_is}
use Rattle.sf_tool.proofs.cutting.split_at_first.Goals as goal

pub returns-in-Some : goal.returns-in-Some
returns-in-Some c =
    let xs = c.args.bytes.now in
    let i = c.in-Some.at in
    let p : ℕ → Bool = λ b. b == c.args.separator in
    let first = c.in-Some.ensures.0 in
    let fails : (k : ℕ) → k < i → (get_or xs k 0 == c.args.separator) ≡ false =
    λ k h. false_from_ne_true _ (first.before k (omega arith) h) in
    let within : i < length xs = first.high in
    let at : position_or_len p xs ≡ i =
    position_or_len_is p xs i 0 (omega arith) fails (λ _. c.in-Some.ensures.1) in
    let rest : take (length xs - (i + 1)) (drop (i + 1) xs) ≡ drop (i + 1) xs =
    grind (arith, common_steps) in
    rw at (within, refl, rest)

pub returns-in-None : goal.returns-in-None
returns-in-None c =
    let xs = c.args.bytes.now in
    let p : ℕ → Bool = λ b. b == c.args.separator in
    let fails : (k : ℕ) → k < length xs → (get_or xs k 0 == c.args.separator) ≡ false =
    λ k h. false_from_ne_true _ (c.in-None.ensures k (omega arith) h) in
    position_or_len_is p xs (length xs) 0 (omega arith) fails (λ h. absurd (omega arith))
