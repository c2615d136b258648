-- Bytes that are a key, a Token or a String are refused as out of memory alone.
use Rattle.std.proofs.Common.{◌≡◌, ℕ, Bool, not, List, [], ◌∷◌}
use Rattle.std.proofs.Common.{None, refl, length, arith}
use Rattle.std.proofs.lemmas.Bool.Decides.{nat_tests}
use Rattle.std.specs.List.{position_or_len}
use Rattle.sf_value.specs.declared.fault.TextFault.{TextFault}
use Rattle.sf_value.specs.declared.fault.TextFault.TheVariants.{Empty, OutOfMemory}
use Rattle.sf_value.specs.Grammar.Classes.{is_visible}
use Rattle.sf_value.specs.Grammar.Words.{Every, IsWord}
use Rattle.sf_value.specs.Faults.{bad_place, bad_word_place, IsWordFault, IsStringFault}

every_length : (p : ℕ → Bool) (bs : List ℕ) → Every p bs
    → position_or_len (λ b. not (p b)) bs ≡ length bs
every_length p [] h = refl
every_length p (b ∷ bs) h = rw (h.0, every_length p bs h.1) (omega arith)

pub every_place : (p : ℕ → Bool) (bs : List ℕ) → Every p bs → bad_place p bs ≡ None
every_place p bs h = rw (every_length p bs h) (grind (arith, nat_tests))

word_place : (p q : ℕ → Bool) (bs : List ℕ) → IsWord p q bs → bad_word_place p q bs ≡ None
word_place p q [] h = refl
word_place p q (b ∷ bs) h = rw (h.0, every_place q bs h.1)

pub refused_word : (p q : ℕ → Bool) (bs : List ℕ) (fault : TextFault) → IsWord p q bs
    → IsWordFault p q bs fault → fault ≡ OutOfMemory
refused_word p q bs OutOfMemory h e = refl
refused_word p q [] Empty h e = absurd h
refused_word p q bs fault h e = let none = word_place p q bs h in absurd cc

pub refused_text : (bs : List ℕ) (fault : TextFault) → Every is_visible bs
    → IsStringFault bs fault → fault ≡ OutOfMemory
refused_text bs OutOfMemory h e = refl
refused_text bs Empty h e = absurd e
refused_text bs fault h e = let none = every_place is_visible bs h in absurd cc
