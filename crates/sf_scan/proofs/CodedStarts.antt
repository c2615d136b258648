-- The first bytes of Byte Sequences and Display Strings.
use Rattle.std.proofs.Common.{◌≡◌, ◌≢◌, ℕ, Bool, true, false, [], ◌∷◌, refl, ap, ◌==◌, ◌&&◌}
use Rattle.std.proofs.Common.{arith, eqb-true}
use Rattle.std.proofs.lemmas.Bool.{and_parts}
use Rattle.sf_value.specs.Ascii.{quote, colon, percent}
use Rattle.sf_value.specs.declared.dialect.Dialect.{Dialect}
use Rattle.sf_value.specs.declared.value.Bare.TheVariants as bare
use Rattle.sf_value.specs.Grammar.Dialects.{is_rfc9651}
use Rattle.sf_value.specs.Grammar.Lines.{Continues}
use Rattle.sf_value.specs.Grammar.BareItems.{SpellsBare}
use Rattle.sf_scan.specs.Places.{is_coded_start}

-- each of them begins a bare item
pub coded_started : (d : Dialect) (b : ℕ) → is_coded_start d b ≡ true
    → Continues (SpellsBare d) (b ∷ [])
coded_started d b h = by (b == colon) refl
  where
    by : (x : Bool) → (b == colon) ≡ x → Continues (SpellsBare d) (b ∷ [])
    by true e = (
      colon ∷ [],
      bare.Blob [],
      (
        colon ∷ [],
        ap (λ x. x ∷ colon ∷ []) (eqb-true b colon e),
        (0, colon ∷ [], omega arith, refl, tt, (0, omega arith, refl)),
      ),
    )
    by false e =
        let k : (b == percent && is_rfc9651 d) ≡ true = rw e at h in
        let p = and_parts (b == percent) (is_rfc9651 d) k in (
          quote ∷ quote ∷ [],
          bare.Shown [],
          (
            p.1,
            (quote ∷ [], ap (λ x. x ∷ quote ∷ quote ∷ []) (eqb-true b percent p.0), refl, tt),
          ),
        )

-- none of them comes
pub no_coded_start : (d : Dialect) (b : ℕ) → b ≢ colon → b ≢ percent → is_coded_start d b ≡ false
no_coded_start d b c p = grind arith
