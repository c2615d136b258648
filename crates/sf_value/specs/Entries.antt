-- How contracts see entries as pairs, and the invariant of every `Entries`.
use Rattle.std.specs.Prelude.{ℕ, List}
use Rattle.std.specs.Borrow.{Bor}
use Rattle.std.specs.Map.{keys_of}
use Rattle.sf_value.specs.Grammar.Words.{Each}
use Rattle.sf_value.specs.Grammar.Pairs.{Pairs, HasDistinctKeys}
use Rattle.sf_value.specs.Grammar.Tokens.{IsKey}

-- what two references of an entry point to
abbrev pub deref_entry : {V : Type 0} → Bor (List ℕ) × Bor V → List ℕ × V
deref_entry e = (e.0.now, e.1.now)

-- each key is well-formed, and none occurs twice
pub record AreEntries {V : Type 0} (ps : Pairs V) : Type 0 where
  pub keys : Each IsKey (keys_of ps)
  pub distinct : HasDistinctKeys ps
