-- How what single reads give joins.
use Rattle.std.proofs.Common.{ℕ, List, [], ◌++◌, refl, arith, length-append}
use Rattle.std.proofs.KnownBytes.{Consumes-nil, Consumes-trans}
use Rattle.sf_value.specs.Devices.{SourceState, Gives, GivesOnce}

-- no read
pub gives_none : (s : SourceState) → Gives s s []
gives_none s = record {
  consumed = Consumes-nil s.to_come;
  given = λ _. omega arith;
  ends = refl;
  failures = refl;
}

-- one read more
pub gives_more : (a b c : SourceState) (xs ys : List ℕ) → Gives a b xs → GivesOnce b c ys
    → Gives a c (xs ++ ys)
gives_more a b c xs ys p q = record {
  consumed = Consumes-trans a.to_come b.to_come c.to_come xs ys p.consumed q.consumed;
  given = λ h. omega (arith, length-append xs ys, p.given, q.given, h);
  ends = cc;
  failures = cc;
}
