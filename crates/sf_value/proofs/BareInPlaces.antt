-- A bare item is in place if its bytes are.
use Rattle.std.proofs.Common.{arith}
use Rattle.sf_value.specs.declared.value.Bare.{Bare}
use Rattle.sf_value.specs.declared.value.Bare.TheVariants.{Integer, Decimal, Text, Token}
use Rattle.sf_value.specs.declared.value.Bare.TheVariants.{Blob, Boolean, Date, Shown}
use Rattle.sf_value.specs.BareBytes.{bytes_in}
use Rattle.sf_value.specs.InPlace.{FitsInPlace}
use Rattle.sf_value.specs.InPlaceValues.{BareInPlace}

pub few_bytes : (b : Bare) → BareInPlace b → FitsInPlace (bytes_in b)
few_bytes (Integer n) few = omega arith
few_bytes (Decimal m) few = omega arith
few_bytes (Text s) few = few
few_bytes (Token s) few = few
few_bytes (Blob s) few = few
few_bytes (Boolean b) few = omega arith
few_bytes (Date n) few = omega arith
few_bytes (Shown s) few = few
