-- What a function that scans a construct returns.
use Rattle.std.specs.Prelude.{◌≡◌, ◌==◌, ℕ, true, false, List, ◌∷◌, ◌++◌, Result, Ok, Err}
use Rattle.sf_value.specs.Ascii.{backslash}
use Rattle.sf_value.specs.declared.dialect.Dialect.{Dialect}
use Rattle.sf_value.specs.declared.value.Bare.{Bare}
use Rattle.sf_value.specs.Grammar.BareItems.{SpellsBare}
use Rattle.sf_value.specs.Grammar.Classes.{is_visible, is_token_start}
use Rattle.sf_value.specs.Grammar.Strings.{is_unescaped, is_escaped, escaped}
use Rattle.sf_value.specs.Grammar.Words.{Every}
use Rattle.sf_scan.specs.Leaves.{leaf_bare}
use Rattle.sf_scan.specs.Places.{in_bare, ends_bare}
use Rattle.sf_scan.specs.Stops.{Reads, Refuses}
use Rattle.sf_value.specs.Runs.{Lacks}
use Rattle.sf_scan.specs.declared.leaf.Leaf.{Leaf}
use Rattle.sf_scan.specs.declared.place.Stop.{Stop}
use Rattle.sf_scan.specs.declared.place.BarePlace.{BarePlace}
use Rattle.sf_scan.specs.declared.place.BarePlace.TheVariants.{Backslash}

-- the leaf is the bare item up to the stop, and the place says what could lengthen it
pub record ReadsLeaf (d : Dialect) (L : List ℕ → Bare → Type 0) (text : List ℕ) (leaf : Leaf)
    (stop : Stop BarePlace)
    : Type 0 where
  pub reads : Reads L (in_bare d stop.place) text (leaf_bare leaf) stop.left.now
  pub ends : ends_bare stop.place ≡ true

-- the text begins with no bare item: it goes wrong at the stop, and the place says what could come
pub record RefusesLeaf (d : Dialect) (L : List ℕ → Bare → Type 0) (text : List ℕ) (stop : Stop BarePlace)
    : Type 0 where
  pub refuses : Refuses L (in_bare d stop.place) text stop.left.now
  pub open_still : ends_bare stop.place ≡ false

abbrev pub ScansLeaf : Dialect → (List ℕ → Bare → Type 0) → List ℕ → Result (Stop BarePlace × Leaf) (Stop BarePlace) → Type 0
ScansLeaf d L text (Ok r) = ReadsLeaf d L text r.1 r.0
ScansLeaf d L text (Err stop) = RefusesLeaf d L text stop

-- the outcome with the leaf that f gives for what was found
abbrev pub leaf_outcome : {A : Type 0} → (A → Leaf) → Result (Stop BarePlace × A) (Stop BarePlace)
    → Result (Stop BarePlace × Leaf) (Stop BarePlace)
leaf_outcome f (Ok r) = Ok (r.0, f r.1)
leaf_outcome f (Err stop) = Err stop

-- the leaf is the bare item up to the stop, and this was made of it and of the bytes that spell it
pub record MakesLeaf {M : Type 0} (makes : List ℕ → Leaf → M → Type 0) (d : Dialect)
    (text : List ℕ) (stop : Stop BarePlace) (made : M)
    : Type 0 where
  pub leaf : Leaf
  pub read : ReadsLeaf d (SpellsBare d) text leaf stop
  pub made_of : makes (read.reads.stops.prefix) leaf made

abbrev pub ScansBare : {M : Type 0} → (List ℕ → Leaf → M → Type 0) → Dialect → List ℕ
    → Result (Stop BarePlace × M) (Stop BarePlace) → Type 0
ScansBare makes d text (Ok r) = MakesLeaf makes d text r.0 r.1
ScansBare makes d text (Err stop) = RefusesLeaf d (SpellsBare d) text stop

-- the text begins with the bytes of a String, escaped, and the rest
pub record PastEscaped (text rest : List ℕ) : Type 0 where
  pub bytes : List ℕ
  pub split : text ≡ escaped bytes ++ rest
  pub visible : Every is_visible bytes

-- no more bytes of the String follow
pub record Escapes (text rest : List ℕ) : Type 0 where
  pub past : PastEscaped text rest
  pub no_byte : Lacks is_unescaped rest
  pub no_escape : Lacks (λ b. b == backslash) rest

-- a backslash follows, and then none of the bytes that may be escaped
pub record StopsEscaped (text : List ℕ) (stop : Stop BarePlace) : Type 0 where
  pub past : PastEscaped text (backslash ∷ stop.left.now)
  pub no_escaped : Lacks is_escaped stop.left.now
  pub place : stop.place ≡ Backslash

-- the text is the first byte of a Token, and more
abbrev pub BeginsToken : List ℕ → List ℕ → Type 0
BeginsToken text more = (b : ℕ) × (text ≡ b ∷ more) × (is_token_start b ≡ true)

-- a byte that may be escaped is before the rest
abbrev pub BeginsEscaped : List ℕ → List ℕ → Type 0
BeginsEscaped text rest = (b : ℕ) × (text ≡ b ∷ rest) × (is_escaped b ≡ true)
